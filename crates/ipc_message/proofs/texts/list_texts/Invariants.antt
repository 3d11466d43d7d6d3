use Rattle.std.proofs.Common.{◌≡◌, ◌++◌, drop, map}
use Rattle.std.specs.Prelude.{flat_map}
use Rattle.facts.specs.Texts.{text_list}
use Rattle.ipc_message.specs.Checks.{texts_of_pairs, texts_of_field}
use Rattle.ipc_message.specs.View.{key_value}
use Rattle.ipc_message.specs.inner.Listed.{listed}
use Rattle.ipc_message.proofs.texts.list_texts.Given as goal

abbrev pub invariant-loop-place : goal.invariant-loop-place
invariant-loop-place l = text_list l.texts.items ++ flat_map texts_of_field (listed (drop l.place-index l.fields)) ≡ texts_of_pairs (map key_value l.pairs) ++ flat_map texts_of_field (listed l.fields)
