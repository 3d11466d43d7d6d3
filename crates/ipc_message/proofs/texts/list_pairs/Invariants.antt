use Rattle.std.proofs.Common.{◌≡◌, ◌++◌, drop, map}
use Rattle.facts.specs.Texts.{text_list}
use Rattle.ipc_message.specs.Checks.{texts_of_pairs}
use Rattle.ipc_message.specs.View.{key_value}
use Rattle.ipc_message.proofs.texts.list_pairs.Given as goal

abbrev pub invariant-loop-pair : goal.invariant-loop-pair
invariant-loop-pair l = text_list l.texts.items ++ texts_of_pairs (map key_value (drop l.pair-index l.pairs)) ≡ text_list l.fn.texts.items ++ texts_of_pairs (map key_value l.pairs)
