use Rattle.std.proofs.Common.{◌≡◌, drop}
use Rattle.std.specs.List.{list_all}
use Rattle.std.specs.Str.{is_utf8}
use Rattle.facts.specs.Texts.{text_list}
use Rattle.ipc_message.proofs.texts.are_utf8.Given as goal

abbrev pub invariant-loop-text : goal.invariant-loop-text
invariant-loop-text l = list_all is_utf8 (text_list (drop l.text-index l.texts)) ≡ list_all is_utf8 (text_list l.texts)
