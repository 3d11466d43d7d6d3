use Rattle.std.proofs.Common.{◌≡◌, drop}
use Rattle.facts.specs.Texts.{text_list}
use Rattle.cli_scripts.specs.Script.{are_conditions}
use Rattle.cli_scripts.proofs.script.are_conditions.Given as goal

abbrev pub invariant-loop-text : goal.invariant-loop-text
invariant-loop-text l = are_conditions (text_list (drop l.text-index l.texts)) ≡ are_conditions (text_list l.texts)
