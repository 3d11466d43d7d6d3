use Rattle.std.proofs.Common.{take, map}
use Rattle.facts.specs.Texts.{text_list}
use Rattle.cli_scripts.specs.Plain.{plain_words}
use Rattle.cli_scripts.specs.Words.{HaveWords}
use Rattle.cli_scripts.proofs.words.script_words.Given as goal

abbrev pub invariant-loop-line : goal.invariant-loop-line
invariant-loop-line l = HaveWords (take l.line-index (text_list l.line-items)) (map plain_words l.words.items)
