use Rattle.std.proofs.Common.{take, map}
use Rattle.cli_scripts.specs.Plain.{plain_grouping, plain_words}
use Rattle.cli_scripts.proofs.Grouped.{AreRead}
use Rattle.cli_scripts.proofs.script.parse_script.Given as goal

abbrev pub invariant-loop-place : goal.invariant-loop-place
invariant-loop-place l = AreRead (take l.place (map plain_words l.words)) (plain_grouping l.grouping)
