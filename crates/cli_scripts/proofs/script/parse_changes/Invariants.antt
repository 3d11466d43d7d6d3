use Rattle.std.proofs.Common.{take, map}
use Rattle.cli_scripts.specs.Plain.{plain_lines, plain_words}
use Rattle.cli_scripts.specs.Script.{HaveChanges}
use Rattle.cli_scripts.proofs.script.parse_changes.Given as goal

abbrev pub invariant-loop-place : goal.invariant-loop-place
invariant-loop-place l = HaveChanges (take l.place (map plain_words l.words)) (plain_lines l.lines.items)
