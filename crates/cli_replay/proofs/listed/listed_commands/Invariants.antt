use Rattle.std.proofs.Common.{take}
use Rattle.cli_scripts.specs.Plain.{plain_lines}
use Rattle.cli_replay.specs.Listed.{AreListedOfLines}
use Rattle.cli_replay.proofs.listed.listed_commands.Given as goal

abbrev pub invariant-loop-line : goal.invariant-loop-line
invariant-loop-line g l = AreListedOfLines g.F.Read.remaining (plain_lines (take l.line-index l.lines)) l.commands.items
