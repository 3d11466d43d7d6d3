use Rattle.std.proofs.Common.{take}
use Rattle.cli_scripts.specs.Plain.{plain_lines}
use Rattle.cli_replay.specs.Replay.{AreCommandsOfLines}
use Rattle.cli_replay.proofs.commands.commands_of.Given as goal

abbrev pub invariant-loop-line : goal.invariant-loop-line
invariant-loop-line g l = AreCommandsOfLines g.F.Read.remaining (plain_lines (take l.line-index l.lines)) l.commands.items
