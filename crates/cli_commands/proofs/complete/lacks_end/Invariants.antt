-- The bytes that are left are whole messages exactly if all are.
use Rattle.std.proofs.Common.{◌≤◌, ◌-◌, ◌↔◌, length, drop}
use Rattle.cli_commands.specs.Complete.{LacksEnd}
use Rattle.cli_commands.proofs.complete.lacks_end.Given as goal

abbrev pub invariant-loop-start : goal.invariant-loop-start
invariant-loop-start l = (l.start ≤ length l.bytes) × (LacksEnd (drop l.start l.bytes) ↔ LacksEnd l.bytes)

abbrev pub decreases-loop-start : goal.decreases-loop-start
decreases-loop-start l = length l.bytes - l.start
