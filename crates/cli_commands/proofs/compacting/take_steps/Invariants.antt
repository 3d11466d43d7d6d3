-- The steps so far.
use Rattle.cli_commands.proofs.CompactingLemmas.{SoFar}
use Rattle.cli_commands.proofs.compacting.take_steps.Given as goal

abbrev pub invariant-loop-count : goal.invariant-loop-count
invariant-loop-count g l = SoFar l.count l.fn.store l.store
