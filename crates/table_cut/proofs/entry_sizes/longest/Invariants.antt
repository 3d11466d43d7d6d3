use Rattle.std.proofs.Common.{◌+◌, ◌-◌, ◌<◌, ◌≤◌, ℕ}
use Rattle.columns.specs.CellAt.{number_at}
use Rattle.columns.specs.Offsets.{width_of}
use Rattle.table_cut.proofs.entry_sizes.longest.Given as goal

abbrev pub invariant-loop-i : goal.invariant-loop-i
invariant-loop-i l = (k : ℕ) → k < l.i → number_at (width_of l.width) l.offsets (k + 1) - number_at (width_of l.width) l.offsets k ≤ l.longest
