use Rattle.std.specs.Str.{IsCharBoundary}
use Rattle.std.proofs.Common.{ℕ, ◌-◌, ◌≤◌, ◌<◌}
use Rattle.columns.specs.CellAt.{number_at}
use Rattle.columns.specs.Offsets.{width_of}
use Rattle.arrays.proofs.visible.texts.are_boundaries.Given as goal

-- at each offset so far a character begins
abbrev pub invariant-loop-i : goal.invariant-loop-i
invariant-loop-i l = (k : ℕ) → l.from ≤ k → k < l.i → IsCharBoundary l.text (number_at (width_of l.width) l.offsets k - l.start)
