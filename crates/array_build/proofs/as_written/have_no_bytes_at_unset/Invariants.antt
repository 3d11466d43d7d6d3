use Rattle.std.specs.Prelude.{◌||◌, ◌==◌}
use Rattle.std.proofs.Common.{◌≡◌, ℕ, ◌+◌, ◌-◌, ◌≤◌, ◌<◌, true}
use Rattle.bitmap.specs.Bits.{bit}
use Rattle.columns.specs.CellAt.{number_at}
use Rattle.columns.specs.Offsets.{width_of}
use Rattle.array_build.proofs.as_written.have_no_bytes_at_unset.Given as goal

-- the slots so far that are not valid have no byte
abbrev pub invariant-loop-i : goal.invariant-loop-i
invariant-loop-i l = record {
  begins : l.from ≤ l.i;
  ends : l.i ≤ l.to;
  written : (k : ℕ) → l.from ≤ k → k < l.i → (bit l.validity k || (number_at (width_of l.width) l.offsets (k + 1) - number_at (width_of l.width) l.offsets k) == 0) ≡ true;
}

abbrev pub decreases-loop-i : goal.decreases-loop-i
decreases-loop-i l = l.to - l.i
