use Rattle.std.specs.Prelude.{◌||◌}
use Rattle.std.proofs.Common.{◌≡◌, ℕ, ◌-◌, ◌≤◌, ◌<◌, true}
use Rattle.array_build.specs.inner.Runs.{are_zeros}
use Rattle.bitmap.specs.Bits.{bit}
use Rattle.columns.specs.CellAt.{value_at}
use Rattle.array_build.proofs.as_written.have_zeros_at_unset.Given as goal

-- the slots so far that are not valid have zeros
abbrev pub invariant-loop-i : goal.invariant-loop-i
invariant-loop-i l = record {
  begins : l.from ≤ l.i;
  ends : l.i ≤ l.to;
  written : (k : ℕ) → l.from ≤ k → k < l.i → (bit l.validity k || are_zeros (value_at l.width l.values k)) ≡ true;
}

abbrev pub decreases-loop-i : goal.decreases-loop-i
decreases-loop-i l = l.to - l.i
