use Rattle.std.proofs.Common.{◌≡◌, ◌<◌, ℕ}
use Rattle.std.specs.Prelude.{Option, Some, None, slice_get}
use Rattle.text_columns.proofs.complete.clear.Given as goal

abbrev pub invariant-loop-i : goal.invariant-loop-i
invariant-loop-i l = record {
  none : (j : ℕ) (w : Option ℕ) → j < l.i → slice_get l.weights j ≡ Some w → w ≡ None;
}
