use Rattle.std.proofs.Common.{◌≡◌, drop}
use Rattle.std.specs.List.{list_any}
use Rattle.arrays.specs.Checks.{typed_is_short}
use Rattle.arrays.specs.inner.Every.{all_of}
use Rattle.arrays.proofs.array_checks.any_short.Given as goal

abbrev pub invariant-loop-array : goal.invariant-loop-array
invariant-loop-array l = list_any typed_is_short (all_of (drop l.array-index l.every)) ≡ list_any typed_is_short (all_of l.every)
