use Rattle.std.proofs.Common.{◌≡◌, ◌≤◌, drop, length, vec_len, vec_capacity}
use Rattle.arrays.specs.inner.Rest.{ArraysEnd}
use Rattle.arrays.proofs.Placed.{IsDone}
use Rattle.arrays.proofs.Ends.{IsBehind}
use Rattle.arrays.proofs.place.+place.Given as goal

abbrev pub invariant-place_all-loop-field : goal.invariant-place_all-loop-field
invariant-place_all-loop-field l = record {
  done : IsDone l.rest l.left l.fields (drop l.field-index l.fields) l.arrays.items;
  behind : IsBehind l.rest l.left;
  end : ArraysEnd l.rest l.arrays.items;
  len : vec_len l.arrays ≡ l.field-index;
  room : length l.fields ≤ vec_capacity l.arrays;
}
