use Rattle.std.proofs.Common.{◌≡◌, ◌≤◌, vec_len, vec_capacity}
use Rattle.std.specs.List.{range_with_len}
use Rattle.query.proofs.selecting.all_places.Given as goal

abbrev pub invariant-loop-place : goal.invariant-loop-place
invariant-loop-place l = record {
  places : l.places.items ≡ range_with_len 0 l.place;
  len : vec_len l.places ≡ l.place;
  room : l.count ≤ vec_capacity l.places;
}
