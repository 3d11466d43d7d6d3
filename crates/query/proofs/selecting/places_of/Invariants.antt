use Rattle.std.proofs.Common.{◌≡◌, ◌≤◌, length, map, take, true, vec_len, vec_capacity}
use Rattle.std.specs.Prelude.{Some, string_bytes}
use Rattle.arrow_schema.specs.View.{column_of}
use Rattle.query.specs.Bound.{place_of}
use Rattle.query.specs.Selection.{is_distinct}
use Rattle.query.proofs.selecting.places_of.Given as goal

-- each name so far is that of one column, these are distinct, and there is room for the others
abbrev pub invariant-loop-name : goal.invariant-loop-name
invariant-loop-name l = record {
  found : map (place_of (map column_of l.fields)) (map string_bytes (take l.name-index l.names)) ≡ map Some l.places.items;
  distinct : is_distinct l.places.items ≡ true;
  len : vec_len l.places ≡ l.name-index;
  room : length l.names ≤ vec_capacity l.places;
}
