use Rattle.std.proofs.Common.{◌≡◌, ◌≤◌, length, map, take, vec_len, vec_capacity, Ok}
use Rattle.arrow_schema.specs.View.{column_of}
use Rattle.query.specs.Bound.{bound}
use Rattle.query.specs.View.{condition_in}
use Rattle.query.specs.inner.BoundView.{bound_in}
use Rattle.query.proofs.selecting.bind_all.Given as goal

-- each condition so far is one on these columns, and there is room for the others
abbrev pub invariant-loop-condition : goal.invariant-loop-condition
invariant-loop-condition l = record {
  bound : map (bound l.dates (map column_of l.fields)) (map condition_in (take l.condition-index l.conditions)) ≡ map (λ b. Ok (bound_in b)) l.bounds.items;
  len : vec_len l.bounds ≡ l.condition-index;
  room : length l.conditions ≤ vec_capacity l.bounds;
}
