use Rattle.std.proofs.Common.{◌≡◌, map, drop}
use Rattle.arrow_schema.specs.View.{column_of}
use Rattle.query.specs.RefusedPlace.{first_refused}
use Rattle.query.specs.View.{condition_in}
use Rattle.query.proofs.refused_place.first_refused.Given as goal

abbrev pub invariant-loop-i : goal.invariant-loop-i
invariant-loop-i l = first_refused l.dates (map column_of l.fields) l.i (map condition_in (drop l.i l.conditions)) ≡ first_refused l.dates (map column_of l.fields) 0 (map condition_in l.conditions)
