use Rattle.std.proofs.Common.{◌≡◌, ℕ, ◌+◌, Some, drop}
use Rattle.columns.specs.View.{fields_of}
use Rattle.weight_bounds.specs.Bound.{parts_more_in_eight}
use Rattle.weight_bounds.proofs.bound.+more.Given as goal

-- with what the fields that are left have, the total is that of all
abbrev pub invariant-parts_more_in_eight-loop-field : goal.invariant-parts_more_in_eight-loop-field
invariant-parts_more_in_eight-loop-field l = (rest : ℕ) → parts_more_in_eight (fields_of (drop l.field-index l.fields)) ≡ Some rest → parts_more_in_eight (fields_of l.fields) ≡ Some (l.total + rest)
