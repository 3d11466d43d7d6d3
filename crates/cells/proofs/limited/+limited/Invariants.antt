use Rattle.std.proofs.Common.{◌≡◌, map, drop}
use Rattle.arrow_schema.specs.Column.{columns_of}
use Rattle.arrow_schema.specs.View.{column_of}
use Rattle.cells.specs.Dictionary.{is_any_limited}
use Rattle.cells.proofs.limited.+limited.Given as goal

abbrev pub invariant-is_any_limited-loop-field : goal.invariant-is_any_limited-loop-field
invariant-is_any_limited-loop-field l =
    is_any_limited (columns_of (map column_of (drop l.field-index l.fields))) ≡ is_any_limited (columns_of (map column_of l.fields))
