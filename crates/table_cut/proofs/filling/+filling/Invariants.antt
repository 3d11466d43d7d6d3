use Rattle.std.proofs.Common.{◌≡◌, map, drop}
use Rattle.arrow_schema.specs.Column.{columns_of}
use Rattle.arrow_schema.specs.View.{column_of}
use Rattle.table_cut.specs.inner.Filling.{can_any_fill}
use Rattle.table_cut.proofs.filling.+filling.Given as goal

abbrev pub invariant-can_any_fill-loop-field : goal.invariant-can_any_fill-loop-field
invariant-can_any_fill-loop-field l =
    can_any_fill l.values (columns_of (map column_of (drop l.field-index l.fields))) ≡ can_any_fill l.values (columns_of (map column_of l.fields))
