use Rattle.std.proofs.Common.{◌≡◌, map, drop}
use Rattle.arrow_schema.specs.Column.{columns_of}
use Rattle.arrow_schema.specs.View.{column_of}
use Rattle.arrow_schema.specs.inner.Alike.{alike_all}
use Rattle.arrow_schema.proofs.compare.+same.Given as goal

abbrev pub invariant-same_fields-loop-i : goal.invariant-same_fields-loop-i
invariant-same_fields-loop-i l =
    alike_all l.detail (columns_of (map column_of (drop l.i l.xs))) (columns_of (map column_of (drop l.i l.ys))) ≡ alike_all l.detail (columns_of (map column_of l.xs)) (columns_of (map column_of l.ys))
