use Rattle.std.proofs.Common.{◌≡◌, map, drop}
use Rattle.arrow_schema.specs.Column.{columns_of}
use Rattle.arrow_schema.specs.View.{column_of}
use Rattle.arrow_schema.specs.Preorder.{preorder_all}
use Rattle.arrow_schema.specs.inner.SchemaTotals.{tallied}
use Rattle.arrow_schema.proofs.limits.+totals.Given as goal

abbrev pub invariant-totals_fields-loop-field : goal.invariant-totals_fields-loop-field
invariant-totals_fields-loop-field l =
    tallied l.totals (preorder_all (columns_of (map column_of (drop l.field-index l.fields)))) ≡ tallied l.fn.totals (preorder_all (columns_of (map column_of l.fields)))
