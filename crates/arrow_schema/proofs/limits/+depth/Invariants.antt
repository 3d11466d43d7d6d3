use Rattle.std.proofs.Common.{◌≡◌, map, drop}
use Rattle.std.specs.Prelude.{nat_le}
use Rattle.arrow_schema.specs.Column.{columns_of}
use Rattle.arrow_schema.specs.View.{column_of}
use Rattle.arrow_schema.specs.Preorder.{depth_all}
use Rattle.arrow_schema.proofs.limits.+depth.Given as goal

abbrev pub invariant-are_within_depth-loop-field : goal.invariant-are_within_depth-loop-field
invariant-are_within_depth-loop-field l =
    nat_le (depth_all (columns_of (map column_of (drop l.field-index l.fields)))) l.levels ≡ nat_le (depth_all (columns_of (map column_of l.fields))) l.levels
