use Rattle.std.proofs.Common.{◌≡◌, ◌+◌, ◌-◌, ◌≤◌, false, map}
use Rattle.std.specs.List.{list_any, range_with_len}
use Rattle.arrow_schema.specs.Column.{columns_of}
use Rattle.arrow_schema.specs.View.{column_of}
use Rattle.cells.specs.declared.limits.TheConstants.{MAX_TABLE_WEIGHT}
use Rattle.arrays.specs.inner.Read.{placed_in}
use Rattle.arrays.specs.inner.Weights.{rows_weight}
use Rattle.arrays.proofs.RowWeights.{is_heavy}
use Rattle.arrays.proofs.heavy.weigh.Given as goal

-- the rows so far are not too heavy
abbrev pub invariant-loop-start : goal.invariant-loop-start
invariant-loop-start l =
    let columns = columns_of (map column_of l.placed.fields.now) in
    record {
      within : l.start ≤ l.rows;
      fits : l.before + l.total ≤ MAX_TABLE_WEIGHT;
      exact : l.total ≡ rows_weight columns (placed_in l.placed) 0 l.start;
      light : list_any (is_heavy columns (placed_in l.placed)) (range_with_len 0 l.start) ≡ false;
    }

abbrev pub decreases-loop-start : goal.decreases-loop-start
decreases-loop-start l = l.rows - l.start
