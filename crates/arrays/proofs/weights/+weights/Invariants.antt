use Rattle.std.proofs.Common.{◌≡◌, ℕ, ◌+◌, ◌-◌, ◌*◌, ◌≤◌, ◌<◌, get_or, length, true, map, drop}
use Rattle.arrow_schema.specs.Column.{columns_of}
use Rattle.arrow_schema.specs.View.{kind_of, column_of, index_of}
use Rattle.cells.specs.Cell.{null}
use Rattle.columns.specs.Array.{children_in, dictionary_in}
use Rattle.cells.specs.Weight.{weight, kind_weight, capped_weight}
use Rattle.columns.specs.CellAt.{entries_of_kind, unless_null, indexed_cell}
use Rattle.columns.specs.Sound.{are_sound}
use Rattle.columns.specs.View.{view_array, placed_arrays}
use Rattle.arrays.specs.inner.Weights.{sum_from, plain_weight, masked_weight, masked_parts_weight, parts_span_weight}
use Rattle.arrays.proofs.weights.+weights.Given as goal

-- the weight so far, the nulls so far, and what is left
abbrev pub invariant-runs_weight-loop-start : goal.invariant-runs_weight-loop-start
invariant-runs_weight-loop-start l =
    let kind = kind_of l.field.data_type in
    record {
      low : l.fn.from ≤ l.start;
      within : l.start ≤ l.end;
      few : l.nulls ≤ l.start - l.fn.from;
      sums : capped_weight (l.total + (l.nulls * kind_weight kind null + plain_weight kind (view_array l.view) l.start (l.end - l.start)))
          ≡ capped_weight (plain_weight kind (view_array l.view) l.fn.from l.fn.count);
      capped : capped_weight l.total ≡ l.total;
    }

abbrev pub decreases-runs_weight-loop-start : goal.decreases-runs_weight-loop-start
decreases-runs_weight-loop-start l = l.end - l.start

abbrev pub invariant-masked_weight-loop-start : goal.invariant-masked_weight-loop-start
invariant-masked_weight-loop-start l =
    let column = column_of l.field in
    record {
      low : l.fn.from ≤ l.start;
      within : l.start ≤ l.end;
      few : l.nulls ≤ l.start - l.fn.from;
      sums : capped_weight (l.total + (l.nulls * weight column null + masked_weight column (view_array l.mask) (view_array l.view) l.start (l.end - l.start)))
          ≡ capped_weight (masked_weight column (view_array l.mask) (view_array l.view) l.fn.from l.fn.count);
      capped : capped_weight l.total ≡ l.total;
    }

abbrev pub decreases-masked_weight-loop-start : goal.decreases-masked_weight-loop-start
decreases-masked_weight-loop-start l = l.end - l.start

abbrev pub invariant-masked_fields_weight-loop-i : goal.invariant-masked_fields_weight-loop-i
invariant-masked_fields_weight-loop-i l =
    let arrays = placed_arrays l.view.bytes.now l.view.dictionaries.now (drop l.i l.children) in
    record {
      sums : capped_weight (l.total + masked_parts_weight (columns_of (map column_of (drop l.i l.fields))) (view_array l.view) arrays l.from l.count)
          ≡ capped_weight (masked_parts_weight (columns_of (map column_of l.fields)) (view_array l.view) (children_in (view_array l.view)) l.from l.count);
      capped : capped_weight l.total ≡ l.total;
      sound : are_sound (columns_of (map column_of (drop l.i l.fields))) (l.from + l.count) arrays ≡ true;
    }

abbrev pub invariant-parts_weight-loop-i : goal.invariant-parts_weight-loop-i
invariant-parts_weight-loop-i l = record {
  sums : capped_weight (l.total + parts_span_weight (columns_of (map column_of (drop l.i l.fields))) (placed_arrays l.bytes l.dictionaries (drop l.i l.arrays)) l.from l.count)
      ≡ capped_weight (parts_span_weight (columns_of (map column_of l.fields)) (placed_arrays l.bytes l.dictionaries l.arrays) l.from l.count);
  capped : capped_weight l.total ≡ l.total;
  sound : are_sound (columns_of (map column_of (drop l.i l.fields))) (l.from + l.count) (placed_arrays l.bytes l.dictionaries (drop l.i l.arrays)) ≡ true;
}

abbrev pub invariant-slots_weight-loop-i : goal.invariant-slots_weight-loop-i
invariant-slots_weight-loop-i l = record {
  sums : capped_weight (l.total + sum_from (kind_weight (kind_of l.field.data_type)) (unless_null (indexed_cell (index_of l.slots.spec) (kind_of l.field.data_type)) (view_array l.slots.view)) l.i (l.i-end - l.i))
      ≡ capped_weight (sum_from (kind_weight (kind_of l.field.data_type)) (unless_null (indexed_cell (index_of l.slots.spec) (kind_of l.field.data_type)) (view_array l.slots.view)) l.from l.count);
  capped : capped_weight l.total ≡ l.total;
}

-- the first entries are weighed
abbrev pub invariant-first_weights-loop-n : goal.invariant-first_weights-loop-n
invariant-first_weights-loop-n l =
    let kind = kind_of l.field.data_type in
    record {
      long : length l.weights ≡ 256;
      weights : (m : ℕ) → m < l.n → get_or l.weights m 0 ≡ capped_weight (kind_weight kind (get_or (entries_of_kind kind (dictionary_in (view_array l.view))) m null));
    }
