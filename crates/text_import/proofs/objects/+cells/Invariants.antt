use Rattle.std.proofs.Common.{◌≡◌, ◌≤◌, length, map, drop, vec_len, vec_capacity}
use Rattle.serde_json.specs.View.{items_view, members_view}
use Rattle.arrow_schema.specs.Column.{columns_of}
use Rattle.arrow_schema.specs.View.{column_of}
use Rattle.cells.specs.View.{cell}
use Rattle.text_import.specs.Objects.{each_item, cell_in, cells_by_place, cells_by_name}
use Rattle.text_import.proofs.RowLemmas.{cells_behind}
use Rattle.text_import.proofs.objects.+cells.Given as goal

abbrev pub invariant-each_item-loop-value : goal.invariant-each_item-loop-value
invariant-each_item-loop-value l = record {
  cells : cells_behind (map cell l.cells.items) (each_item (cell_in l.date_form (column_of l.item)) (items_view (drop l.value-index l.values))) ≡ each_item (cell_in l.date_form (column_of l.item)) (items_view l.values);
  len : vec_len l.cells ≡ l.value-index;
  room : length l.values ≤ vec_capacity l.cells;
}

abbrev pub invariant-cells_by_place-loop-i : goal.invariant-cells_by_place-loop-i
invariant-cells_by_place-loop-i l = record {
  cells : cells_behind (map cell l.cells.items) (cells_by_place l.date_form (columns_of (map column_of (drop l.i l.fields))) (items_view (drop l.i l.values)))
      ≡ cells_by_place l.date_form (columns_of (map column_of l.fields)) (items_view l.values);
  len : vec_len l.cells ≡ l.i;
  room : length l.fields ≤ vec_capacity l.cells;
}

abbrev pub invariant-cells_by_name-loop-field : goal.invariant-cells_by_name-loop-field
invariant-cells_by_name-loop-field l = record {
  cells : cells_behind (map cell l.cells.items) (cells_by_name l.date_form (columns_of (map column_of (drop l.field-index l.fields))) (members_view l.members.entries))
      ≡ cells_by_name l.date_form (columns_of (map column_of l.fields)) (members_view l.members.entries);
  len : vec_len l.cells ≡ l.field-index;
  room : length l.fields ≤ vec_capacity l.cells;
}
