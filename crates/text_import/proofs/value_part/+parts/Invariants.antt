use Rattle.std.proofs.Common.{◌≡◌, map, drop}
use Rattle.serde_json.specs.View.{items_view, members_view}
use Rattle.arrow_schema.specs.Column.{columns_of}
use Rattle.arrow_schema.specs.View.{column_of}
use Rattle.text_import.specs.ValuePart.{items_part, cell_part, part_by_place, part_by_name}
use Rattle.text_import.proofs.value_part.+parts.Given as goal

abbrev pub invariant-items_part-loop-place : goal.invariant-items_part-loop-place
invariant-items_part-loop-place l = items_part l.place (cell_part l.date_form (column_of l.item)) (items_view (drop l.place l.values)) ≡ items_part 0 (cell_part l.date_form (column_of l.item)) (items_view l.values)

abbrev pub invariant-part_by_place-loop-i : goal.invariant-part_by_place-loop-i
invariant-part_by_place-loop-i l =
    part_by_place l.date_form l.before l.i (columns_of (map column_of (drop l.i l.fields))) (items_view (drop l.i l.values)) ≡ part_by_place l.date_form l.before 0 (columns_of (map column_of l.fields)) (items_view l.values)

abbrev pub invariant-part_by_name-loop-i : goal.invariant-part_by_name-loop-i
invariant-part_by_name-loop-i l =
    part_by_name l.date_form l.before l.i (columns_of (map column_of (drop l.i l.fields))) (members_view l.members.entries) ≡ part_by_name l.date_form l.before 0 (columns_of (map column_of l.fields)) (members_view l.members.entries)
