-- The lines of the rows that are chosen of a table.
use Rattle.std.proofs.Common.{◌≡◌, ℕ, ◌+◌, ◌-◌, ◌^◌, ◌<◌, true, List, ◌++◌, map, length, take, sym, ap, ◌∙◌, arith}
use Rattle.std.specs.Prelude.{unwrap_or}
use Rattle.std.specs.List.{flat_map, list_all}
use Rattle.std.proofs.lemmas.Bool.{and_from}
use Rattle.std.proofs.lemmas.List.{length-take}
use Rattle.arrow_schema.specs.Column.{Column, Columns, columns_of}
use Rattle.arrow_schema.specs.View.{column_of}
use Rattle.arrow_schema.specs.declared.types.Field.{Field}
use Rattle.cells.specs.Cell.{Cell, PlainTable}
use Rattle.columns.specs.View.{fields_of}
use Rattle.query.specs.BatchArrays.{has_texts}
use Rattle.query.specs.BoundQuery.{PlainBoundQuery, rows_held, rows_selected}
use Rattle.query.specs.Choice.{rows_set}
use Rattle.query.specs.ObjectLine.{lines_text}
use Rattle.query.specs.Selection.{pick}
use Rattle.query.specs.declared.row_form.RowForm.{RowForm}
use Rattle.query.specs.laws.Limits.{take_both}
use Rattle.query.specs.laws.Lines.{ArePrinted, more_printed}
use Rattle.query.specs.laws.Readable.{table_texts, picked_texts}
use Rattle.query.specs.laws.RowsSet.{set_append}
use Rattle.query.specs.laws.Tests.{all_of_flat, all_both}
use Rattle.selection.specs.declared.picked.PickedBatch.{PickedBatch}
use Rattle.selection.specs.inner.Picked.{picked_rows, is_picked_sound, is_picked_readable}
use Rattle.selection.proofs.Selected.{own_columns, ArePicked, rows_picked}
use Rattle.values.specs.Table.{IsTable}

-- ---- batch after batch

-- one batch more
pub batch_printed : (form : RowForm) (cs : List Column) (most left n : ℕ) (mask : List ℕ) (start : ℕ) (front own whole : List (List Cell)) (old out new : List ℕ) → start ≡ length front → whole ≡ front ++ own
    → ArePrinted form cs most (take most (rows_set mask 0 front)) old out left → new ≡ out ++ lines_text form cs (take left (rows_set mask start own)) → n ≡ length (take left (rows_set mask start own))
    → ArePrinted form cs most (take most (rows_set mask 0 whole)) old new (left - n)
batch_printed form cs most left n mask start front own whole old out new at is h added count =
    let these = rows_set mask 0 front in
    let e : 0 + length front ≡ start = omega (arith, at) in
    let room : most - length these ≡ left = omega (arith, h.room, length-take most these) in
    let all : take most (rows_set mask 0 whole) ≡ take most these ++ take left (rows_set mask start own) =
    ap (λ (rows : List (List Cell)). take most (rows_set mask 0 rows)) is
    ∙ ap (take most) (set_append mask 0 front own ∙ ap (λ (k : ℕ). these ++ rows_set mask k own) e)
    ∙ take_both most these (rows_set mask start own)
    ∙ ap (λ (k : ℕ). take most these ++ take k (rows_set mask start own)) room in
    more_printed form cs most (take most these) (take left (rows_set mask start own)) _ old out new left n all count (omega (arith, count, length-take left (rows_set mask start own))) h added

-- ---- the batches of the columns asked for

-- their slots can be looked up, and their texts are UTF-8
pub picked_readable : (t : PlainTable) (places : List ℕ) (own : List Field) (batches : List PickedBatch) → ArePicked t places batches → IsTable t → pick places t.schema.columns ≡ map column_of own
    → list_all (is_picked_readable (fields_of own)) batches ≡ true
picked_readable t places own batches are is columns =
    let cs : Columns = own_columns t places in
    ap (λ (xs : List Column). list_all (is_picked_readable (columns_of xs)) batches) (sym columns)
    ∙ all_both (is_picked_sound cs) (λ b. list_all has_texts (picked_rows cs b)) (is_picked_readable cs) (λ b one other. and_from _ _ one other) batches are.sound
    (all_of_flat has_texts (picked_rows cs) batches (ap (list_all has_texts) are.rows_are ∙ picked_texts places t.rows (table_texts t is)))

-- what is printed of them is what is selected
pub rows_printed : (t : PlainTable) (q : PlainBoundQuery) (most : ℕ) (own : List Field) (given mask : List ℕ) (batches : List PickedBatch) → ArePicked t q.places batches
    → pick q.places t.schema.columns ≡ map column_of own → given ≡ mask → rows_set mask 0 (map (pick q.places) t.rows) ≡ map (pick q.places) (rows_held q t.rows)
    → most ≡ unwrap_or q.limit (2 ^ 64 - 1) → length t.rows < 2 ^ 64 → take most (rows_set given 0 (flat_map (picked_rows (fields_of own)) batches)) ≡ rows_selected q t.rows
rows_printed t q most own given mask batches are columns same held is few =
    (λ i. take most (rows_set given 0 (flat_map (picked_rows (columns_of (sym columns i))) batches))) ∙ rows_picked t q most given mask batches are same held is few
