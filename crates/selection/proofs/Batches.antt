-- The batches of the columns asked for, one after another.
use Rattle.std.proofs.Common.{◌≡◌, ℕ, ◌+◌, ◌<◌, true, List, [], ◌∷◌, map, length, take, get_or, refl, sym, ap, ◌∙◌, length-append, arith}
use Rattle.std.specs.Prelude.{sum_by}
use Rattle.std.specs.List.{flat_map, range_with_len}
use Rattle.std.proofs.lemmas.List.{length-map}
use Rattle.std.proofs.lemmas.List.Concat.{flat_map-cons}
use Rattle.std.proofs.lemmas.List.FromFn.{length-map-range_with_len}
use Rattle.std.proofs.lemmas.List.Sums.{sum_by-cons, sum_by-append}
use Rattle.facts.specs.laws.Lists.{maps_same, map_map, take-item}
use Rattle.arrow_schema.specs.Column.{Column, Columns}
use Rattle.arrow_schema.specs.View.{column_of}
use Rattle.arrow_schema.specs.declared.types.Field.{Field}
use Rattle.columns.specs.CellAt.{row_at}
use Rattle.columns.specs.View.{array_in, arrays_in, placed_arrays, fields_of}
use Rattle.columns.specs.declared.array.Dictionary.{Dictionary}
use Rattle.query.specs.Selection.{pick}
use Rattle.selection.specs.declared.picked.PickedBatch.{PickedBatch}
use Rattle.selection.specs.inner.Picked.{first_arrays, picked_columns, picked_arrays, picked_rows, is_picked_sound}
use Rattle.selection.proofs.Arrays.{picked_row, picked_sound}
use Rattle.values.specs.Parts.{arrays_with, batch_rows, is_batch_sound}
use Rattle.values.specs.declared.table_part.Batch.{Batch}
use Rattle.values.specs.declared.table_part.TablePart.{TablePart}

-- ---- what a batch has

module _ (fields : List Field) (places : List ℕ) (p : TablePart) (b : Batch) (own : PickedBatch) (bytes : own.bytes.now ≡ p.bytes.items) (dictionaries : own.dictionaries.now ≡ p.dictionaries.items)
    (arrays : (x : List ℕ) (all : List Dictionary) → map (array_in x (arrays_in x all)) own.arrays.items ≡ pick places (first_arrays (length fields) (placed_arrays x all b.arrays.items)))
    (rows : own.rows ≡ b.rows) where
  abbrev columns : List Column
  columns = map column_of fields

  these : map (array_in own.bytes.now (arrays_in own.bytes.now own.dictionaries.now)) own.arrays.items ≡ pick places (first_arrays (length columns) (arrays_with p b))
  these =
      arrays own.bytes.now own.dictionaries.now
      ∙ (λ k. pick places (first_arrays (sym (length-map fields column_of) k) (placed_arrays (bytes k) (dictionaries k) b.arrays.items)))

  pub batch_picked : picked_rows (picked_columns fields places) own ≡ map (pick places) (batch_rows (fields_of fields) p b)
  batch_picked =
      maps_same (row_at (picked_columns fields places) (picked_arrays own)) (λ i. pick places (row_at (fields_of fields) (arrays_with p b) i))
      (picked_row columns places (arrays_with p b) _ these) (range_with_len 0 own.rows)
      ∙ sym (map_map (pick places) (row_at (fields_of fields) (arrays_with p b)) (range_with_len 0 own.rows))
      ∙ ap (λ n. map (pick places) (map (row_at (fields_of fields) (arrays_with p b)) (range_with_len 0 n))) rows

  pub batch_sound : is_batch_sound (fields_of fields) p b ≡ true → is_picked_sound (picked_columns fields places) own ≡ true
  batch_sound sound =
      ap (λ n. is_picked_sound (picked_columns fields places) (record { arrays = own.arrays; bytes = own.bytes; dictionaries = own.dictionaries; rows = n })) rows
      ∙ picked_sound columns places (arrays_with p b) _ b.rows these sound

-- ---- how many rows

pub rows_counted : (cs : Columns) (bs : List PickedBatch) → length (flat_map (picked_rows cs) bs) ≡ sum_by (λ b. b.rows) bs
rows_counted cs [] = refl
rows_counted cs (b ∷ bs) =
    ap length (flat_map-cons (picked_rows cs) b bs)
    ∙ length-append (picked_rows cs b) (flat_map (picked_rows cs) bs)
    ∙ (λ k. length-map-range_with_len (row_at cs (picked_arrays b)) 0 b.rows k + rows_counted cs bs k)
    ∙ sym (sum_by-cons (λ (c : PickedBatch). c.rows) b bs)

pub sum_more : (bs : List PickedBatch) (i : ℕ) (b : PickedBatch) → i < length bs → b ≡ get_or bs i b → sum_by (λ c. c.rows) (take (i + 1) bs) ≡ sum_by (λ c. c.rows) (take i bs) + b.rows
sum_more bs i b lt is =
    let f = λ (c : PickedBatch). c.rows in
    ap (sum_by f) (take-item bs i b lt is) ∙ sum_by-append f (take i bs) (b ∷ []) ∙ ap (λ n. sum_by f (take i bs) + n) (omega (arith, sum_by-cons f b []))
