-- The only record batch of a table that is kept in one part: its slots can be looked up, and its texts are UTF-8.
use Rattle.std.specs.Prelude.{◌&&◌, get_or}
use Rattle.std.specs.List.{list_all, flat_map}
use Rattle.std.proofs.Common.{◌≡◌, ◌≤◌, ◌<◌, true, List, [], ◌∷◌, length, ap, sym, ◌∙◌, arith}
use Rattle.std.proofs.lemmas.Bool.{and_parts, and_from}
use Rattle.std.proofs.lemmas.List.{append-nil}
use Rattle.arrow_schema.specs.Column.{Columns, columns_of}
use Rattle.cells.specs.Cell.{Cell, PlainTable}
use Rattle.columns.specs.CellAt.{rows_in}
use Rattle.columns.specs.Sound.{are_sound}
use Rattle.query.specs.BatchArrays.{has_texts}
use Rattle.query.specs.laws.Readable.{table_texts}
use Rattle.values.specs.Parts.{arrays_with, batch_rows, part_rows, parts_rows, parts_table, is_batch_sound, are_parts_sound}
use Rattle.values.specs.Table.{IsTable}
use Rattle.values.specs.declared.table_part.Batch.{Batch}
use Rattle.values.specs.declared.table_part.TablePart.{TablePart}

-- the one item of a list
pub only_item : {X : Type 0} (xs : List X) (x : X) → 1 ≤ length xs → length xs < 2 → x ≡ get_or xs 0 x → xs ≡ x ∷ []
only_item [] x some few is = absurd (omega arith)
only_item (y ∷ []) x some few is = ap (λ z. z ∷ []) (sym is)
only_item (y ∷ z ∷ zs) x some few is = absurd (omega arith)

-- the rows of a part of one batch
only_rows : (columns : Columns) (p : TablePart) (b : Batch) → p.batches.items ≡ b ∷ [] → parts_rows columns (p ∷ []) ≡ batch_rows columns p b
only_rows columns p b is =
    append-nil (part_rows columns p)
    ∙ ap (λ (batches : List Batch). flat_map (batch_rows columns p) batches) is
    ∙ append-nil (batch_rows columns p b)

only_sound : (columns : Columns) (p : TablePart) (b : Batch) → p.batches.items ≡ b ∷ [] → are_parts_sound columns (p ∷ []) ≡ true → is_batch_sound columns p b ≡ true
only_sound columns p b is sound =
    let own = (and_parts (list_all (is_batch_sound columns p) p.batches.items) true sound).0 in
    (and_parts (is_batch_sound columns p b) true (ap (λ (batches : List Batch). list_all (is_batch_sound columns p) batches) (sym is) ∙ own)).0

pub only_batch_is_readable : (t : PlainTable) (parts : List TablePart) (p : TablePart) (b : Batch) → IsTable t → t ≡ parts_table t.schema parts
    → are_parts_sound (columns_of t.schema.columns) parts ≡ true → parts ≡ p ∷ [] → p.batches.items ≡ b ∷ []
    → (are_sound (columns_of t.schema.columns) b.rows (arrays_with p b) && list_all has_texts (rows_in (columns_of t.schema.columns) (arrays_with p b) b.rows)) ≡ true
only_batch_is_readable t parts p b is rows sound only batches =
    let columns : Columns = columns_of t.schema.columns in
    let own : are_parts_sound columns (p ∷ []) ≡ true = ap (λ (ps : List TablePart). are_parts_sound columns ps) (sym only) ∙ sound in
    let all : t.rows ≡ batch_rows columns p b =
    ap (λ (u : PlainTable). u.rows) rows ∙ ap (λ (ps : List TablePart). parts_rows columns ps) only ∙ only_rows columns p b batches in
    let texts : list_all has_texts (batch_rows columns p b) ≡ true = ap (λ (xs : List (List Cell)). list_all has_texts xs) (sym all) ∙ table_texts t is in
    and_from _ _ (only_sound columns p b batches own) texts
