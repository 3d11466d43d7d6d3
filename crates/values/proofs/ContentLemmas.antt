-- The rows of a table, however they are kept.
use Rattle.std.specs.Prelude.{slice_get, Vec, sum, ◌==◌}
use Rattle.std.specs.Global.{Global}
use Rattle.std.proofs.Common.{◌≡◌, ℕ, ◌≤◌, ◌<◌, true, List, [], ◌∷◌, map, length, Some, None, refl, sym, ◌∙◌, arith}
use Rattle.std.proofs.lemmas.Bool.{and_parts, eqb-true}
use Rattle.std.proofs.lemmas.List.{length-map}
use Rattle.std.proofs.lemmas.List.Elements.{All-get_or}
use Rattle.std.proofs.lemmas.List.Sums.{sum_by-cons}
use Rattle.std.proofs.lemmas.Option.{slice_get_past, slice_get_within, get_or_from_slice_get}
use Rattle.arrow_schema.specs.Column.{Columns, columns_of, PlainSchema}
use Rattle.arrow_schema.specs.declared.types.Schema.{Schema}
use Rattle.arrow_schema.specs.View.{schema_of}
use Rattle.values.specs.declared.content.Content.{Content}
use Rattle.values.specs.declared.content.Content.TheVariants.{Rows as Given, Batches as InBatches}
use Rattle.values.specs.declared.batches.Batches.{Batches}
use Rattle.values.specs.declared.table_part.TablePart.{TablePart}
use Rattle.cells.specs.declared.limits.TheConstants.{MAX_TABLE_WEIGHT}
use Rattle.cells.specs.declared.row.Row.{Row}
use Rattle.cells.specs.Cell.{Cell, cells_of, PlainTable}
use Rattle.cells.specs.Row.{is_row, row_fits, row_of}
use Rattle.columns.specs.Texts.{have_utf8_texts}
use Rattle.columns.specs.laws.FitTexts.{row_texts}
use Rattle.values.specs.Content.{rows_of, table_with, is_filled}
use Rattle.values.specs.Parts.{are_parts_sound, parts_rows, parts_table}
use Rattle.values.specs.Table.{IsTable}
use Rattle.values.specs.inner.Starts.{part_lengths}
use Rattle.values.proofs.PartLemmas.{length_parts}
use Rattle.cells.specs.Weight.{row_weight, table_weight}

-- the columns of a schema of the code
abbrev own_columns : Schema → Columns
own_columns s = columns_of (schema_of s).columns

pub length_content : (s : Schema) (n : ℕ) (content : Content) → is_filled s n content ≡ true → length (rows_of s content) ≡ n
length_content s n (Given rows) filled = length-map rows.items row_of ∙ eqb-true _ _ filled
length_content s n (InBatches batches) filled =
    let parts = and_parts (n == sum (part_lengths batches.parts.items)) (are_parts_sound (own_columns s) batches.parts.items) filled in
    length_parts (own_columns s) batches.parts.items ∙ sym (eqb-true _ _ parts.0)

-- no row past the last
pub none_past : (s : Schema) (n : ℕ) (content : Content) (i : ℕ) → is_filled s n content ≡ true → n ≤ i → None ≡ slice_get (rows_of s content) i
none_past s n content i filled le = sym (slice_get_past (rows_of s content) i (omega (arith, length_content s n content filled, le)))

-- each row weighs at least one
pub few_rows : (s : PlainSchema) (rows : List (List Cell)) → length rows ≤ table_weight s rows
few_rows s [] = omega arith
few_rows s (row ∷ rows) = omega (arith, sum_by-cons (row_weight s) row rows, few_rows s rows)

-- rows that stand by themselves
pub given_within : (s : Schema) (n : ℕ) (content : Content) (rows : Vec Row Global) (i : ℕ) → content ≡ Given rows → is_filled s n content ≡ true → i < n → i < length rows.items
given_within s n content rows i is filled lt = omega (arith, eqb-true _ _ (rw is at filled))

pub rows_given : (s : Schema) (content : Content) (rows : Vec Row Global) → content ≡ Given rows → rows_of s content ≡ map row_of rows.items
rows_given s content rows is = rw is refl

-- the record batches of a table
pub parts_filled : (s : Schema) (n : ℕ) (content : Content) (batches : Batches) → content ≡ InBatches batches → is_filled s n content ≡ true
    → (n ≡ sum (part_lengths batches.parts.items)) × (are_parts_sound (own_columns s) batches.parts.items ≡ true)
parts_filled s n content batches is filled =
    let parts = and_parts (n == sum (part_lengths batches.parts.items)) (are_parts_sound (own_columns s) batches.parts.items) (rw is at filled) in
    (eqb-true _ _ parts.0, parts.1)

pub rows_of_parts : (s : Schema) (content : Content) (batches : Batches) → content ≡ InBatches batches → rows_of s content ≡ parts_rows (own_columns s) batches.parts.items
rows_of_parts s content batches is = rw is refl

pub table_of_parts : (s : Schema) (content : Content) (batches : Batches) → content ≡ InBatches batches → table_with s content ≡ parts_table (schema_of s) batches.parts.items
table_of_parts s content batches is = rw is refl

-- the texts of a row that a table has
texts_in_row : (s : PlainSchema) (row : List Cell) → is_row s row ≡ true → have_utf8_texts (cells_of row) ≡ true
unfolding is_row
texts_in_row s row h = row_texts (columns_of s.columns) (cells_of row) (and_parts (row_fits s row) _ h).0

pub texts_in_table : (t : PlainTable) (i : ℕ) (row : List Cell) → IsTable t → slice_get t.rows i ≡ Some row → have_utf8_texts (cells_of row) ≡ true
texts_in_table t i row is there =
    let all = All-get_or (λ (r : List Cell). is_row t.schema r ≡ true) t.rows i row (slice_get_within t.rows i row there) is.rows in
    texts_in_row t.schema row (rw (get_or_from_slice_get t.rows i row row there) at all)

-- a table has less rows than a number of the code can tell
pub parts_few : (s : PlainSchema) (parts : List TablePart) → IsTable (parts_table s parts) → sum (part_lengths parts) ≤ MAX_TABLE_WEIGHT
parts_few s parts is = omega (arith, is.weight, few_rows s (parts_table s parts).rows, length_parts (columns_of s.columns) parts)
