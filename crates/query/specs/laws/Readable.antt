-- The texts of the rows of a table are UTF-8, and so are those of some of its columns.
use Rattle.std.specs.List.{list_all}
use Rattle.std.proofs.Common.{◌≡◌, ℕ, Bool, true, List, [], ◌∷◌, map, refl, sym, ap, ◌∙◌}
use Rattle.std.specs.Prelude.{◌&&◌}
use Rattle.std.proofs.lemmas.Bool.{and_from, and_parts}
use Rattle.std.proofs.lemmas.List.Sums.{list_all-from_AllPass}
use Rattle.arrow_schema.specs.Column.{PlainSchema, columns_of}
use Rattle.cells.specs.Cell.{Cell, PlainTable, cells_of}
use Rattle.cells.specs.Row.{is_row, row_fits}
use Rattle.columns.specs.Texts.{has_utf8_texts, have_utf8_texts}
use Rattle.columns.specs.laws.FitTexts.{row_texts}
use Rattle.values.specs.Table.{IsTable}
use Rattle.query.specs.BatchArrays.{has_texts}
use Rattle.query.specs.Selection.{pick}
use Rattle.query.specs.laws.Picks.{list_all-pick}

row_has_texts : (s : PlainSchema) (row : List Cell) → is_row s row ≡ true → has_texts row ≡ true
unfolding is_row
row_has_texts s row h = row_texts (columns_of s.columns) (cells_of row) (and_parts (row_fits s row) _ h).0

rows_have_texts : (s : PlainSchema) (rows : List (List Cell)) → list_all (is_row s) rows ≡ true → list_all has_texts rows ≡ true
rows_have_texts s [] h = refl
rows_have_texts s (row ∷ rows) h =
    let both = and_parts (is_row s row) _ h in
    and_from _ _ (row_has_texts s row both.0) (rows_have_texts s rows both.1)

-- of a table
pub table_texts : (t : PlainTable) → IsTable t → list_all has_texts t.rows ≡ true
table_texts t is = rows_have_texts t.schema t.rows (list_all-from_AllPass (is_row t.schema) t.rows is.rows)

-- cell by cell
each_text : (row : List Cell) → has_texts row ≡ list_all has_utf8_texts row
unfolding have_utf8_texts
each_text [] = refl
each_text (x ∷ row) = ap (λ (b : Bool). has_utf8_texts x && b) (each_text row)

-- of some columns
pub picked_texts : (places : List ℕ) (rows : List (List Cell)) → list_all has_texts rows ≡ true → list_all has_texts (map (pick places) rows) ≡ true
picked_texts places [] h = refl
picked_texts places (row ∷ rows) h =
    let both = and_parts (has_texts row) _ h in
    and_from _ _ (each_text (pick places row) ∙ list_all-pick has_utf8_texts places row (sym (each_text row) ∙ both.0)) (picked_texts places rows both.1)
