-- The rows of a text are rows that a table takes.
use Rattle.std.proofs.Common.{◌≡◌, ℕ, ◌+◌, Bool, true, false, List, [], ◌∷◌, refl}
use Rattle.std.specs.Prelude.{◌&&◌, nat_lt, nat_le, Result, Ok, Err, if◌then◌else◌}
use Rattle.std.specs.List.{list_all, AllPass}
use Rattle.std.proofs.lemmas.Bool.{and_from, ltb-false, le-leb}
use Rattle.std.proofs.lemmas.List.Sums.{AllPass-from_list_all}
use Rattle.serde_json.specs.Data.{Data}
use Rattle.arrow_schema.specs.Column.{PlainSchema, columns_of}
use Rattle.cells.specs.Cell.{Cell, Cells, cell_list}
use Rattle.cells.specs.laws.Cells.{cells_list}
use Rattle.cells.specs.Weight.{row_weight}
use Rattle.cells.specs.Row.{row_fits, is_row}
use Rattle.cells.specs.Dictionary.{dictionaries_fit}
use Rattle.text_import.specs.declared.refusal.Refusal.{Refusal}
use Rattle.text_import.specs.declared.refusal.Refusal.TheVariants.{TooHeavy, DictionaryFull, Header, Nested, Width}
use Rattle.text_import.specs.declared.refusal.Refused.{Refused}
use Rattle.text_import.specs.Refusals.{and_then, given, numbered}
use Rattle.text_import.specs.Rows.{accepted, rows_from}
use Rattle.text_import.specs.Records.{field_cells, record_cells, record_row, are_names, whole, rows_behind_header, is_nested_column, csv_rows_of, records_of}
use Rattle.text_import.specs.Objects.{cells_in, value_row, line_value, line_row, lines_of, jsonl_rows_of}
use Rattle.text_import.proofs.FittingCells.{fields_fit, values_fit}
use Rattle.std.specs.List.{list_any}
use Rattle.civil_days.specs.declared.date_form.DateForm.{DateForm}
use Rattle.text_import.specs.FieldForm.{PlainFieldForm}

accepted_is : (s : PlainSchema) (xs row : List Cell) → row_fits s xs ≡ true → accepted s xs ≡ Ok row → is_row s row ≡ true
unfolding is_row
accepted_is s xs row fits h = by (nat_lt 16777216 (row_weight s xs)) refl (dictionaries_fit s (xs ∷ [])) refl h
  where
    by : (a : Bool) → nat_lt 16777216 (row_weight s xs) ≡ a → (b : Bool) → dictionaries_fit s (xs ∷ []) ≡ b
        → (if a then Err TooHeavy else if b then Ok xs else Err DictionaryFull) ≡ Ok row
        → (row_fits s row && (nat_le (row_weight s row) 16777216 && dictionaries_fit s (row ∷ []))) ≡ true
    by true heavy b full h = absurd cc
    by false light false full h = absurd cc
    by false light true full h =
        let same : xs ≡ row = cc in
        rw (← same) (and_from _ _ fits (and_from _ _ (le-leb _ _ (ltb-false _ _ light)) full))

rows_pass : {A : Type 0} (read : A → Result (List Cell) Refusal) (p : List Cell → Bool) → ((x : A) (row : List Cell) → read x ≡ Ok row → p row ≡ true) → (n : ℕ) (xs : List A) (rows : List (List Cell))
    → rows_from read n xs ≡ Ok rows → list_all p rows ≡ true
unfolding rows_from
rows_pass read p each n [] rows h = let same : [] ≡ rows = cc in rw (← same) refl
rows_pass read p each n (x ∷ xs) rows h = by (read x) (each x) (rows_from read (n + 1) xs) h (rows_pass read p each (n + 1) xs)
  where
    by : (r : Result (List Cell) Refusal) → ((row : List Cell) → r ≡ Ok row → p row ≡ true) → (s : Result (List (List Cell)) Refused)
        → and_then (numbered n r) (λ row. given (λ more. row ∷ more) s) ≡ Ok rows → ((more : List (List Cell)) → s ≡ Ok more → list_all p more ≡ true) → list_all p rows ≡ true
    by (Err e) one s h others = absurd cc
    by (Ok row) one (Err e) h others = absurd cc
    by (Ok row) one (Ok more) h others = (let same : row ∷ more ≡ rows = cc in rw (← same) (and_from _ _ (one row refl) (others more refl)))

record_is : (s : PlainSchema) (form : PlainFieldForm) (ts : List (List ℕ)) (row : List Cell) → record_row s form ts ≡ Ok row → is_row s row ≡ true
record_is s form ts row h = by (record_cells form s.columns ts) refl h
  where
    fit : (b : Bool) (xs : List Cell) → (if b then field_cells form s.columns ts else Err Width) ≡ Ok xs → row_fits s xs ≡ true
    fit true xs h = fields_fit form s.columns ts xs h
    fit false xs h = absurd cc

    by : (r : Result (List Cell) Refusal) → record_cells form s.columns ts ≡ r → and_then r (accepted s) ≡ Ok row → is_row s row ≡ true
    by (Err e) is h = absurd cc
    by (Ok xs) is h = accepted_is s xs row (fit _ xs is) h

pub csv_rows_are_rows : (s : PlainSchema) (form : PlainFieldForm) (t : List ℕ) (rows : List (List Cell)) → csv_rows_of s form t ≡ Ok rows → AllPass (is_row s) rows
unfolding rows_behind_header
csv_rows_are_rows s form t rows h = AllPass-from_list_all (is_row s) rows (by (list_any is_nested_column s.columns) (records_of t) h)
  where
    named : (b : Bool) (rs : List (List (List ℕ))) → (if b then rows_from (record_row s form) 1 rs else Err (whole Header)) ≡ Ok rows → list_all (is_row s) rows ≡ true
    named true rs h = rows_pass (record_row s form) (is_row s) (record_is s form) 1 rs rows h
    named false rs h = absurd cc

    behind : (rs : List (List (List ℕ))) → rows_behind_header s form rs ≡ Ok rows → list_all (is_row s) rows ≡ true
    behind [] h = absurd cc
    behind (header ∷ rs) h = named (are_names header s.columns) rs h

    by : (b : Bool) (rs : List (List (List ℕ))) → (if b then Err (whole Nested) else rows_behind_header s form rs) ≡ Ok rows → list_all (is_row s) rows ≡ true
    by true rs h = absurd cc
    by false rs h = behind rs h

value_is_row : (date_form : DateForm) (s : PlainSchema) (d : Data) (row : List Cell) → value_row date_form s d ≡ Ok row → is_row s row ≡ true
value_is_row date_form s d row h = by (cells_in date_form (columns_of s.columns) d) refl h
  where
    by : (r : Result Cells Refusal) → cells_in date_form (columns_of s.columns) d ≡ r → and_then (given cell_list r) (accepted s) ≡ Ok row → is_row s row ≡ true
    by (Err e) is h = absurd cc
    by (Ok xs) is h = accepted_is s (cell_list xs) row (rw (cells_list xs) (values_fit date_form (columns_of s.columns) d xs is)) h

line_is_row : (date_form : DateForm) (s : PlainSchema) (line : List ℕ) (row : List Cell) → line_row date_form s line ≡ Ok row → is_row s row ≡ true
line_is_row date_form s line row h = by (line_value line) h
  where
    by : (r : Result Data Refusal) → and_then r (value_row date_form s) ≡ Ok row → is_row s row ≡ true
    by (Err e) h = absurd cc
    by (Ok d) h = value_is_row date_form s d row h

pub jsonl_rows_are_rows : (date_form : DateForm) (s : PlainSchema) (t : List ℕ) (rows : List (List Cell)) → jsonl_rows_of date_form s t ≡ Ok rows → AllPass (is_row s) rows
jsonl_rows_are_rows date_form s t rows h = AllPass-from_list_all (is_row s) rows (rows_pass (line_row date_form s) (is_row s) (line_is_row date_form s) 1 (lines_of t) rows h)
