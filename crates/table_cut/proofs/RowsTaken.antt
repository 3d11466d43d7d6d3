-- Rows of a table under another schema of its shape.
use Rattle.std.specs.Prelude.{Option, Some, None, not, nat_le}
use Rattle.std.specs.List.{list_all, position_from}
use Rattle.std.proofs.Common.{◌≡◌, ◌+◌, ◌&&◌, ◌∷◌, [], ℕ, zero, suc, Bool, true, false, List, drop, sym, ap, ◌∙◌, refl, arith}
use Rattle.std.proofs.lemmas.Bool.{and_parts}
use Rattle.std.proofs.lemmas.Iterator.Adapters.{position_from-zero}
use Rattle.std.proofs.lemmas.List.Sums.{list_all-from_AllPass}
use Rattle.arrow_schema.specs.Column.{PlainSchema, columns_of}
use Rattle.arrow_schema.specs.Shape.{HaveOneShape}
use Rattle.cells.specs.Cell.{Cell, PlainTable}
use Rattle.cells.specs.declared.limits.TheConstants.{MAX_ROW_WEIGHT}
use Rattle.cells.specs.Dictionary.{dictionaries_fit}
use Rattle.cells.specs.Row.{is_row, row_fits}
use Rattle.cells.specs.Weight.{row_weight}
use Rattle.cells.specs.laws.Shapes.{one_shape_fits, one_shape_weighs}
use Rattle.values.specs.Table.{IsTable, first_unfit}
use Rattle.table_cut.specs.inner.Filling.{can_rows_fill}
use Rattle.table_cut.proofs.FillingLemmas.{rows_fill_none}

-- which of the rows from this place on is the first that is not taken
abbrev pub unfit_from : PlainSchema → ℕ → List (List Cell) → Option ℕ
unfit_from s i rows = position_from (λ row. not (is_row s row)) i rows

pub unfit_first : (s : PlainSchema) (rows : List (List Cell)) → first_unfit s rows ≡ unfit_from s 0 rows
unfolding first_unfit
unfit_first s rows = position_from-zero (λ row. not (is_row s row)) rows

pub unfit_here : (s : PlainSchema) (i : ℕ) (row : List Cell) (rows : List (List Cell)) → is_row s row ≡ false → unfit_from s i (row ∷ rows) ≡ Some i
unfit_here s i row rows h = rw h refl

pub unfit_later : (s : PlainSchema) (i : ℕ) (row : List Cell) (rows : List (List Cell)) → is_row s row ≡ true → unfit_from s i (row ∷ rows) ≡ unfit_from s (i + 1) rows
unfit_later s i row rows h = rw h refl

-- ---- a row of a table under another schema of its shape

row_by : (s t : PlainSchema) → HaveOneShape s t → (row : List Cell) → is_row t row ≡ true → is_row s row ≡ dictionaries_fit s (row ∷ [])
unfolding is_row
row_by s t same row h =
    let own = and_parts (row_fits t row) _ h in
    let light = and_parts (nat_le (row_weight t row) MAX_ROW_WEIGHT) _ own.1 in
    let fit : row_fits s row ≡ true = one_shape_fits s t same row ∙ own.0 in
    let weighs : nat_le (row_weight s row) MAX_ROW_WEIGHT ≡ true = ap (λ (n : ℕ). nat_le n MAX_ROW_WEIGHT) (one_shape_weighs s t same row) ∙ light.0 in
    λ i. fit i && (weighs i && dictionaries_fit s (row ∷ []))

all_left : (p : List Cell → Bool) (i : ℕ) (rows : List (List Cell)) → list_all p rows ≡ true → list_all p (drop i rows) ≡ true
all_left p zero rows h = h
all_left p (suc i) [] h = refl
all_left p (suc i) (row ∷ rows) h = all_left p i rows (and_parts (p row) (list_all p rows) h).1

row_at_is : (p : List Cell → Bool) (rows : List (List Cell)) (i : ℕ) (row : List Cell) → list_all p rows ≡ true → drop i rows ≡ row ∷ drop (i + 1) rows → p row ≡ true
row_at_is p rows i row all next = (and_parts (p row) (list_all p (drop (i + 1) rows)) (ap (list_all p) (sym next) ∙ all_left p i rows all)).0

pub taken_by : (s : PlainSchema) (t : PlainTable) → HaveOneShape s t.schema → IsTable t → (i : ℕ) (row : List Cell) → drop i t.rows ≡ row ∷ drop (i + 1) t.rows
    → is_row s row ≡ dictionaries_fit s (row ∷ [])
taken_by s t same is i row next = row_by s t.schema same row (row_at_is (is_row t.schema) t.rows i row (list_all-from_AllPass (is_row t.schema) t.rows is.rows) next)

-- if no row can fill a dictionary, all are taken
none_from : (s t : PlainSchema) → HaveOneShape s t → can_rows_fill 1 (columns_of s.columns) ≡ false → (i : ℕ) (rows : List (List Cell)) → list_all (is_row t) rows ≡ true → unfit_from s i rows ≡ None
none_from s t same free i [] h = refl
none_from s t same free i (row ∷ rows) h =
    let own = and_parts (is_row t row) (list_all (is_row t) rows) h in
    unfit_later s i row rows (row_by s t same row own.0 ∙ rows_fill_none 1 s (row ∷ []) free (omega arith)) ∙ none_from s t same free (i + 1) rows own.1

pub all_taken : (s : PlainSchema) (t : PlainTable) → HaveOneShape s t.schema → IsTable t → can_rows_fill 1 (columns_of s.columns) ≡ false → first_unfit s t.rows ≡ None
all_taken s t same is free = unfit_first s t.rows ∙ none_from s t.schema same free 0 t.rows (list_all-from_AllPass (is_row t.schema) t.rows is.rows)
