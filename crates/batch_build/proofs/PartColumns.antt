-- The arrays of the columns from a place on, where each row has lost the cells before it.
use Rattle.std.proofs.Common.{◌≡◌, ℕ, zero, suc, ◌+◌, true, add-one, List, [], ◌∷◌, ◌++◌, map, length, ◌≤◌, drop, refl, ap, sym, ◌∙◌}
use Rattle.std.proofs.lemmas.Bool.{and_parts}
use Rattle.std.proofs.lemmas.List.{drop_all}
use Rattle.arrow_schema.specs.Column.{Column, Columns, and_column, columns_of}
use Rattle.arrow_schema.specs.View.{column_of}
use Rattle.arrow_schema.specs.declared.types.Field.{Field}
use Rattle.cells.specs.Cell.{Cell}
use Rattle.columns.specs.Buildable.{can_build, can_build_parts}
use Rattle.columns.specs.Built.{first_cell, other_cells, built}
use Rattle.columns.specs.Tests.{Typed, every_array}
use Rattle.batch_build.specs.Batch.{PlainBatch, built_at, built_below, with_arrays}
use Rattle.batch_build.specs.laws.Joined.{no_arrays, more_arrays}

-- the cells of the column at a place of rows
abbrev pub cells_of_place : ℕ → List (List Cell) → List Cell
cells_of_place i rows = map (λ r. first_cell (drop i r)) rows

-- the rows, from a place on
abbrev pub rows_from : ℕ → List (List Cell) → List (List Cell)
rows_from i rows = map (drop i) rows

pub rows_start : (rows : List (List Cell)) → rows_from 0 rows ≡ rows
rows_start [] = refl
rows_start (row ∷ rows) = ap (λ (rest : List (List Cell)). row ∷ rest) (rows_start rows)

others_after : (row : List Cell) (i : ℕ) → other_cells (drop i row) ≡ drop (suc i) row
others_after [] zero = refl
others_after [] (suc i) = refl
others_after (c ∷ row) zero = refl
others_after (c ∷ row) (suc i) = others_after row i

others_left : (row : List Cell) (i : ℕ) → other_cells (drop i row) ≡ drop (i + 1) row
others_left row i = rw add-one (others_after row i)

others_from : (i : ℕ) (rows : List (List Cell)) → map other_cells (rows_from i rows) ≡ rows_from (i + 1) rows
others_from i [] = refl
others_from i (row ∷ rows) = rw (others_left row i, others_from i rows) refl

first_from : (i : ℕ) (rows : List (List Cell)) → map first_cell (rows_from i rows) ≡ cells_of_place i rows
first_from i [] = refl
first_from i (row ∷ rows) = ap (λ (xs : List Cell). first_cell (drop i row) ∷ xs) (first_from i rows)

next_can : (i : ℕ) (c : Column) (cs : Columns) (rows : List (List Cell)) → can_build_parts (and_column c cs) (rows_from i rows) ≡ true
    → (can_build c (cells_of_place i rows) ≡ true) × (can_build_parts cs (rows_from (i + 1) rows) ≡ true)
unfolding can_build
next_can i c cs rows can =
    let parts = and_parts (can_build c (map first_cell (rows_from i rows))) (can_build_parts cs (map other_cells (rows_from i rows))) can in
    (rw (first_from i rows) at parts.0, rw (others_from i rows) at parts.1)

next_arrays : (i : ℕ) (c : Column) (cs : Columns) (rows : List (List Cell))
    → built_below (and_column c cs) (rows_from i rows) ≡ built_at c (cells_of_place i rows) ++ built_below cs (rows_from (i + 1) rows)
unfolding built every_array
next_arrays i c cs rows = rw (first_from i rows, others_from i rows) refl

-- ---- the fields of a loop, from its place on

abbrev pub columns_from : ℕ → List Field → Columns
columns_from i fields = columns_of (map column_of (drop i fields))

pub field_can : (fields : List Field) (i : ℕ) (f : Field) (rows : List (List Cell)) → drop i fields ≡ f ∷ drop (i + 1) fields → can_build_parts (columns_from i fields) (rows_from i rows) ≡ true
    → (can_build (column_of f) (cells_of_place i rows) ≡ true) × (can_build_parts (columns_from (i + 1) fields) (rows_from (i + 1) rows) ≡ true)
field_can fields i f rows item can =
    next_can i (column_of f) (columns_from (i + 1) fields) rows
    (sym (ap (λ (fs : List Field). can_build_parts (columns_of (map column_of fs)) (rows_from i rows)) item) ∙ can)

-- the arrays of this field's cells, and then those of the others
pub field_arrays : (fields : List Field) (i : ℕ) (f : Field) (rows : List (List Cell)) (p q : PlainBatch) → drop i fields ≡ f ∷ drop (i + 1) fields
    → q ≡ with_arrays p (built_at (column_of f) (cells_of_place i rows))
    → with_arrays q (built_below (columns_from (i + 1) fields) (rows_from (i + 1) rows)) ≡ with_arrays p (built_below (columns_from i fields) (rows_from i rows))
field_arrays fields i f rows p q item h =
    let here : List Typed = built_at (column_of f) (cells_of_place i rows) in
    let others : List Typed = built_below (columns_from (i + 1) fields) (rows_from (i + 1) rows) in
    let all : built_below (columns_from i fields) (rows_from i rows) ≡ here ++ others =
    ap (λ (fs : List Field). built_below (columns_of (map column_of fs)) (rows_from i rows)) item ∙ next_arrays i (column_of f) (columns_from (i + 1) fields) rows in
    ap (λ (x : PlainBatch). with_arrays x others) h ∙ more_arrays p here others ∙ ap (with_arrays p) (sym all)

-- after the last field there is nothing
pub last_field : (fields : List Field) (i : ℕ) (rows : List (List Cell)) (p : PlainBatch) → length fields ≤ i → with_arrays p (built_below (columns_from i fields) (rows_from i rows)) ≡ p
unfolding built every_array
last_field fields i rows p end =
    ap (λ (fs : List Field). with_arrays p (built_below (columns_of (map column_of fs)) (rows_from i rows))) (drop_all i fields end) ∙ no_arrays p
