-- Rows of schemas with one shape: dictionaries and pairs affect neither fit nor weight.
use Rattle.std.proofs.Common.{◌≡◌, ℕ, ◌+◌, Bool, List, sym, ap, ◌∙◌, refl}
use Rattle.std.specs.Prelude.{◌&&◌, ◌==◌, sum_by}
use Rattle.arrow_schema.specs.Column.{Kind, Column, Columns, lists, large_lists, fixed_lists, structs, column, no_column, and_column, columns_of, PlainSchema}
use Rattle.arrow_schema.specs.Shape.{seen, seen_kind, seen_all, shape_of, HaveOneShape}
use Rattle.cells.specs.Cell.{Cell, Cells, no_cell, and_cell, cells_of}
use Rattle.cells.specs.Fit.{fits, fits_kind, each_fits, null_or, items_where, parts_where, all_cells, count_of}
use Rattle.cells.specs.Weight.{weight, kind_weight, parts_weight, row_weight, first_part, other_parts, sum_of, fixed_sum, items_in, parts_in, table_weight}
use Rattle.cells.specs.Row.{row_fits}

-- ---- fit

mutual
  unfolding seen seen_kind seen_all fits fits_kind each_fits

  column_fits : (d : _) → (c : Column) → fits (seen d c) ≡ fits c
  column_fits d (column name nullable kind dictionary pairs) = ap (null_or nullable) (kind_fits d kind)

  kind_fits : (d : _) → (k : Kind) → fits_kind (seen_kind d k) ≡ fits_kind k
  kind_fits d (lists item) = ap (λ (f : Cell → Bool). items_where (all_cells f)) (column_fits d item)
  kind_fits d (large_lists item) = ap (λ (f : Cell → Bool). items_where (all_cells f)) (column_fits d item)
  kind_fits d (fixed_lists size item) = ap (λ (f : Cell → Bool). items_where (λ cs. count_of cs == size && all_cells f cs)) (column_fits d item)
  kind_fits d (structs columns) = λ i. parts_where (λ cs. each_column_fits d columns cs i)
  kind_fits d _ = refl

  each_column_fits : (d : _) → (cs : Columns) (xs : Cells) → each_fits (seen_all d cs) xs ≡ each_fits cs xs
  each_column_fits d no_column no_cell = refl
  each_column_fits d no_column (and_cell x xs) = refl
  each_column_fits d (and_column c cs) no_cell = refl
  each_column_fits d (and_column c cs) (and_cell x xs) = λ i. column_fits d c i x && each_column_fits d cs xs i

-- ---- weight

mutual
  unfolding seen seen_kind seen_all weight kind_weight parts_weight

  column_weight : (d : _) → (c : Column) → weight (seen d c) ≡ weight c
  column_weight d (column name nullable kind dictionary pairs) = kind_weighs d kind

  kind_weighs : (d : _) → (k : Kind) → kind_weight (seen_kind d k) ≡ kind_weight k
  kind_weighs d (lists item) = ap (λ (w : Cell → ℕ). λ c. 1 + sum_of w (items_in c)) (column_weight d item)
  kind_weighs d (large_lists item) = ap (λ (w : Cell → ℕ). λ c. 1 + sum_of w (items_in c)) (column_weight d item)
  kind_weighs d (fixed_lists size item) = ap (λ (w : Cell → ℕ). λ c. 1 + fixed_sum size w c) (column_weight d item)
  kind_weighs d (structs columns) = λ i c. 1 + parts_weigh d columns (parts_in c) i
  kind_weighs d _ = refl

  parts_weigh : (d : _) → (cs : Columns) (xs : Cells) → parts_weight (seen_all d cs) xs ≡ parts_weight cs xs
  parts_weigh d no_column xs = refl
  parts_weigh d (and_column c cs) xs = λ i. column_weight d c i (first_part xs) + parts_weigh d cs (other_parts xs) i

-- ---- rows

pub one_shape_fits : (a b : PlainSchema) → HaveOneShape a b → (row : List Cell) → row_fits a row ≡ row_fits b row
unfolding shape_of
one_shape_fits a b same row =
    sym (each_column_fits _ (columns_of a.columns) (cells_of row)) ∙ ap (λ (cs : Columns). each_fits cs (cells_of row)) same ∙ each_column_fits _ (columns_of b.columns) (cells_of row)

pub one_shape_weighs : (a b : PlainSchema) → HaveOneShape a b → (row : List Cell) → row_weight a row ≡ row_weight b row
unfolding shape_of
one_shape_weighs a b same row =
    ap (λ (n : ℕ). 1 + n)
    (sym (parts_weigh _ (columns_of a.columns) (cells_of row)) ∙ ap (λ (cs : Columns). parts_weight cs (cells_of row)) same ∙ parts_weigh _ (columns_of b.columns) (cells_of row))

pub one_shape_table_weighs : (a b : PlainSchema) → HaveOneShape a b → (rows : List (List Cell)) → table_weight a rows ≡ table_weight b rows
one_shape_table_weighs a b same rows = ap (λ (w : List Cell → ℕ). sum_by w rows) (λ i row. one_shape_weighs a b same row i)
