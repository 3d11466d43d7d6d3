-- The texts of cells that fit are UTF-8, at every level.
use Rattle.std.specs.Prelude.{◌==◌}
use Rattle.std.specs.Str.{is_utf8}
use Rattle.std.proofs.Common.{◌≡◌, ℕ, Bool, true, List, refl}
use Rattle.std.proofs.lemmas.Bool.{and_from, and_parts}
use Rattle.arrow_schema.specs.Column.{Kind, Column, Columns, texts, large_texts, lists, large_lists, fixed_lists, structs, column, no_column, and_column}
use Rattle.cells.specs.Cell.{Cell, Cells, text, items, parts, no_cell, and_cell}
use Rattle.cells.specs.Fit.{fits, fits_kind, each_fits, all_cells, count_of}
use Rattle.columns.specs.Texts.{has_utf8_texts, have_utf8_texts}

pub good_text : (k : Kind) (t : List ℕ) → fits_kind k (text t) ≡ true → is_utf8 t ≡ true
unfolding fits_kind
good_text texts t h = h
good_text large_texts t h = h
good_text _ t h = cc

-- if each cell that passes a test has only UTF-8 texts, then so do cells that all pass it
all_texts : (p : Cell → Bool) → ((x : Cell) → p x ≡ true → has_utf8_texts x ≡ true) → (cs : Cells) → all_cells p cs ≡ true → have_utf8_texts cs ≡ true
unfolding have_utf8_texts
all_texts p each no_cell h = refl
all_texts p each (and_cell c cs) h =
    let both = and_parts (p c) (all_cells p cs) h in
    and_from _ _ (each c both.0) (all_texts p each cs both.1)

mutual
  unfolding fits has_utf8_texts

  cell_texts : (c : Column) (x : Cell) → fits c x ≡ true → has_utf8_texts x ≡ true
  cell_texts (column name nullable kind dictionary pairs) (text t) h = good_text kind t h
  cell_texts (column name nullable kind dictionary pairs) (items cs) h = item_texts kind cs h
  cell_texts (column name nullable kind dictionary pairs) (parts cs) h = part_texts kind cs h
  cell_texts _ _ h = refl

  item_texts : (k : Kind) (cs : Cells) → fits_kind k (items cs) ≡ true → have_utf8_texts cs ≡ true
  item_texts (lists item) cs h = all_texts (fits item) (cell_texts item) cs h
  item_texts (large_lists item) cs h = all_texts (fits item) (cell_texts item) cs h
  item_texts (fixed_lists size item) cs h = all_texts (fits item) (cell_texts item) cs (and_parts (count_of cs == size) (all_cells (fits item) cs) h).1
  item_texts _ cs h = cc

  part_texts : (k : Kind) (cs : Cells) → fits_kind k (parts cs) ≡ true → have_utf8_texts cs ≡ true
  part_texts (structs columns) cs h = row_texts columns cs h
  part_texts _ cs h = cc

  pub row_texts : (columns : Columns) (cs : Cells) → each_fits columns cs ≡ true → have_utf8_texts cs ≡ true
  row_texts no_column no_cell h = refl
  row_texts no_column (and_cell c cs) h = cc
  row_texts (and_column f fs) no_cell h = cc
  row_texts (and_column f fs) (and_cell c cs) h =
      let both = and_parts (fits f c) (each_fits fs cs) h in
      and_from _ _ (cell_texts f c both.0) (row_texts fs cs both.1)
