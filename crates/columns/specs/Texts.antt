-- Cells in which every text is UTF-8, at every level.
use Rattle.std.specs.Prelude.{Bool, true, ◌&&◌}
use Rattle.std.specs.Str.{is_utf8}
use Rattle.cells.specs.Cell.{Cell, Cells, null, boolean, number, text, bytes, items, parts, no_cell, and_cell}

unfoldable mutual
  pub has_utf8_texts : Cell → Bool
  has_utf8_texts null = true
  has_utf8_texts (boolean b) = true
  has_utf8_texts (number n) = true
  has_utf8_texts (text t) = is_utf8 t
  has_utf8_texts (bytes t) = true
  has_utf8_texts (items cs) = have_utf8_texts cs
  has_utf8_texts (parts cs) = have_utf8_texts cs

  pub have_utf8_texts : Cells → Bool
  have_utf8_texts no_cell = true
  have_utf8_texts (and_cell c cs) = has_utf8_texts c && have_utf8_texts cs
