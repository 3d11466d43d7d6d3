-- The plain cell that a value of the code stands for.
use Rattle.std.specs.Prelude.{List, map, string_bytes}
use Rattle.std.specs.Borrow.{Bor}
use Rattle.cells.specs.declared.value.Value.{Value}
use Rattle.cells.specs.declared.value.Value.TheOpen.{Value-F, Null, Bool as Boolean, Int, Text, Bytes, List as Items, Struct}
use Rattle.cells.specs.declared.value.Value.TheFolds.{fold-Value}
use Rattle.cells.specs.Cell.{Cell, null, boolean, number, text, bytes, items, parts, cells_of}

abbrev pub cell_step : Value-F Cell → Cell
cell_step Null = null
cell_step (Boolean b) = boolean b
cell_step (Int n) = number n
cell_step (Text s) = text (string_bytes s)
cell_step (Bytes b) = bytes b.items
cell_step (Items v) = items (cells_of v.items)
cell_step (Struct v) = parts (cells_of v.items)

abbrev pub cell : Value → Cell
cell = fold-Value Cell cell_step

-- the cell, and the row, that a reference points to
abbrev pub cell_behind : Bor Value → Cell
cell_behind v = cell v.now

abbrev pub row_behind : Bor (List Value) → List Cell
row_behind r = map cell r.now
