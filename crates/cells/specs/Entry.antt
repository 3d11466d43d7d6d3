-- The cell that an entry of the code stands for.
use Rattle.std.specs.Prelude.{Option, Some, None}
use Rattle.cells.specs.declared.entry.Entry.{Entry}
use Rattle.cells.specs.declared.entry.Entry.TheVariants as entries
use Rattle.cells.specs.Cell.{Cell, boolean, number, text, bytes}

abbrev pub entry_cell : Entry → Cell
entry_cell (entries.Bool b) = boolean b
entry_cell (entries.Int n) = number n
entry_cell (entries.Text t) = text t.now
entry_cell (entries.Bytes t) = bytes t.now

abbrev pub entry_cell_of : Option Entry → Option Cell
entry_cell_of None = None
entry_cell_of (Some e) = Some (entry_cell e)
