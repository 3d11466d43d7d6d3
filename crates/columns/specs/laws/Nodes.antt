-- How many cells stand in a cell, itself and those below it: what a recursion over borrowed values goes down.
use Rattle.std.proofs.Common.{ℕ, ◌+◌, ◌*◌}
use Rattle.cells.specs.Cell.{Cell, Cells, items, parts, no_cell, and_cell, cells_of}
use Rattle.columns.specs.declared.borrowed.Values.{Values}
use Rattle.columns.specs.declared.borrowed.ValueRef.{ValueRef}
use Rattle.columns.specs.Borrowed.{borrowed_cell, borrowed_cells}

abbrev mutual
  pub nodes : Cell → ℕ
  nodes (items cs) = 1 + nodes_all cs
  nodes (parts cs) = 1 + nodes_all cs
  nodes _ = 1

  pub nodes_all : Cells → ℕ
  nodes_all no_cell = 0
  nodes_all (and_cell c cs) = nodes c + nodes_all cs

-- a value is above the array of the values in it, this above these values, and these above each of them
abbrev pub value_depth : ValueRef → ℕ
value_depth v = 3 * nodes (borrowed_cell v)

abbrev pub array_depth : Values → ℕ
array_depth v = 3 * nodes_all (cells_of (borrowed_cells v)) + 2

abbrev pub values_depth : Values → ℕ
values_depth v = 3 * nodes_all (cells_of (borrowed_cells v)) + 1
