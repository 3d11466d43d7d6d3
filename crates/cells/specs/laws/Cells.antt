-- Cells as a list, and back.
use Rattle.std.proofs.Common.{◌≡◌, List, [], ◌∷◌, refl, ap}
use Rattle.cells.specs.Cell.{Cell, Cells, no_cell, and_cell, cells_of, cell_list}

pub cells_list : (cs : Cells) → cells_of (cell_list cs) ≡ cs
cells_list no_cell = refl
cells_list (and_cell c cs) = ap (λ r. and_cell c r) (cells_list cs)

pub cells_listed : (cs : List Cell) → cell_list (cells_of cs) ≡ cs
cells_listed [] = refl
cells_listed (c ∷ cs) = ap (λ (xs : List Cell). c ∷ xs) (cells_listed cs)
