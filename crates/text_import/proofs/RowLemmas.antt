-- Parts and items one after another.
use Rattle.std.proofs.Common.{◌≡◌, List, [], ◌∷◌, ◌++◌, refl, ap}
use Rattle.std.specs.Prelude.{Result, Ok, Err}
use Rattle.cells.specs.Cell.{Cell, Cells, no_cell, and_cell, cells_of}
use Rattle.text_import.specs.Refusals.{given}

-- what comes after these
abbrev pub joined : List Cell → Cells → Cells
joined [] rest = rest
joined (c ∷ cs) rest = and_cell c (joined cs rest)

abbrev pub cells_behind : {E : Type 0} → List Cell → Result Cells E → Result Cells E
cells_behind so rest = given (joined so) rest

joined_more : (so : List Cell) (x : Cell) (rest : Cells) → joined so (and_cell x rest) ≡ joined (so ++ x ∷ []) rest
joined_more [] x rest = refl
joined_more (c ∷ so) x rest = ap (and_cell c) (joined_more so x rest)

joined_end : (so : List Cell) → joined so no_cell ≡ cells_of so
joined_end [] = refl
joined_end (c ∷ so) = ap (and_cell c) (joined_end so)

pub cells_behind_more : {E : Type 0} (so : List Cell) (x : Cell) (r : Result Cells E) → cells_behind so (given (and_cell x) r) ≡ cells_behind (so ++ x ∷ []) r
cells_behind_more so x (Ok cs) = ap Ok (joined_more so x cs)
cells_behind_more so x (Err e) = refl

pub cells_behind_end : {E : Type 0} (so : List Cell) → cells_behind {E = E} so (Ok no_cell) ≡ Ok (cells_of so)
cells_behind_end so = ap Ok (joined_end so)
