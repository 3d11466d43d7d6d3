-- The cells of a row from a place on.
use Rattle.std.proofs.Common.{◌≡◌, ℕ, zero, suc, ◌+◌, List, [], ◌∷◌, drop, get_or, add-one, refl}
use Rattle.cells.specs.Cell.{Cell, null, cells_of}
use Rattle.arrow_schema.specs.Column.{Column, Columns, and_column}
use Rattle.cells.specs.Weight.{weight, parts_weight, first_part, other_parts}

pub first_of : (cells : List Cell) (i : ℕ) → first_part (cells_of (drop i cells)) ≡ get_or cells i null
first_of [] zero = refl
first_of [] (suc i) = refl
first_of (c ∷ cells) zero = refl
first_of (c ∷ cells) (suc i) = first_of cells i

others : (cells : List Cell) (i : ℕ) → other_parts (cells_of (drop i cells)) ≡ cells_of (drop (suc i) cells)
others [] zero = refl
others [] (suc i) = refl
others (c ∷ cells) zero = refl
others (c ∷ cells) (suc i) = others cells i

pub others_of : (cells : List Cell) (i : ℕ) → other_parts (cells_of (drop i cells)) ≡ cells_of (drop (i + 1) cells)
others_of cells i = rw add-one (others cells i)

-- the weight of the next part and of those after it
pub next_part : (c : Column) (cs : Columns) (cells : List Cell) (i : ℕ)
    → parts_weight (and_column c cs) (cells_of (drop i cells)) ≡ weight c (get_or cells i null) + parts_weight cs (cells_of (drop (i + 1) cells))
unfolding parts_weight
next_part c cs cells i = rw (first_of cells i, others_of cells i) refl
