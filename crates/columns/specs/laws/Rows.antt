-- Cells of consecutive slots, and arrays of columns one by one.
use Rattle.std.specs.Prelude.{not, nat_le, nat_lt, ◌==◌}
use Rattle.std.specs.List.{list_any}
use Rattle.std.proofs.Common.{◌≡◌, ℕ, zero, suc, ◌+◌, ◌≤◌, true, false, List, [], ◌∷◌, ◌++◌, map, length, drop, refl, ap, arith}
use Rattle.std.proofs.lemmas.Bool.{and_parts, eqb-true, le-leb, le-ltb, leb-true, not-false, or_from, or_parts}
use Rattle.arrow_schema.specs.Column.{Kind, Column, Columns, nulls, no_column, and_column}
use Rattle.cells.specs.Cell.{Cell}
use Rattle.columns.specs.Array.{Array, Arrays, slots_in, first_array, other_arrays}
use Rattle.columns.specs.Built.{built, built_kind, first_cell, other_cells}
use Rattle.columns.specs.CellAt.{cell_at, cells_from, part_cells, row_at}
use Rattle.columns.specs.Sound.{is_sound, are_sound}
use Rattle.columns.specs.View.{placed_arrays}
use Rattle.columns.specs.declared.array.Dictionary.{Dictionary}
use Rattle.columns.specs.declared.array.PlacedArray.{PlacedArray}

-- the cells of m + n slots are those of the first m and then those of the next n
pub cells_from-append : (f : ℕ → Cell) (from m n : ℕ) → cells_from f from (m + n) ≡ cells_from f from m ++ cells_from f (from + m) n
cells_from-append f from zero n =
    let size : 0 + n ≡ n = omega arith in
    let here : from + 0 ≡ from = omega arith in
    rw (size, here) refl
cells_from-append f from (suc m) n =
    let size : suc m + n ≡ suc (m + n) = omega arith in
    let there : from + suc m ≡ from + 1 + m = omega arith in
    rw (size, there) (ap (λ (cells : List Cell). f from ∷ cells) (cells_from-append f (from + 1) m n))

-- the first cells of rows, and the others
pub first_cells : (c : Column) (cs : Columns) (arrays : Arrays) (places : List ℕ) → map first_cell (map (row_at (and_column c cs) arrays) places) ≡ map (cell_at c (first_array arrays)) places
unfolding part_cells
first_cells c cs arrays [] = refl
first_cells c cs arrays (i ∷ places) = ap (λ (cells : List Cell). cell_at c (first_array arrays) i ∷ cells) (first_cells c cs arrays places)

pub other_rows : (c : Column) (cs : Columns) (arrays : Arrays) (places : List ℕ) → map other_cells (map (row_at (and_column c cs) arrays) places) ≡ map (row_at cs (other_arrays arrays)) places
unfolding part_cells
other_rows c cs arrays [] = refl
other_rows c cs arrays (i ∷ places) = ap (λ (rows : List (List Cell)). row_at cs (other_arrays arrays) i ∷ rows) (other_rows c cs arrays places)

-- the arrays after the one at index i
pub other_placed : (bytes : List ℕ) (all : List Dictionary) (xs : List PlacedArray) (i : ℕ) → other_arrays (placed_arrays bytes all (drop i xs)) ≡ placed_arrays bytes all (drop (i + 1) xs)
other_placed bytes all [] zero = refl
other_placed bytes all [] (suc i) = let e : suc i + 1 ≡ suc (i + 1) = omega arith in rw e refl
other_placed bytes all (x ∷ xs) zero = refl
other_placed bytes all (x ∷ xs) (suc i) = let e : suc i + 1 ≡ suc (i + 1) = omega arith in rw e (other_placed bytes all xs i)

-- if rows can be looked up, so can fewer rows
pub fewer_sound : (cs : Columns) (arrays : Arrays) (slots fewer : ℕ) → are_sound cs slots arrays ≡ true → fewer ≤ slots → are_sound cs fewer arrays ≡ true
unfolding are_sound
fewer_sound no_column arrays slots fewer h le = refl
fewer_sound (and_column c cs) arrays slots fewer h le =
    let long = and_parts (nat_le slots (slots_in (first_array arrays))) _ h in
    let parts = and_parts (is_sound c (first_array arrays)) _ long.1 in
    let most : slots ≤ slots_in (first_array arrays) = leb-true _ _ long.0 in
    rw (le-leb fewer (slots_in (first_array arrays)) (omega arith), parts.0) (fewer_sound cs (other_arrays arrays) slots fewer parts.1 le)

-- if each array has exactly n slots, none has fewer
pub none_shorter : (n : ℕ) (xs : List Array) → list_any (λ a. not (slots_in a == n)) xs ≡ false → list_any (λ a. nat_lt (slots_in a) n) xs ≡ false
none_shorter n [] h = refl
none_shorter n (x ∷ xs) h =
    let parts = or_parts (not (slots_in x == n)) (list_any (λ a. not (slots_in a == n)) xs) h in
    let same : slots_in x ≡ n = eqb-true _ _ (not-false _ parts.0) in
    let here : nat_lt (slots_in x) n ≡ false = le-ltb _ _ (omega (arith, same)) in
    or_from (nat_lt (slots_in x) n) (list_any (λ a. nat_lt (slots_in a) n) xs) here (none_shorter n xs parts.1)

-- a built array has one slot for each cell
pub slots_built : (kind : Kind) (cells : List Cell) → slots_in (built_kind kind cells) ≡ length cells
unfolding built
slots_built nulls cells = refl
slots_built _ cells = refl
