-- The cells of a run of slots, and of the parts of a struct.
use Rattle.std.specs.Prelude.{slice_get, nat_le}
use Rattle.std.proofs.Common.{◌≡◌, ℕ, zero, suc, ◌+◌, ◌≤◌, ◌<◌, true, List, [], ◌∷◌, length, get_or, map, Some, refl, ap, arith, ◌∙◌}
use Rattle.std.proofs.lemmas.Bool.{and_parts, leb-true}
use Rattle.std.proofs.lemmas.List.FromFn.{length-map-range_with_len}
use Rattle.arrow_schema.specs.declared.types.Field.{Field}
use Rattle.arrow_schema.specs.Column.{columns_of}
use Rattle.arrow_schema.specs.View.{column_of}
use Rattle.cells.specs.Cell.{Cell}
use Rattle.columns.specs.declared.array.PlacedArray.{PlacedArray}
use Rattle.columns.specs.Array.{Array, Arrays, arrays_of, slots_in, other_arrays}
use Rattle.columns.specs.CellAt.{cells_from, cell_at, part_cells, row_at}
use Rattle.columns.specs.Sound.{is_sound, are_sound}
use Rattle.columns.specs.Texts.{has_utf8_texts, have_utf8_texts}

pub count_cells : (f : ℕ → Cell) (start n : ℕ) → length (cells_from f start n) ≡ n
count_cells f start n = length-map-range_with_len f start n

pub cell_in : (f : ℕ → Cell) (start n i : ℕ) → i < n → slice_get (cells_from f start n) i ≡ Some (f (start + i))
cell_in f start zero i lt = absurd (omega arith)
cell_in f start (suc n) zero lt = let e : start + 0 ≡ start = omega arith in rw e refl
cell_in f start (suc n) (suc i) lt =
    let e : start + 1 + i ≡ start + suc i = omega arith in
    cell_in f (start + 1) n i (omega arith) ∙ ap (λ (k : ℕ). Some (f k)) e

pub count_parts : (fs : List Field) (arrays : Arrays) (i : ℕ) → length (row_at (columns_of (map column_of fs)) arrays i) ≡ length fs
unfolding part_cells
count_parts [] arrays i = refl
count_parts (f ∷ fs) arrays i = ap suc (count_parts fs (other_arrays arrays) i)

pub part_there : (fs : List Field) (g : PlacedArray → Array) (xs : List PlacedArray) (slots k : ℕ) → are_sound (columns_of (map column_of fs)) slots (arrays_of (map g xs)) ≡ true → 0 < slots
    → k < length fs → k < length xs
unfolding are_sound
part_there [] g xs slots k sound some lt = absurd (omega arith)
part_there (y ∷ fs) g [] slots k sound some lt =
    let none : slots ≤ 0 = leb-true _ _ (and_parts (nat_le slots 0) _ sound).0 in
    absurd (omega (arith, none))
part_there (y ∷ fs) g (z ∷ xs) slots zero sound some lt = omega arith
part_there (y ∷ fs) g (z ∷ xs) slots (suc k) sound some lt =
    let long = and_parts (nat_le slots (slots_in (g z))) _ sound in
    let others = (and_parts (is_sound (column_of y) (g z)) _ long.1).1 in
    let r = part_there fs g xs slots k others some (omega arith) in
    omega (arith, r)

-- the part at a place
pub record PartAt (fs : List Field) (g : PlacedArray → Array) (xs : List PlacedArray) (slots place k : ℕ) (f : Field) (x : PlacedArray) : Type 0 where
  pub long : slots ≤ slots_in (g (get_or xs k x))
  pub sound : is_sound (column_of (get_or fs k f)) (g (get_or xs k x)) ≡ true
  pub texts : has_utf8_texts (cell_at (column_of (get_or fs k f)) (g (get_or xs k x)) place) ≡ true
  pub cell : slice_get (row_at (columns_of (map column_of fs)) (arrays_of (map g xs)) place) k ≡ Some (cell_at (column_of (get_or fs k f)) (g (get_or xs k x)) place)

pub part_at : (fs : List Field) (g : PlacedArray → Array) (xs : List PlacedArray) (slots place k : ℕ) (f : Field) (x : PlacedArray)
    → are_sound (columns_of (map column_of fs)) slots (arrays_of (map g xs)) ≡ true → place < slots
    → have_utf8_texts (part_cells (columns_of (map column_of fs)) (arrays_of (map g xs)) place) ≡ true → k < length fs → PartAt fs g xs slots place k f x
unfolding are_sound part_cells have_utf8_texts
part_at [] g xs slots place k f x sound within texts lt = absurd (omega arith)
part_at (y ∷ fs) g [] slots place k f x sound within texts lt =
    let none : slots ≤ 0 = leb-true _ _ (and_parts (nat_le slots 0) _ sound).0 in
    absurd (omega (arith, none))
part_at (y ∷ fs) g (z ∷ xs) slots place zero f x sound within texts lt =
    let long = and_parts (nat_le slots (slots_in (g z))) _ sound in
    record {
      long = leb-true _ _ long.0;
      sound = (and_parts (is_sound (column_of y) (g z)) _ long.1).0;
      texts = (and_parts (has_utf8_texts (cell_at (column_of y) (g z) place)) _ texts).0;
      cell = refl;
    }
part_at (y ∷ fs) g (z ∷ xs) slots place (suc k) f x sound within texts lt =
    let long = and_parts (nat_le slots (slots_in (g z))) _ sound in
    let others = (and_parts (is_sound (column_of y) (g z)) _ long.1).1 in
    let other_texts = (and_parts (has_utf8_texts (cell_at (column_of y) (g z) place)) _ texts).1 in
    let r = part_at fs g xs slots place k f x others within other_texts (omega arith) in
    record { long = r.long; sound = r.sound; texts = r.texts; cell = r.cell }
