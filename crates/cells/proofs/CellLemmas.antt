-- Lists of values, as cells.
use Rattle.std.proofs.Common.{◌≡◌, ◌≢◌, ◌<◌, ◌≤◌, ◌+◌, get_or, ℕ, zero, suc, Bool, false, ◌&&◌, List, [], ◌∷◌, ◌++◌, map, length, drop, take, refl, ap, sym, ◌∙◌, arith}
use Rattle.std.specs.Prelude.{slice_get, option_map, option_to_list}
use Rattle.std.proofs.Math.Bool.{and-false}
use Rattle.std.proofs.lemmas.List.{length-map, drop_all, drop_more, take_more, append_assoc}
use Rattle.std.proofs.lemmas.Option.{slice_get-map, slice_get_past, slice_get_read}
use Rattle.facts.specs.laws.Lists.{drop-item}
use Rattle.arrow_schema.specs.declared.types.Field.{Field}
use Rattle.arrow_schema.specs.Column.{columns_of}
use Rattle.arrow_schema.specs.View.{column_of}
use Rattle.cells.specs.declared.value.Value.{Value}
use Rattle.cells.specs.Cell.{null, cells_of}
use Rattle.cells.specs.View.{cell}
use Rattle.cells.specs.Fit.{fits, count_of, each_fits}
use Rattle.cells.specs.Weight.{first_part, other_parts}

pub count_cells : (vs : List Value) → count_of (cells_of (map cell vs)) ≡ length vs
count_cells [] = refl
count_cells (v ∷ vs) = omega (arith, count_cells vs)

pub each_of_other_length : (fs : List Field) (vs : List Value) → length fs ≢ length vs → each_fits (columns_of (map column_of fs)) (cells_of (map cell vs)) ≡ false
unfolding each_fits
each_of_other_length [] [] h = absurd (h refl)
each_of_other_length (f ∷ fs) [] h = refl
each_of_other_length [] (v ∷ vs) h = refl
each_of_other_length (f ∷ fs) (v ∷ vs) h =
    ap (λ (b : Bool). fits (column_of f) (cell v) && b) (each_of_other_length fs vs (λ e. h (ap suc e))) ∙ and-false (fits (column_of f) (cell v))

-- a place of a row, and a place past its end
pub part_found : (row : List Value) (i : ℕ) (x : Value) → i < length row → get_or row i x ≡ x → option_to_list (slice_get (map cell row) i) ≡ cell x ∷ []
part_found row i x lt e = ap option_to_list (slice_get-map cell row i ∙ ap (option_map cell) (slice_get_read row (length row) i x refl lt (sym e)))

pub part_absent : (row : List Value) (i : ℕ) → length row ≤ i → option_to_list (slice_get (map cell row) i) ≡ []
part_absent row i le = ap option_to_list (slice_get_past (map cell row) i (omega (arith, length-map row cell)))

-- what a loop has put, before what is left to it
pub joined : {X : Type 0} (old here rest : List X) {new left whole : List X} → new ≡ old ++ here → left ≡ here ++ rest → old ++ left ≡ whole → new ++ rest ≡ whole
joined old here rest put next before = ap (λ xs. xs ++ rest) put ∙ append_assoc old here rest ∙ ap (λ xs. old ++ xs) (sym next) ∙ before

-- the part at a place, a place past the last part, and the parts after a place
pub part_here : (vs : List Value) (i : ℕ) (v : Value) → i < length vs → v ≡ get_or vs i v → first_part (cells_of (map cell (drop i vs))) ≡ cell v
part_here vs i v within is = ap (λ (xs : List Value). first_part (cells_of (map cell xs))) (drop-item vs i v within is)

pub no_part_here : (vs : List Value) (i : ℕ) → length vs ≤ i → first_part (cells_of (map cell (drop i vs))) ≡ null
no_part_here vs i past = ap (λ (xs : List Value). first_part (cells_of (map cell xs))) (drop_all i vs past)

pub parts_behind : (vs : List Value) (i : ℕ) → other_parts (cells_of (map cell (drop i vs))) ≡ cells_of (map cell (drop (i + 1) vs))
parts_behind vs i = let on : i + 1 ≡ suc i = omega arith in rw on (by vs i)
  where
    by : (xs : List Value) (k : ℕ) → other_parts (cells_of (map cell (drop k xs))) ≡ cells_of (map cell (drop (suc k) xs))
    by [] zero = refl
    by [] (suc k) = refl
    by (x ∷ xs) zero = refl
    by (x ∷ xs) (suc k) = by xs k
