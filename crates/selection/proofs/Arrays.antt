-- The arrays at some places of those of a record batch, and the rows that they have.
use Rattle.std.proofs.Common.{◌≡◌, ℕ, zero, suc, ◌+◌, ◌<◌, ◌≤◌, Bool, true, List, [], ◌∷◌, ◌++◌, map, length, drop, get_or, refl, sym, ap, ◌∙◌, arith}
use Rattle.std.specs.Prelude.{◌&&◌, nat_le, Some, None, slice_get}
use Rattle.std.proofs.Math.Bool.{and_assoc}
use Rattle.std.specs.List.{list_all}
use Rattle.std.proofs.lemmas.List.{drop_all}
use Rattle.arrow_schema.specs.Column.{Column, columns_of}
use Rattle.cells.specs.Cell.{Cell}
use Rattle.columns.specs.Array.{Array, Arrays, slots_in, first_array, other_arrays, arrays_of}
use Rattle.columns.specs.CellAt.{cell_at, part_cells, row_at}
use Rattle.columns.specs.Sound.{is_sound, are_sound}
use Rattle.columns.specs.declared.array.PlacedArray.{PlacedArray}
use Rattle.query.specs.Selection.{pick}
use Rattle.query.specs.laws.Picks.{pick-map, list_all-pick}
use Rattle.selection.specs.inner.Picked.{first_arrays}
use Rattle.selection.proofs.PickedPlaces.{one_picked as one_at, none_picked as none_at}

-- ---- the array at a place

array_at : (f : PlacedArray → Array) (n p : ℕ) (arrays : List PlacedArray) → p < n
    → slice_get (first_arrays n (arrays_of (map f arrays))) p ≡ Some (first_array (arrays_of (map f (drop p arrays))))
array_at f zero p arrays h = absurd (omega (arith, h))
array_at f (suc n) zero arrays h = refl
array_at f (suc n) (suc p) [] h =
    array_at f n p [] (omega (arith, h)) ∙ ap (λ (placed : List PlacedArray). Some (first_array (arrays_of (map f placed)))) (drop_all {X = PlacedArray} p [] (omega arith))
array_at f (suc n) (suc p) (a ∷ arrays) h = array_at f n p arrays (omega (arith, h))

no_array_at : (n p : ℕ) (arrays : Arrays) → n ≤ p → slice_get (first_arrays n arrays) p ≡ None
no_array_at zero p arrays h = refl
no_array_at (suc n) zero arrays h = absurd (omega (arith, h))
no_array_at (suc n) (suc p) arrays h = no_array_at n p (other_arrays arrays) (omega (arith, h))

-- an array more
pub one_picked : (f : PlacedArray → Array) (ps : List ℕ) (i n : ℕ) (arrays before more : List PlacedArray) (a : PlacedArray) (all : List Array) → i < length ps → get_or ps i 0 < n
    → more ≡ before ++ a ∷ [] → f a ≡ first_array (arrays_of (map f (drop (get_or ps i 0) arrays)))
    → map f before ++ pick (drop i ps) (first_arrays n (arrays_of (map f arrays))) ≡ all → map f more ++ pick (drop (i + 1) ps) (first_arrays n (arrays_of (map f arrays))) ≡ all
one_picked f ps i n arrays before more a all lt within added own h =
    one_at f ps i (first_arrays n (arrays_of (map f arrays))) before more a all lt (array_at f n (get_or ps i 0) arrays within ∙ ap Some (sym own)) added h

-- none
pub none_picked : (f : PlacedArray → Array) (ps : List ℕ) (i n : ℕ) (arrays before more : List PlacedArray) (all : List Array) → i < length ps → n ≤ get_or ps i 0 → more ≡ before
    → map f before ++ pick (drop i ps) (first_arrays n (arrays_of (map f arrays))) ≡ all → map f more ++ pick (drop (i + 1) ps) (first_arrays n (arrays_of (map f arrays))) ≡ all
none_picked f ps i n arrays before more all lt past same h =
    none_at f ps i (first_arrays n (arrays_of (map f arrays))) before more all lt (no_array_at n (get_or ps i 0) (arrays_of (map f arrays)) past) same h

-- ---- columns beside their arrays

abbrev Beside : Type 0
Beside = Column × Array

abbrev columns_in : List Beside → List Column
columns_in zs = map (λ z. z.0) zs

abbrev arrays_in : List Beside → List Array
arrays_in zs = map (λ z. z.1) zs

abbrev beside : List Column → Arrays → List Beside
beside [] arrays = []
beside (c ∷ cs) arrays = (c, first_array arrays) ∷ beside cs (other_arrays arrays)

columns_beside : (cs : List Column) (arrays : Arrays) → columns_in (beside cs arrays) ≡ cs
columns_beside [] arrays = refl
columns_beside (c ∷ cs) arrays = ap (λ (xs : List Column). c ∷ xs) (columns_beside cs (other_arrays arrays))

arrays_beside : (cs : List Column) (arrays : Arrays) → arrays_in (beside cs arrays) ≡ first_arrays (length cs) arrays
arrays_beside [] arrays = refl
arrays_beside (c ∷ cs) arrays = ap (λ (xs : List Array). first_array arrays ∷ xs) (arrays_beside cs (other_arrays arrays))

beside_again : (zs : List Beside) → beside (columns_in zs) (arrays_of (arrays_in zs)) ≡ zs
beside_again [] = refl
beside_again (z ∷ zs) = ap (λ (ys : List Beside). z ∷ ys) (beside_again zs)

abbrev cell_of : ℕ → Beside → Cell
cell_of i z = cell_at z.0 z.1 i

abbrev is_long_and_sound : ℕ → Beside → Bool
is_long_and_sound n z = nat_le n (slots_in z.1) && is_sound z.0 z.1

row_beside : (cs : List Column) (arrays : Arrays) (i : ℕ) → row_at (columns_of cs) arrays i ≡ map (cell_of i) (beside cs arrays)
unfolding part_cells
row_beside [] arrays i = refl
row_beside (c ∷ cs) arrays i = ap (λ (xs : List Cell). cell_at c (first_array arrays) i ∷ xs) (row_beside cs (other_arrays arrays) i)

sound_beside : (cs : List Column) (arrays : Arrays) (n : ℕ) → are_sound (columns_of cs) n arrays ≡ list_all (is_long_and_sound n) (beside cs arrays)
unfolding are_sound
sound_beside [] arrays n = refl
sound_beside (c ∷ cs) arrays n =
    let a = first_array arrays in
    ap (λ (b : Bool). nat_le n (slots_in a) && (is_sound c a && b)) (sound_beside cs (other_arrays arrays) n)
    ∙ sym (and_assoc (nat_le n (slots_in a)) (is_sound c a) (list_all (is_long_and_sound n) (beside cs (other_arrays arrays))))

picked_beside : (cs : List Column) (ps : List ℕ) (arrays : Arrays) (own : List Array) → own ≡ pick ps (first_arrays (length cs) arrays)
    → beside (pick ps cs) (arrays_of own) ≡ pick ps (beside cs arrays)
picked_beside cs ps arrays own h =
    let zs = beside cs arrays in
    let columns : pick ps cs ≡ columns_in (pick ps zs) = ap (pick ps) (sym (columns_beside cs arrays)) ∙ pick-map (λ (z : Beside). z.0) ps zs in
    let those : own ≡ arrays_in (pick ps zs) = h ∙ ap (pick ps) (sym (arrays_beside cs arrays)) ∙ pick-map (λ (z : Beside). z.1) ps zs in
    (λ k. beside (columns k) (arrays_of (those k))) ∙ beside_again (pick ps zs)

-- a row of the arrays at some places has the cells at these places of the whole row
pub picked_row : (cs : List Column) (ps : List ℕ) (arrays : Arrays) (own : List Array) → own ≡ pick ps (first_arrays (length cs) arrays) → (i : ℕ)
    → row_at (columns_of (pick ps cs)) (arrays_of own) i ≡ pick ps (row_at (columns_of cs) arrays i)
picked_row cs ps arrays own h i =
    row_beside (pick ps cs) (arrays_of own) i
    ∙ ap (map (cell_of i)) (picked_beside cs ps arrays own h)
    ∙ sym (pick-map (cell_of i) ps (beside cs arrays))
    ∙ ap (pick ps) (sym (row_beside cs arrays i))

-- and its slots can be looked up
pub picked_sound : (cs : List Column) (ps : List ℕ) (arrays : Arrays) (own : List Array) (n : ℕ) → own ≡ pick ps (first_arrays (length cs) arrays) → are_sound (columns_of cs) n arrays ≡ true
    → are_sound (columns_of (pick ps cs)) n (arrays_of own) ≡ true
picked_sound cs ps arrays own n h sound =
    sound_beside (pick ps cs) (arrays_of own) n
    ∙ ap (list_all (is_long_and_sound n)) (picked_beside cs ps arrays own h)
    ∙ list_all-pick (is_long_and_sound n) ps (beside cs arrays) (sym (sound_beside cs arrays n) ∙ sound)
