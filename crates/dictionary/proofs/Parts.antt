-- One more part.
use Rattle.std.specs.Prelude.{vec_len}
use Rattle.columns.specs.declared.array.PlacedArray.{PlacedArray}
use Rattle.columns.specs.declared.array.Dictionary.{Dictionary}
use Rattle.columns.specs.declared.array.DictionaryPart.{DictionaryPart}
use Rattle.columns.specs.View.{array_in, arrays_in, no_dictionary}
use Rattle.dictionary.specs.InEffect.{DictionaryBatch, in_effect}
use Rattle.dictionary.specs.declared.current.CurrentList.{CurrentList}
use Rattle.dictionary.specs.Kept.{Kept, HasInEffect, IsPart, arrays_for, known_arrays, list_at, lists_of, number_in}
use Rattle.dictionary.proofs.Grown.{there}
use Rattle.dictionary.proofs.Steps.{kept}
use Rattle.std.proofs.Common.{◌≡◌, ℕ, zero, suc, ◌+◌, ◌<◌, Some, List, [], ◌∷◌, ◌++◌, length, get_or, map, take, refl, ap, sym, subst, ◌∙◌, arith}
use Rattle.std.proofs.lemmas.List.{map-append, take_all, take_more}

-- what is mapped so far, with the next of the ids
pub map_next : {X Y : Type 0} (f : X → Y) (g : ℕ → Y) (xs : List X) (x : X) (ids : List ℕ) (i : ℕ) → map f xs ≡ map g (take i ids) → f x ≡ g (get_or ids i 0) → i < length ids
    → map f (xs ++ x ∷ []) ≡ map g (take (i + 1) ids)
map_next f g xs x ids i so_far next within =
    map-append f xs (x ∷ []) ∙ ap (λ ys. ys ++ f x ∷ []) so_far ∙ ap (λ y. map g (take i ids) ++ y ∷ []) next
    ∙ sym (map-append g (take i ids) (get_or ids i 0 ∷ [])) ∙ ap (map g) (sym (take_more ids i 0 within))

none_known : (count n : ℕ) → [] ≡ take count (get_or {A = List PlacedArray} [] n [])
none_known zero n = refl
none_known (suc count) zero = refl
none_known (suc count) (suc n) = refl

-- where a part knows the arrays of an id, what it knows is in effect
pub effect_known : (bytes : List ℕ) (before : List DictionaryBatch) (k : Kept) (id : ℕ) (part : DictionaryPart) (lists : List Dictionary) → HasInEffect bytes k before → lists_of lists ≡ k.lists
    → known_arrays k.lists part ≡ arrays_for k id → arrays_in bytes lists part ≡ in_effect id before
effect_known bytes before k id part [] h same known =
    ap (map (array_in bytes no_dictionary)) (none_known part.count part.number ∙ ap (λ (xs : List (List PlacedArray)). known_arrays xs part) same ∙ known) ∙ h id
effect_known bytes before k id part (d ∷ lists) h same known =
    ap (map (array_in bytes no_dictionary)) (ap (λ (xs : List (List PlacedArray)). known_arrays xs part) same ∙ known) ∙ h id

-- the whole list of an id, as a part
module _ (k : Kept) (lists : List Dictionary) (numbers : List CurrentList) (id n count : ℕ) (d : Dictionary) (is : kept lists numbers ≡ k) (found : number_in id numbers ≡ Some n) (within : n < length lists)
    (own : d ≡ get_or lists n d) (all : count ≡ vec_len d.arrays) where
  abbrev whole : DictionaryPart
  whole = record { number = n; count = count }

  items_there : d.arrays.items ≡ get_or (lists_of lists) n []
  items_there = there lists n d within own

  pub whole_known : known_arrays k.lists whole ≡ arrays_for k id
  whole_known =
      subst (λ (x : Kept). known_arrays x.lists whole ≡ arrays_for x id) is
      (ap (take count) (sym items_there) ∙ take_all count d.arrays.items (omega (arith, all, d.arrays.ok.0)) ∙ items_there ∙ sym (ap (list_at (lists_of lists)) found))

  pub whole_stands : IsPart k.lists whole
  whole_stands = subst (λ (x : Kept). IsPart x.lists whole) is (omega (arith, all, d.arrays.ok.0, ap length items_there))
