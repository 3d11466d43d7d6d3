-- A list of arrays that is written.
use Rattle.std.specs.Prelude.{OnOk, OnErr}
use Rattle.std.proofs.Common.{Result, Ok, Err, ◌≡◌, ℕ, ◌<◌, List, [], ◌∷◌, ◌++◌, length, get_or, ap, sym, ◌∙◌}
use Rattle.std.proofs.Math.ListN.{set}
use Rattle.std.proofs.lemmas.List.{map-set, get_or-map, set-get_or}
use Rattle.columns.specs.declared.array.PlacedArray.{PlacedArray}
use Rattle.columns.specs.declared.array.Dictionary.{Dictionary}
use Rattle.dictionary.specs.Kept.{lists_of}
use Rattle.dictionary.specs.inner.Lists.{with_array}

-- the list that stands at a place
pub there : (lists : List Dictionary) (n : ℕ) (old : Dictionary) → n < length lists → old ≡ get_or lists n old → old.arrays.items ≡ get_or (lists_of lists) n []
there lists n old within is = ap (λ (d : Dictionary). d.arrays.items) is ∙ sym (get_or-map (λ (d : Dictionary). d.arrays.items) lists n old [] within)

longer : (lists : List Dictionary) (n : ℕ) (old new : Dictionary) (more : List PlacedArray) → n < length lists → old ≡ get_or lists n old → new.arrays.items ≡ old.arrays.items ++ more
    → lists_of (set lists n new) ≡ set (lists_of lists) n (get_or (lists_of lists) n [] ++ more)
longer lists n old new more within is grown =
    map-set (λ (d : Dictionary). d.arrays.items) lists n new
    ∙ ap (set (lists_of lists) n) (grown ∙ ap (λ (xs : List PlacedArray). xs ++ more) (there lists n old within is))

unchanged : (lists : List Dictionary) (n : ℕ) (old new : Dictionary) → n < length lists → old ≡ get_or lists n old → new.arrays.items ≡ old.arrays.items → lists_of (set lists n new) ≡ lists_of lists
unchanged lists n old new within is same =
    map-set (λ (d : Dictionary). d.arrays.items) lists n new
    ∙ ap (set (lists_of lists) n) (same ∙ there lists n old within is)
    ∙ set-get_or (lists_of lists) n []

-- the same of what a call answers
pub longer_if_ok : {T E : Type 0} (r : Result T E) (lists : List Dictionary) (n : ℕ) (old new : Dictionary) (a : PlacedArray) → n < length lists → old ≡ get_or lists n old
    → OnOk r (new.arrays.items ≡ old.arrays.items ++ a ∷ []) → OnOk r (lists_of (set lists n new) ≡ with_array n a (lists_of lists))
longer_if_ok (Ok x) lists n old new a within is grown = longer lists n old new (a ∷ []) within is grown
longer_if_ok (Err e) lists n old new a within is grown = tt

pub unchanged_if_err : {T E : Type 0} (r : Result T E) (lists : List Dictionary) (n : ℕ) (old new : Dictionary) → n < length lists → old ≡ get_or lists n old
    → OnErr r (new.arrays.items ≡ old.arrays.items) → OnErr r (lists_of (set lists n new) ≡ lists_of lists)
unchanged_if_err (Ok x) lists n old new within is same = tt
unchanged_if_err (Err e) lists n old new within is same = unchanged lists n old new within is same
