-- What a call leaves, by what it answers.
use Rattle.std.specs.Prelude.{◌==◌, nat_lt, OnOk, OnErr, if◌then◌else◌}
use Rattle.std.proofs.Common.{◌≡◌, ℕ, zero, suc, ◌≤◌, ◌<◌, Bool, true, false, Some, Result, Ok, Err, List, [], ◌∷◌, ◌++◌, length, get_or, map, take, refl, ap, sym, ◌∙◌, arith, subst}
use Rattle.std.proofs.Math.ListN.{set}
use Rattle.std.proofs.lemmas.List.{length-map}
use Rattle.std.proofs.lemmas.Bool.Decides.{nat_tests}
use Rattle.columns.specs.declared.array.PlacedArray.{PlacedArray}
use Rattle.columns.specs.declared.array.Dictionary.{Dictionary}
use Rattle.columns.specs.Array.{Array}
use Rattle.columns.specs.View.{array_in, no_dictionary}
use Rattle.dictionary.specs.declared.current.CurrentList.{CurrentList}
use Rattle.dictionary.specs.InEffect.{DictionaryBatch}
use Rattle.dictionary.specs.Kept.{Kept, lists_of, number_in, list_at, arrays_for, HasInEffect, batch_of, KeepsParts, AreApart}
use Rattle.dictionary.specs.inner.Numbers.{with_number}
use Rattle.dictionary.proofs.Lists.{begun_is, begun_apart, grown_is, grown_keeps, effect_more}

abbrev pub kept : List Dictionary → List CurrentList → Kept
kept lists numbers = record { lists = lists_of lists; numbers = numbers }

-- the effect of a batch on all dictionaries
abbrev Effect : Kept → Kept → ℕ → Bool → PlacedArray → Type 0
Effect old new id is_delta a = (bytes : List ℕ) (before : List DictionaryBatch) → HasInEffect bytes old before → HasInEffect bytes new (before ++ batch_of id is_delta (array_in bytes no_dictionary a) ∷ [])

-- ---- a list that is begun

pub began_apart : {T E : Type 0} (r : Result T E) (lists new : List Dictionary) (numbers new_numbers : List CurrentList) (id : ℕ) (more : List PlacedArray) → OnOk r (lists_of new ≡ lists_of lists ++ more ∷ [])
    → OnOk r (new_numbers ≡ with_number id (length lists) numbers) → OnErr r (new ≡ lists) → OnErr r (new_numbers ≡ numbers) → AreApart (lists_of lists) numbers → AreApart (lists_of new) new_numbers
began_apart (Ok x) lists new numbers new_numbers id more longer named same same_numbers old =
    let n : length (lists_of lists) ≡ length lists = length-map lists (λ (d : Dictionary). d.arrays.items) in
    subst (λ xs. AreApart xs new_numbers) (sym longer)
    (subst (λ (ns : List CurrentList). AreApart (lists_of lists ++ more ∷ []) ns) (sym (named ∙ ap (λ (k : ℕ). with_number id k numbers) (sym n)))
    (begun_apart (lists_of lists) numbers id more old))
began_apart (Err e) lists new numbers new_numbers id more longer named same same_numbers old =
    subst (λ (xs : List Dictionary). AreApart (lists_of xs) new_numbers) (sym same) (subst (λ (ns : List CurrentList). AreApart (lists_of lists) ns) (sym same_numbers) old)

-- without arrays before, what is appended is what begins
alone : (this is_delta : Bool) (arrays others : List PlacedArray) (a : PlacedArray) → (is_delta ≡ true → arrays ≡ [])
    → (if this then a ∷ [] else others) ≡ (if this then (if is_delta then arrays ++ a ∷ [] else a ∷ []) else others)
alone true true arrays others a none = ap (λ (xs : List PlacedArray). xs ++ a ∷ []) (sym (none refl))
alone true false arrays others a none = refl
alone false is_delta arrays others a none = refl

pub began_effect : {T E : Type 0} (r : Result T E) (k : Kept) (lists new : List Dictionary) (numbers new_numbers : List CurrentList) (id : ℕ) (is_delta : Bool) (a : PlacedArray) → kept lists numbers ≡ k
    → OnOk r (lists_of new ≡ lists_of lists ++ (a ∷ []) ∷ []) → OnOk r (new_numbers ≡ with_number id (length lists) numbers) → AreApart (lists_of lists) numbers → (is_delta ≡ true → arrays_for (kept lists numbers) id ≡ [])
    → OnOk r (Effect k (kept new new_numbers) id is_delta a)
began_effect (Ok x) k lists new numbers new_numbers id is_delta a is longer named apart none = λ bytes before h.
    let old : Kept = kept lists numbers in
    let n : length (lists_of lists) ≡ length lists = length-map lists (λ (d : Dictionary). d.arrays.items) in
    let each : (other : ℕ) → arrays_for (kept new new_numbers) other ≡ (if id == other then (if is_delta then arrays_for old id ++ a ∷ [] else a ∷ []) else arrays_for old other) =
    λ other.
    ap (λ xs. list_at xs (number_in other new_numbers)) longer
    ∙ ap (λ (ns : List CurrentList). list_at (lists_of lists ++ (a ∷ []) ∷ []) (number_in other ns)) (named ∙ ap (λ (i : ℕ). with_number id i numbers) (sym n))
    ∙ begun_is old id other (a ∷ []) apart
    ∙ alone (id == other) is_delta (arrays_for old id) (arrays_for old other) a none in
    effect_more bytes old (kept new new_numbers) before id is_delta a each (subst (λ (x : Kept). HasInEffect bytes x before) (sym is) h)
began_effect (Err e) k lists new numbers new_numbers id is_delta a is longer named apart none = tt

-- ---- a list that grows

pub grew_effect : {T E : Type 0} (r : Result T E) (k : Kept) (lists new : List Dictionary) (numbers : List CurrentList) (id n : ℕ) (a : PlacedArray) → kept lists numbers ≡ k
    → OnOk r (lists_of new ≡ set (lists_of lists) n (get_or (lists_of lists) n [] ++ a ∷ [])) → AreApart (lists_of lists) numbers → number_in id numbers ≡ Some n → OnOk r (Effect k (kept new numbers) id true a)
grew_effect (Ok x) k lists new numbers id n a is longer apart found = λ bytes before h.
    let old : Kept = kept lists numbers in
    let own : arrays_for old id ≡ get_or (lists_of lists) n [] = ap (list_at (lists_of lists)) found in
    let each : (other : ℕ) → arrays_for (kept new numbers) other ≡ (if id == other then arrays_for old id ++ a ∷ [] else arrays_for old other) =
    λ other.
    ap (λ xs. list_at xs (number_in other numbers)) longer
    ∙ grown_is old id other n (get_or (lists_of lists) n [] ++ a ∷ []) apart found
    ∙ ap (λ (xs : List PlacedArray). if id == other then xs ++ a ∷ [] else arrays_for old other) (sym own) in
    effect_more bytes old (kept new numbers) before id true a each (subst (λ (x : Kept). HasInEffect bytes x before) (sym is) h)
grew_effect (Err e) k lists new numbers id n a is longer apart found = tt

pub grew_keeps : {T E : Type 0} (r : Result T E) (k : Kept) (lists new : List Dictionary) (numbers : List CurrentList) (n : ℕ) (a : PlacedArray) → kept lists numbers ≡ k
    → OnOk r (lists_of new ≡ set (lists_of lists) n (get_or (lists_of lists) n [] ++ a ∷ [])) → n < length (lists_of lists) → OnOk r (KeepsParts k.lists (lists_of new))
grew_keeps (Ok x) k lists new numbers n a is longer within =
    subst (λ xs. KeepsParts xs (lists_of new)) (ap (λ (x : Kept). x.lists) is)
    (subst (λ xs. KeepsParts (lists_of lists) xs) (sym longer) (grown_keeps (lists_of lists) n (a ∷ []) within))
grew_keeps (Err e) k lists new numbers n a is longer within = tt

-- ---- whether an id has a dictionary

pub has_is : (known : ℕ) (xs arrays : List PlacedArray) (f : PlacedArray → Array) (effect : List Array) (any : Bool) → take known xs ≡ arrays → known ≤ length xs → map f arrays ≡ effect
    → (effect ≡ [] → any ≡ false) → (any ≡ false → effect ≡ []) → nat_lt 0 known ≡ any
has_is zero xs arrays f effect any is stands mapped none only = sym (none (sym mapped ∙ ap (map f) (sym is)))
has_is (suc n) [] arrays f effect any is stands mapped none only = absurd (omega arith)
has_is (suc n) (x ∷ xs) arrays f effect true is stands mapped none only = grind (arith, nat_tests)
has_is (suc n) (x ∷ xs) arrays f effect false is stands mapped none only =
    let some : f x ∷ map f (take n xs) ≡ [] = ap (map f) is ∙ mapped ∙ only refl in
    absurd cc
