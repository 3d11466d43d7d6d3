-- What stands of the batches of an id.
use Rattle.std.specs.Prelude.{not, ◌&&◌, ◌||◌, if◌then◌else◌}
use Rattle.std.specs.List.{list_any, filter}
use Rattle.std.proofs.Common.{◌≡◌, ◌≢◌, ℕ, Bool, true, false, List, [], ◌∷◌, ◌++◌, map, refl, ap, sym, ◌∙◌, append_assoc, append-nil}
use Rattle.std.proofs.lemmas.Bool.{or_parts}
use Rattle.columns.specs.Array.{Array}
use Rattle.dictionary.specs.InEffect.{DictionaryBatch, has_id, replaces, after_batches, in_effect}
use Rattle.dictionary.specs.laws.InEffect.{after_more}

abbrev arrays_of_id : ℕ → List DictionaryBatch → List Array
arrays_of_id id batches = map (λ x. x.array) (filter (has_id id) batches)

-- a batch of this id that is a delta, or one of another
appended : (same delta : Bool) (arrays others : List Array) (a : Array) (then_rest : List Array → List Array) → (same && not delta) ≡ false → ((xs : List Array) → then_rest xs ≡ xs ++ others)
    → then_rest (if same then (if delta then arrays ++ a ∷ [] else a ∷ []) else arrays) ≡ arrays ++ (if same then a ∷ others else others)
appended false delta arrays others a then_rest h rest = rest arrays
appended true true arrays others a then_rest h rest = rest (arrays ++ a ∷ []) ∙ append_assoc arrays (a ∷ []) others
appended true false arrays others a then_rest h rest = absurd cc

mapped : (same : Bool) (b : DictionaryBatch) (batches : List DictionaryBatch) → (if same then b.array ∷ map (λ (x : DictionaryBatch). x.array) batches else map (λ (x : DictionaryBatch). x.array) batches)
    ≡ map (λ (x : DictionaryBatch). x.array) (if same then b ∷ batches else batches)
mapped true b batches = refl
mapped false b batches = refl

-- deltas are appended in their order
pub deltas_are_appended : (id : ℕ) (arrays : List Array) (batches : List DictionaryBatch) → list_any (replaces id) batches ≡ false
    → after_batches id arrays batches ≡ arrays ++ arrays_of_id id batches
deltas_are_appended id arrays [] h = sym (append-nil arrays)
deltas_are_appended id arrays (b ∷ batches) h =
    let parts = or_parts (replaces id b) (list_any (replaces id) batches) h in
    appended (has_id id b) b.is_delta arrays (arrays_of_id id batches) b.array (λ (xs : List Array). after_batches id xs batches) parts.0 (λ xs. deltas_are_appended id xs batches parts.1)
    ∙ ap (λ (xs : List Array). arrays ++ xs) (mapped (has_id id b) b (filter (has_id id) batches))

begun : (same delta : Bool) (arrays : List Array) (a : Array) → (same && not delta) ≡ true → (if same then (if delta then arrays ++ a ∷ [] else a ∷ []) else arrays) ≡ a ∷ []
begun true false arrays a h = refl
begun true true arrays a h = absurd cc
begun false delta arrays a h = absurd cc

pub since_replaced : (id : ℕ) (before since : List DictionaryBatch) (b : DictionaryBatch) → replaces id b ≡ true → list_any (replaces id) since ≡ false
    → in_effect id (before ++ b ∷ since) ≡ b.array ∷ arrays_of_id id since
since_replaced id before since b is h =
    after_more id [] before b since
    ∙ ap (λ (xs : List Array). after_batches id xs since) (begun (has_id id b) b.is_delta (in_effect id before) b.array is)
    ∙ deltas_are_appended id (b.array ∷ []) since h

-- ---- an id without a batch

another : (same delta : Bool) (arrays : List Array) (a : Array) → same ≡ false → (if same then (if delta then arrays ++ a ∷ [] else a ∷ []) else arrays) ≡ arrays
another false delta arrays a h = refl
another true delta arrays a h = absurd cc

pub no_batch : (id : ℕ) (arrays : List Array) (batches : List DictionaryBatch) → list_any (has_id id) batches ≡ false → after_batches id arrays batches ≡ arrays
no_batch id arrays [] h = refl
no_batch id arrays (b ∷ batches) h =
    let parts = or_parts (has_id id b) (list_any (has_id id) batches) h in
    ap (λ (xs : List Array). after_batches id xs batches) (another (has_id id b) b.is_delta arrays b.array parts.0) ∙ no_batch id arrays batches parts.1

-- what has an array has one after every batch
still_one : (same delta : Bool) (x : Array) (xs : List Array) (a : Array) (then_rest : List Array → List Array) → ((y : Array) (ys : List Array) → then_rest (y ∷ ys) ≢ [])
    → then_rest (if same then (if delta then (x ∷ xs) ++ a ∷ [] else a ∷ []) else x ∷ xs) ≢ []
still_one false delta x xs a then_rest rest = rest x xs
still_one true true x xs a then_rest rest = rest x (xs ++ a ∷ [])
still_one true false x xs a then_rest rest = rest a []

never_none : (id : ℕ) (x : Array) (xs : List Array) (batches : List DictionaryBatch) → after_batches id (x ∷ xs) batches ≢ []
never_none id x xs [] h = cc
never_none id x xs (b ∷ batches) h = still_one (has_id id b) b.is_delta x xs b.array (λ (ys : List Array). after_batches id ys batches) (λ y ys. never_none id y ys batches) h

first_of_id : (same delta : Bool) (arrays : List Array) (a : Array) (then_rest : List Array → List Array) (others : Bool) → ((y : Array) (ys : List Array) → then_rest (y ∷ ys) ≢ []) → (then_rest arrays ≡ [] → others ≡ false)
    → then_rest (if same then (if delta then arrays ++ a ∷ [] else a ∷ []) else arrays) ≡ [] → (same || others) ≡ false
first_of_id false delta arrays a then_rest others one rest h = rest h
first_of_id true true [] a then_rest others one rest h = absurd (one a [] h)
first_of_id true true (x ∷ xs) a then_rest others one rest h = absurd (one x (xs ++ a ∷ []) h)
first_of_id true false arrays a then_rest others one rest h = absurd (one a [] h)

pub none_only_without : (id : ℕ) (arrays : List Array) (batches : List DictionaryBatch) → after_batches id arrays batches ≡ [] → list_any (has_id id) batches ≡ false
none_only_without id arrays [] h = refl
none_only_without id arrays (b ∷ batches) h =
    first_of_id (has_id id b) b.is_delta arrays b.array (λ (ys : List Array). after_batches id ys batches) (list_any (has_id id) batches) (λ y ys. never_none id y ys batches)
    (λ e. none_only_without id arrays batches e) h
