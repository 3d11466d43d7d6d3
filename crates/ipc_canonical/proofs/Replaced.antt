-- After each dictionary was replaced its new array alone is in effect.
use Rattle.std.specs.Prelude.{◌==◌}
use Rattle.std.specs.List.{range_with_len}
use Rattle.std.proofs.Common.{◌≡◌, ◌≤◌, ℕ, ◌+◌, false, List, [], ◌∷◌, ◌++◌, length, map, refl, ap, arith, ◌∙◌}
use Rattle.std.proofs.lemmas.Bool.Decides.{Decides-eqb}
use Rattle.columns.specs.Array.{Array}
use Rattle.dictionary.specs.InEffect.{DictionaryBatch, after_batch, after_batches, in_effect}
use Rattle.arrays.specs.Dictionaries.{DictionaryColumn, dictionaries_after}
use Rattle.ipc_canonical.specs.Numbered.{replacing}
use Rattle.ipc_canonical.proofs.Ids.{other_way}

after-append : (id : ℕ) (arrays : List Array) (before since : List DictionaryBatch) → after_batches id arrays (before ++ since) ≡ after_batches id (after_batches id arrays before) since
after-append id arrays [] since = refl
after-append id arrays (b ∷ before) since = after-append id (after_batch id arrays b) before since

skipped : (id : ℕ) (kept : List Array) (b : DictionaryBatch) → (b.id == id) ≡ false → after_batch id kept b ≡ kept
skipped id kept b h = rw h refl

begun : (id : ℕ) (kept : List Array) (a : Array) → after_batch id kept (record { id = id; is_delta = false; array = a }) ≡ a ∷ []
begun id kept a = rw ((Decides-eqb id id).1 refl) refl

-- later ids change nothing of an earlier one
later : (id n : ℕ) (kept arrays : List Array) → id + 1 ≤ n → after_batches id kept (replacing n arrays) ≡ kept
later id n kept [] h = refl
later id n kept (a ∷ arrays) h =
    ap (λ (now : List Array). after_batches id now (replacing (n + 1) arrays)) (skipped id kept (record { id = n; is_delta = false; array = a }) (other_way id n h))
    ∙ later id (n + 1) kept arrays (omega (arith, h))

first_now : (n : ℕ) (kept : List Array) (a : Array) (arrays : List Array) → after_batches n kept (replacing n (a ∷ arrays)) ≡ a ∷ []
first_now n kept a arrays =
    ap (λ (now : List Array). after_batches n now (replacing (n + 1) arrays)) (begun n kept a) ∙ later n (n + 1) (a ∷ []) arrays (omega arith)

each_now : (n : ℕ) (kept : ℕ → List Array) (arrays : List Array) → map (λ id. after_batches id (kept id) (replacing n arrays)) (range_with_len n (length arrays)) ≡ map (λ a. a ∷ []) arrays
each_now n kept [] = refl
each_now n kept (a ∷ arrays) =
    let b : DictionaryBatch = record { id = n; is_delta = false; array = a } in
    (λ j. first_now n (kept n) a arrays j ∷ each_now (n + 1) (λ id. after_batch id (kept id) b) arrays j)

by_ids : (f : ℕ → List Array) (columns : List DictionaryColumn) → map (λ c. f c.id) columns ≡ map f (map (λ c. c.id) columns)
by_ids f [] = refl
by_ids f (c ∷ columns) = ap (λ (rest : List (List Array)). f c.id ∷ rest) (by_ids f columns)

all_before : (ids : List ℕ) (before since : List DictionaryBatch) → map (λ id. in_effect id (before ++ since)) ids ≡ map (λ id. after_batches id (in_effect id before) since) ids
all_before [] before since = refl
all_before (id ∷ ids) before since = λ j. after-append id [] before since j ∷ all_before ids before since j

pub replaced : (columns : List DictionaryColumn) (before : List DictionaryBatch) (arrays : List Array) → map (λ c. c.id) columns ≡ range_with_len 0 (length arrays)
    → dictionaries_after (before ++ replacing 0 arrays) columns ≡ map (λ a. a ∷ []) arrays
replaced columns before arrays ids =
    by_ids (λ id. in_effect id (before ++ replacing 0 arrays)) columns
    ∙ ap (map (λ (id : ℕ). in_effect id (before ++ replacing 0 arrays))) ids
    ∙ all_before (range_with_len 0 (length arrays)) before (replacing 0 arrays)
    ∙ each_now 0 (λ id. in_effect id before) arrays
