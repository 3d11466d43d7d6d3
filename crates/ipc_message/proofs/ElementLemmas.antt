-- A loop over the elements of a vector: the walk over those that are left, and what they decode to.
use Rattle.std.proofs.Common.{◌≡◌, ℕ, ◌+◌, ◌<◌, ◌≤◌, List, [], ◌∷◌, ◌++◌, length, drop, map, slice_index, Result, Ok, Err, sym, ap, ◌∙◌, append_assoc}
use Rattle.std.specs.List.{flat_map}
use Rattle.std.proofs.lemmas.List.{drop_all, drop_more}
use Rattle.flatbuf.specs.declared.FlatError.{FlatError}
use Rattle.flatbuf.specs.Walk.{Thing, run}
use Rattle.flatbuf.specs.laws.Walk.{run_ok, run_err}
use Rattle.ipc_message.specs.declared.walk_error.WalkError.{WalkError}
use Rattle.ipc_message.specs.declared.walk_error.WalkError.TheVariants as errors
use Rattle.ipc_message.specs.inner.Walked.{WalkFails}

-- the element at i is bad
pub element_err : (things : ℕ → List Thing) (bytes : List ℕ) (places : List ℕ) (i m : ℕ) (e : FlatError) (total : Result ℕ FlatError) → i < length places
    → run bytes (flat_map things (drop i places)) m ≡ total → run bytes (things (slice_index places i)) m ≡ Err e → total ≡ Err e
element_err things bytes places i m e total lt so_far bad =
    sym so_far ∙ ap (λ (ps : List ℕ). run bytes (flat_map things ps) m) (drop_more places i 0 lt) ∙ run_err bytes _ _ m e bad

-- the same, where memory may have run out
pub element_fails : (e : WalkError) (things : ℕ → List Thing) (bytes : List ℕ) (places : List ℕ) (i m : ℕ) (total : Result ℕ FlatError) → i < length places
    → run bytes (flat_map things (drop i places)) m ≡ total → WalkFails e (run bytes (things (slice_index places i)) m) → WalkFails e total
element_fails errors.Memory things bytes places i m total lt so_far bad = tt
element_fails (errors.Flat f) things bytes places i m total lt so_far bad = element_err things bytes places i m f total lt so_far bad

-- the element at i is fine
pub element_ok : (things : ℕ → List Thing) (bytes : List ℕ) (places : List ℕ) (i m k : ℕ) (total : Result ℕ FlatError) → i < length places
    → run bytes (flat_map things (drop i places)) m ≡ total → run bytes (things (slice_index places i)) m ≡ Ok k
    → run bytes (flat_map things (drop (i + 1) places)) k ≡ total
element_ok things bytes places i m k total lt so_far fine =
    sym (run_ok bytes _ _ m k fine) ∙ ap (λ (ps : List ℕ). run bytes (flat_map things ps) m) (sym (drop_more places i 0 lt)) ∙ so_far

-- it was read
pub element_read : {A : Type 0} (decoded : ℕ → A) (places : List ℕ) (i : ℕ) (found total : List A) → i < length places
    → found ++ map decoded (drop i places) ≡ total → (found ++ decoded (slice_index places i) ∷ []) ++ map decoded (drop (i + 1) places) ≡ total
element_read decoded places i found total lt so_far =
    append_assoc found _ _ ∙ ap (λ (ps : List ℕ). found ++ map decoded ps) (sym (drop_more places i 0 lt)) ∙ so_far

-- no element is left
pub all_done : (things : ℕ → List Thing) (bytes : List ℕ) (places : List ℕ) (i m : ℕ) (total : Result ℕ FlatError) → length places ≤ i
    → run bytes (flat_map things (drop i places)) m ≡ total → total ≡ Ok m
unfolding run
all_done things bytes places i m total le so_far = sym so_far ∙ ap (λ (ps : List ℕ). run bytes (flat_map things ps) m) (drop_all i places le)
