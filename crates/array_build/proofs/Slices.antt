-- Slices as they are added one by one.
use Rattle.std.proofs.Common.{◌≡◌, ℕ, List, [], ◌∷◌, ◌++◌, Bor, ap, ◌∙◌, append-nil}
use Rattle.std.proofs.lemmas.List.Concat.{flat_map-append}
use Rattle.batch_build.specs.Batch.{joined_slices}

pub slice_more : (old new : List (Bor (List ℕ))) (slice : Bor (List ℕ)) (bytes : List ℕ) → new ≡ old ++ slice ∷ [] → slice.now ≡ bytes → joined_slices new ≡ joined_slices old ++ bytes
slice_more old new slice bytes added is =
    ap joined_slices added
    ∙ flat_map-append (λ (s : Bor (List ℕ)). s.now) old (slice ∷ [])
    ∙ ap (λ (xs : List ℕ). joined_slices old ++ xs) (append-nil slice.now ∙ is)
