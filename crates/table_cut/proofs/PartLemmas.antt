-- One run more, of a batch or of the batches of a part.
use Rattle.std.specs.List.{flat_map}
use Rattle.std.proofs.Common.{◌≡◌, ℕ, ◌+◌, ◌<◌, List, ◌++◌, length, take, get_or, sym, ap, ◌∙◌, append_assoc}
use Rattle.facts.specs.laws.Lists.{take-item, flat_map-push}

pub next_joined : {X A : Type 0} (f : X → List A) (xs : List X) (i : ℕ) (x : X) (new old before : List A) → i < length xs → x ≡ get_or xs i x → new ≡ old ++ f x → old ≡ before ++ flat_map f (take i xs)
    → new ≡ before ++ flat_map f (take (i + 1) xs)
next_joined f xs i x new old before lt is pushed was =
    pushed ∙ ap (λ ys. ys ++ f x) was ∙ append_assoc before (flat_map f (take i xs)) (f x)
    ∙ ap (λ ys. before ++ ys) (sym (flat_map-push f (take i xs) x)) ∙ ap (λ ys. before ++ flat_map f ys) (sym (take-item xs i x lt is))
