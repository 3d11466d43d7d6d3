-- Texts that are pushed after others.
use Rattle.std.specs.Prelude.{Result, Ok, Err, OnOk}
use Rattle.std.proofs.Common.{◌≡◌, ◌+◌, ◌≤◌, ◌∙◌, ◌++◌, ℕ, List, [], ◌∷◌, length, take, ap, append_assoc}
use Rattle.std.proofs.lemmas.List.{take-take}
use lib.Seq.{take-append-add}

-- a text between two bytes
pub between : {E : Type 0} (r : Result (Unit {0}) E) (a b : ℕ) (old one two new text : List ℕ) → one ≡ old ++ a ∷ [] → two ≡ one ++ text → OnOk r (new ≡ two ++ b ∷ []) → OnOk r (new ≡ old ++ a ∷ (text ++ b ∷ []))
between (Ok x) a b old one two new text first second third =
    third ∙ ap (λ (xs : List ℕ). xs ++ b ∷ []) (second ∙ ap (λ (xs : List ℕ). xs ++ text) first) ∙ append_assoc (old ++ a ∷ []) text (b ∷ []) ∙ append_assoc old (a ∷ []) (text ++ b ∷ [])
between (Err e) a b old one two new text first second third = tt

-- a text between two bytes, for which room was taken before
pub in_room : (a b : ℕ) (old room one two new text : List ℕ) → room ≡ old → one ≡ room ++ a ∷ [] → two ≡ one ++ text → new ≡ two ++ b ∷ [] → new ≡ old ++ a ∷ (text ++ b ∷ [])
in_room a b old room one two new text same first second third =
    third
    ∙ ap (λ (xs : List ℕ). xs ++ b ∷ []) (second ∙ ap (λ (xs : List ℕ). xs ++ text) (first ∙ ap (λ (xs : List ℕ). xs ++ a ∷ []) same))
    ∙ append_assoc (old ++ a ∷ []) text (b ∷ [])
    ∙ append_assoc old (a ∷ []) (text ++ b ∷ [])

-- the first of some bytes, where more were pushed
pub cut_off : (one more two bytes : List ℕ) (end size most : ℕ) → end ≡ length one + size → size ≤ most → more ≡ one ++ take most bytes → two ≡ take end more → two ≡ one ++ take size bytes
cut_off one more two bytes end size most is few first second =
    second
    ∙ ap (take end) first
    ∙ ap (λ n. take n (one ++ take most bytes)) is
    ∙ take-append-add one (take most bytes) size
    ∙ ap (λ (xs : List ℕ). one ++ xs) (take-take size most bytes few)
