-- A flag for each slot, pushed one by one.
use Rattle.std.specs.Prelude.{replicate}
use Rattle.std.specs.List.{range_with_len}
use Rattle.std.proofs.Common.{◌≡◌, ℕ, ◌+◌, ◌-◌, ◌<◌, suc, Bool, List, [], ◌∷◌, ◌++◌, map, ap, ◌∙◌, arith}
use Rattle.batch_build.specs.laws.Turns.{turned}

alike_next : (flag : Bool) (count i : ℕ) → i < count → flag ∷ replicate (count - (i + 1)) flag ≡ replicate (count - i) flag
alike_next flag count i lt = let e : suc (count - (i + 1)) ≡ count - i = omega arith in ap (λ (n : ℕ). replicate n flag) e

pub alike_pushed : (made all next : List Bool) (flag : Bool) (count i : ℕ) → i < count → next ≡ made ++ flag ∷ [] → made ++ replicate (count - i) flag ≡ all
    → next ++ replicate (count - (i + 1)) flag ≡ all
alike_pushed made all next flag count i lt added kept =
    turned made (flag ∷ []) (replicate (count - (i + 1)) flag) all next added (ap (λ (flags : List Bool). made ++ flags) (alike_next flag count i lt) ∙ kept)

slots_next : (p : ℕ → Bool) (end i : ℕ) → i < end → p i ∷ map p (range_with_len (i + 1) (end - (i + 1))) ≡ map p (range_with_len i (end - i))
slots_next p end i lt = let e : suc (end - (i + 1)) ≡ end - i = omega arith in ap (λ (n : ℕ). map p (range_with_len i n)) e

pub slot_pushed : (p : ℕ → Bool) (made all next : List Bool) (flag : Bool) (end i : ℕ) → i < end → flag ≡ p i → next ≡ made ++ flag ∷ [] → made ++ map p (range_with_len i (end - i)) ≡ all
    → next ++ map p (range_with_len (i + 1) (end - (i + 1))) ≡ all
slot_pushed p made all next flag end i lt is added kept =
    let own = added ∙ ap (λ (f : Bool). made ++ f ∷ []) is in
    turned made (p i ∷ []) (map p (range_with_len (i + 1) (end - (i + 1)))) all next own (ap (λ (flags : List Bool). made ++ flags) (slots_next p end i lt) ∙ kept)
