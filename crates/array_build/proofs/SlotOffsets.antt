-- Offsets of slots one after another, written over room for as many.
use Rattle.std.proofs.Common.{◌≡◌, ◌≤◌, ◌<◌, ◌+◌, ◌-◌, ◌*◌, ◌++◌, ◌∙◌, ℕ, List, false, ap, arith, length, length-append, refl, subst, sym, take}
use Rattle.std.proofs.Math.Nat.{mul-le-mul_left}
use Rattle.std.proofs.lemmas.List.{append_assoc, length-take-le, take_at}
use Rattle.columns.specs.Array.{Array, offsets_in, slots_in}
use Rattle.columns.specs.CellAt.{number_at}
use Rattle.columns.specs.Tests.{are_unordered}
use Rattle.columns.specs.laws.Offsets.{offsets_ascend}

-- one more after those that are written
pub one_put : (w k k' : ℕ) (old bytes rest new : List ℕ) → w * k ≤ length old → length bytes ≡ w → k' ≡ k + 1 → new ≡ take (w * k) old ++ (bytes ++ rest)
    → take (w * k') new ≡ take (w * k) old ++ bytes
one_put w k k' old bytes rest new room size next is =
    let front : List ℕ = take (w * k) old in
    let e : w * (k + 1) ≡ w * k + w = omega arith in
    let lf : length front ≡ w * k = length-take-le (w * k) old room in
    let whole : front ++ (bytes ++ rest) ≡ (front ++ bytes) ++ rest = sym (append_assoc front bytes rest) in
    let lw : length (front ++ bytes) ≡ w * k + w = length-append front bytes ∙ rw (lf, size) refl in
    ap (λ (n : ℕ). take (w * n) new) next ∙ ap (λ (n : ℕ). take n new) e ∙ ap (take (w * k + w)) (is ∙ whole) ∙ take_at (front ++ bytes) rest (w * k + w) lw

-- there is room for one more
pub one_room : (w k n : ℕ) (room : List ℕ) → k < n → length room ≡ w * n → w * k + w ≤ length room
one_room w k n room lt size =
    let e : w * (k + 1) ≡ w * k + w = omega arith in
    let most : w * (k + 1) ≤ w * n = mul-le-mul_left w (omega arith) in
    omega (arith, e, most, size)

-- offsets ascend
pub ascend : (w end : ℕ) (a : Array) (from i : ℕ) → are_unordered w end a ≡ false → from ≤ i → i ≤ slots_in a → 0 < slots_in a
    → number_at w (offsets_in a) from ≤ number_at w (offsets_in a) i
ascend w end a from i up order within some =
    let e : from + (i - from) ≡ i = omega arith in
    subst (λ (n : ℕ). number_at w (offsets_in a) from ≤ number_at w (offsets_in a) n) e (offsets_ascend w end a from (i - from) up some (omega (arith, e)))
