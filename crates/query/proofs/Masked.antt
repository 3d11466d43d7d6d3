-- Flags of slots, of which some are null.
use Rattle.std.proofs.Common.{◌≡◌, ℕ, zero, suc, ◌+◌, ◌*◌, ◌/◌, ◌%◌, ◌^◌, ◌<◌, ◌≤◌, Bool, true, false, cond, List, [], ◌∷◌, ◌==◌, length, get_or, map, take, drop, min, refl, sym, ap, ◌∙◌, arith}
use Rattle.std.specs.Prelude.{bit_and, ◌&&◌}
use Rattle.std.specs.Int.{bit_at}
use Rattle.std.specs.Int.Bits.{and_step}
use Rattle.std.specs.List.{range_with_len}
use Rattle.std.specs.Simd.Lanes.{Each1, mask_l, number_l, digits_l}
use Rattle.std.proofs.lemmas.Simd.{get_or_narrower}
use Rattle.std.proofs.lemmas.List.{get_or-take, get_or-drop}
use Rattle.std.proofs.lemmas.Nat.{shr-shr, mul-mod_first}
use Rattle.byteorder.specs.Endian.{little_number}
use Rattle.bitmap.specs.Bits.{bit}
use Rattle.query.proofs.Lanes.{little_is}

-- ---- bits of bytes

digit_at : (n x m : ℕ) → m < n → get_or (digits_l 2 n x) m 0 ≡ bit_at x m
digit_at zero x m h = absurd (omega (arith, h))
digit_at (suc n) x zero h = omega arith
digit_at (suc n) x (suc m) h =
    let next : 1 + m ≡ suc m = omega arith in
    digit_at n (x / 2) m (omega (arith, h)) ∙ ap (λ y. y % 2) (shr-shr x 1 m) ∙ ap (λ k. x / 2 ^ k % 2) next

-- a bit of a number of bytes
pub bit_of_little : (n j : ℕ) (bytes : List ℕ) → j < 8 * n → n ≤ length bytes → Each1 (λ x. x < 256) (take n bytes) → bit_at (little_number n bytes) j ≡ bit_at (get_or bytes (j / 8) 0) (j % 8)
bit_of_little n j bytes within room fit =
    let xs = take n bytes in
    let place : 8 * (j / 8) + j % 8 ≡ j = omega arith in
    let own : get_or xs (j / 8) 0 ≡ get_or bytes (j / 8) 0 = get_or-take n bytes (j / 8) 0 (omega (arith, within)) in
    ap (λ x. bit_at x j) (sym (little_is n 0 bytes (omega (arith, room))))
    ∙ sym (digit_at (8 * n) (number_l 256 xs) j within)
    ∙ ap (λ k. get_or (digits_l 2 (8 * n) (number_l 256 xs)) k 0) (sym place)
    ∙ get_or_narrower 256 8 2 (8 * n) xs (j / 8) (j % 8) refl fit (omega arith) (omega (arith, within, place))
    ∙ ap (λ x. bit_at x (j % 8)) own

-- the same from a byte of a bitmap on
pub bit_here : (n first j : ℕ) (bytes : List ℕ) → first % 8 ≡ 0 → j < 8 * n → n ≤ length (drop (first / 8) bytes) → Each1 (λ x. x < 256) (take n (drop (first / 8) bytes))
    → (bit_at (little_number n (drop (first / 8) bytes)) j == 1) ≡ bit bytes (first + j)
bit_here n first j bytes begins within room fit =
    let byte : first / 8 + j / 8 ≡ (first + j) / 8 = omega (arith, begins) in
    let rest : j % 8 ≡ (first + j) % 8 = omega (arith, begins) in
    ap (λ b. b == 1) (bit_of_little n j (drop (first / 8) bytes) within room fit)
    ∙ ap (λ x. bit_at x (j % 8) == 1) (get_or-drop (first / 8) bytes (j / 8) 0)
    ∙ ap (λ k. bit_at (get_or bytes k 0) (j % 8) == 1) byte
    ∙ ap (λ k. bit_at (get_or bytes ((first + j) / 8) 0) k == 1) rest

-- ---- flags that are masked

-- each, where the bit of a word is set
with_bits : ℕ → List Bool → List Bool
with_bits word [] = []
with_bits word (b ∷ bits) = (word % 2 == 1 && b) ∷ with_bits (word / 2) bits

least_of : (b : Bool) (x : ℕ) → x < 2 → min (cond b 1 0) x ≡ cond (x == 1 && b) 1 0
least_of true zero h = refl
least_of false zero h = refl
least_of true (suc zero) h = refl
least_of false (suc zero) h = refl
least_of b (suc (suc x)) h = absurd (omega (arith, h))

bit_low : (b : Bool) → cond b 1 0 < 2
bit_low true = omega arith
bit_low false = omega arith

masked : (word : ℕ) (bits : List Bool) → bit_and (mask_l bits) word ≡ mask_l (with_bits word bits)
unfolding with_bits
masked word [] = refl
masked word (b ∷ bits) =
    let half : mask_l (b ∷ bits) / 2 ≡ mask_l bits = omega (arith, bit_low b) in
    let low : mask_l (b ∷ bits) % 2 ≡ cond b 1 0 = omega (arith, bit_low b) in
    and_step (mask_l (b ∷ bits)) word
    ∙ ap (λ x. bit_and x (word / 2) * 2 + min (mask_l (b ∷ bits) % 2) (word % 2)) half
    ∙ ap (λ x. bit_and (mask_l bits) (word / 2) * 2 + min x (word % 2)) low
    ∙ ap (λ x. x * 2 + min (cond b 1 0) (word % 2)) (masked (word / 2) bits)
    ∙ ap (λ x. mask_l (with_bits (word / 2) bits) * 2 + x) (least_of b (word % 2) (omega arith))
    ∙ omega arith

masked_slots : (f g : ℕ → Bool) (n first word : ℕ) → ((j : ℕ) → j < n → (bit_at word j == 1) ≡ g (first + j)) → with_bits word (map f (range_with_len first n)) ≡ map (λ i. g i && f i) (range_with_len first n)
unfolding with_bits
masked_slots f g zero first word is = refl
masked_slots f g (suc n) first word is =
    let here : first + 0 ≡ first = omega arith in
    let plain : word % 2 ≡ bit_at word 0 = omega arith in
    let own : (word % 2 == 1) ≡ g first = ap (λ b. b == 1) plain ∙ is 0 (omega arith) ∙ ap g here in
    let others : (j : ℕ) → j < n → (bit_at (word / 2) j == 1) ≡ g (first + 1 + j) =
    λ j h. (let next : 1 + j ≡ suc j = omega arith in let place : first + suc j ≡ first + 1 + j = omega arith in
    ap (λ y. y % 2 == 1) (shr-shr word 1 j) ∙ ap (λ k. word / 2 ^ k % 2 == 1) next ∙ is (suc j) (omega (arith, h)) ∙ ap g place) in
    ap (λ (b : Bool). (b && f first) ∷ with_bits (word / 2) (map f (range_with_len (first + 1) n))) own
    ∙ ap (λ (bits : List Bool). (g first && f first) ∷ bits) (masked_slots f g n (first + 1) (word / 2) others)

-- the flags of slots as a word, without those whose bit is not set in another
pub masked_word : (f g : ℕ → Bool) (n first word other : ℕ) → word ≡ mask_l (map f (range_with_len first n)) → ((j : ℕ) → j < n → (bit_at other j == 1) ≡ g (first + j))
    → bit_and word other ≡ mask_l (map (λ i. g i && f i) (range_with_len first n))
masked_word f g n first word other is each =
    ap (λ x. bit_and x other) is ∙ masked other (map f (range_with_len first n)) ∙ ap mask_l (masked_slots f g n first other each)

pub whole_bytes : (slots block : ℕ) → slots % 8 ≡ 0 → slots * block % 8 ≡ 0
whole_bytes slots block e = sym (mul-mod_first slots block 8) ∙ ap (λ x. x * block % 8) e ∙ omega arith
