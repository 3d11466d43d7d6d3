-- Bits of a mask that are added to those of another.
use Rattle.std.specs.List.{range_with_len}
use Rattle.std.specs.Simd.Lanes.{mask_l}
use Rattle.std.proofs.Common.{◌≡◌, ℕ, zero, suc, ◌+◌, ◌-◌, ◌*◌, ◌/◌, ◌%◌, ◌^◌, ◌<◌, ◌≤◌, Bool, true, false, cond, List, ◌∷◌, ◌++◌, length, get_or, map, take, drop, replicate, refl, sym, ap, ap₂, ◌∙◌, arith}
use Rattle.std.proofs.Math.Pow.{pow_mono}
use Rattle.std.proofs.Math.Seq.{drop-cons}
use Rattle.std.proofs.lemmas.List.{append_assoc, map-append, replicate-append-replicate, take-replicate}
use Rattle.std.proofs.lemmas.List.FromFn.{length-map-range_with_len}
use Rattle.std.proofs.lemmas.Nat.{mod-pow-add, shr-shr}
use Rattle.facts.specs.laws.Lists.{range-append}
use Rattle.bitmap.specs.Bits.{bit, bytes_of, packed_in, packed}
use Rattle.bitmap.proofs.Counts.{bit_in_byte}
use Rattle.bitmap.proofs.Packs.{mask_low}

two_ranges : (f : ℕ → Bool) (from m n : ℕ) → map f (range_with_len from (m + n)) ≡ map f (range_with_len from m) ++ map f (range_with_len (from + m) n)
two_ranges f from m n = ap (map f) (range-append from m n) ∙ map-append f (range_with_len from m) (range_with_len (from + m) n)

-- bits that are there already, and two parts of others
pub joined : (f : ℕ → Bool) (bits : List Bool) (from at to : ℕ) → from ≤ at → at ≤ to
    → (bits ++ map f (range_with_len from (at - from))) ++ map f (range_with_len at (to - at)) ≡ bits ++ map f (range_with_len from (to - from))
joined f bits from at to a b =
    let whole : to - from ≡ (at - from) + (to - at) = omega arith in
    let next : from + (at - from) ≡ at = omega arith in
    append_assoc bits (map f (range_with_len from (at - from))) (map f (range_with_len at (to - at)))
    ∙ ap (λ (i : ℕ). bits ++ (map f (range_with_len from (at - from)) ++ map f (range_with_len i (to - at)))) (sym next)
    ∙ ap (λ (more : List Bool). bits ++ more) (sym (two_ranges f from (at - from) (to - at)))
    ∙ ap (λ (n : ℕ). bits ++ map f (range_with_len from n)) (sym whole)

-- a mask of the lowest bits of a byte
pub shifted : (n : ℕ) → n < 64 → 1 * 2 ^ n % 2 ^ 64 ≡ 2 ^ n
shifted n few = omega (arith, pow_mono {i = n} {j = 63} (omega (arith, few)))

-- some bits of a byte as a number
pub bits_of_byte : (bytes : List ℕ) (k n s : ℕ) → s + n ≤ 8 → mask_l (map (bit bytes) (range_with_len (8 * k + s) n)) ≡ get_or bytes k 0 / 2 ^ s % 2 ^ n
bits_of_byte bytes k zero s few = omega arith
bits_of_byte bytes k (suc n) s few =
    let b : ℕ = get_or bytes k 0 in
    let next : 8 * k + s + 1 ≡ 8 * k + (s + 1) = omega arith in
    let others : mask_l (map (bit bytes) (range_with_len (8 * k + s + 1) n)) ≡ b / 2 ^ s / 2 ^ 1 % 2 ^ n =
    rw next (bits_of_byte bytes k n (s + 1) (omega arith) ∙ ap (λ (x : ℕ). x % 2 ^ n) (sym (shr-shr b s 1))) in
    let more : suc n ≡ n + 1 = omega arith in
    let split : b / 2 ^ s % 2 ^ suc n ≡ (b / 2 ^ s / 2 ^ 1 % 2 ^ n) * 2 ^ 1 + b / 2 ^ s % 2 ^ 1 = ap (λ (j : ℕ). b / 2 ^ s % 2 ^ j) more ∙ mod-pow-add (b / 2 ^ s) n 1 in
    omega (arith, bit_in_byte bytes k s (omega arith), others, split)

pub whole_byte : (bytes : List ℕ) (k : ℕ) → get_or bytes k 0 < 256 → mask_l (map (bit bytes) (range_with_len (8 * k) 8)) ≡ get_or bytes k 0
whole_byte bytes k small =
    let e : 8 * k ≡ 8 * k + 0 = omega arith in
    ap (λ (i : ℕ). mask_l (map (bit bytes) (range_with_len i 8))) e ∙ bits_of_byte bytes k 8 0 (omega arith) ∙ omega (arith, small)

pub eight : (bytes : List ℕ) (k : ℕ) → length (map (bit bytes) (range_with_len k 8)) ≡ 8
eight bytes k = length-map-range_with_len (bit bytes) k 8

packed_eight : (bytes : List ℕ) (k n : ℕ) (more : List Bool) → packed_in (suc n) (map (bit bytes) (range_with_len (8 * k) 8) ++ more) ≡ mask_l (map (bit bytes) (range_with_len (8 * k) 8)) ∷ packed_in n more
packed_eight bytes k n more = refl

packed_bytes : (bytes : List ℕ) → ((i : ℕ) → get_or bytes i 0 < 256) → (n k : ℕ) → k + n ≤ length bytes
    → packed_in n (map (bit bytes) (range_with_len (8 * k) (8 * n))) ≡ take n (drop k bytes)
packed_bytes bytes small zero k within = refl
packed_bytes bytes small (suc n) k within =
    let size : 8 * suc n ≡ 8 + 8 * n = omega arith in
    let next : 8 * k + 8 ≡ 8 * suc k = omega arith in
    let room : k < length bytes = omega arith in
    ap (λ (j : ℕ). packed_in (suc n) (map (bit bytes) (range_with_len (8 * k) j))) size
    ∙ ap (packed_in (suc n)) (two_ranges (bit bytes) (8 * k) 8 (8 * n))
    ∙ packed_eight bytes k n (map (bit bytes) (range_with_len (8 * k + 8) (8 * n)))
    ∙ ap₂ (λ (b : ℕ) (bs : List ℕ). b ∷ bs) (whole_byte bytes k (small k))
    (ap (λ (i : ℕ). packed_in n (map (bit bytes) (range_with_len i (8 * n)))) next ∙ packed_bytes bytes small n (suc k) (omega arith))
    ∙ ap (take (suc n)) (sym (drop-cons bytes k 0 room))

-- whole bytes, which are those that are packed
pub copied : (bytes : List ℕ) → ((i : ℕ) → get_or bytes i 0 < 256) → (from to : ℕ) → from ≤ to → to ≤ length bytes
    → packed (map (bit bytes) (range_with_len (8 * from) (8 * (to - from)))) ≡ take (to - from) (drop from bytes)
copied bytes small from to order within =
    let long = length-map-range_with_len (bit bytes) (8 * from) (8 * (to - from)) in
    let size : bytes_of (length (map (bit bytes) (range_with_len (8 * from) (8 * (to - from))))) ≡ to - from = omega (arith, long) in
    ap (λ (n : ℕ). packed_in n (map (bit bytes) (range_with_len (8 * from) (8 * (to - from))))) size ∙ packed_bytes bytes small (to - from) from (omega arith)

-- ---- the same bit many times

word_of : (set : Bool) → mask_l (replicate 64 set) ≡ cond set 18446744073709551615 0
word_of true = refl
word_of false = refl

pub alike_word : (set : Bool) (word : ℕ) → word ≡ cond set 18446744073709551615 0 → mask_l (replicate 64 set) ≡ word
alike_word set word is = word_of set ∙ sym is

pub alike_rest : (set : Bool) (word n : ℕ) → n ≤ 64 → mask_l (replicate 64 set) ≡ word → mask_l (replicate n set) ≡ word % 2 ^ n
alike_rest set word n few is = ap mask_l (sym (take-replicate n 64 set few)) ∙ sym (mask_low n (replicate 64 set)) ∙ ap (λ (x : ℕ). x % 2 ^ n) is

pub alike_more : (bits : List Bool) (set : Bool) (m n : ℕ) → (bits ++ replicate m set) ++ replicate n set ≡ bits ++ replicate (m + n) set
alike_more bits set m n = append_assoc bits (replicate m set) (replicate n set) ∙ ap (λ (more : List Bool). bits ++ more) (replicate-append-replicate m n set)
