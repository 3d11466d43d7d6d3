-- Masks as validity bitmaps.
use Rattle.std.specs.Prelude.{nat_lt, ◌&&◌, ◌==◌, replicate, slice_index_or}
use Rattle.std.specs.List.{list_all, range_with_len}
use Rattle.std.specs.Int.{bit_at}
use Rattle.std.specs.Simd.Lanes.{mask_l}
use Rattle.std.proofs.Common.{◌≡◌, ℕ, zero, suc, ◌+◌, ◌*◌, ◌/◌, ◌%◌, ◌<◌, ◌≤◌, Bool, true, false, List, [], ◌∷◌, map, length, get_or, take, drop, refl, ap, ap₂, sym, ◌∙◌, arith}
use Rattle.std.proofs.Math.Pow.{pow_mono}
use Rattle.std.proofs.lemmas.List.{ext_get_or, length-replicate, length-take}
use Rattle.std.proofs.lemmas.List.FromFn.{length-map-range_with_len}
use Rattle.std.proofs.lemmas.Nat.Bits.{bit_at-lt, same_from_bits_below}
use Rattle.std.proofs.lemmas.Simd.{mask_l-lt}
use Rattle.dictionary_codes.specs.laws.MaskedItems.{all_alike, all_are_alike, all_kept, joined_at, masked_length, others_all, some_joined}
use Rattle.dictionary_codes.specs.Masks.{bitmap_bits, joined, mask_bits, slots_mask, bitmap_of, runs_bits}
use Rattle.array_build.specs.inner.Masked.{masked_slots}
use Rattle.bitmap.specs.Bits.{bit, both, bytes_of, packed, packed_in}
use Rattle.bitmap.specs.laws.Packed.{length-packed_in}
use Rattle.columns.specs.declared.slot_runs.SlotRun.{SlotRun}
use Rattle.facts.specs.Bytes.{AreBytes}
use Rattle.facts.specs.laws.Bytes.{cons-bytes}
use Rattle.dictionary_codes.specs.laws.Bitmaps.{bitmap_packed, bitmap_none, packed_some, some_unset, bits_counted, bits_without, bits_with}

-- there is a bit for each slot
pub counted : (mask : List ℕ) (runs : List SlotRun) (slots : ℕ) → slots ≡ length (runs_bits runs) → slots ≡ length (masked_slots mask runs)
counted mask runs slots is = is ∙ sym (masked_length false (slots_mask mask runs) (runs_bits runs))

-- ---- bytes by their bits

one_bit : (p q : ℕ) → p < 2 → q < 2 → (p == 1) ≡ (q == 1) → p ≡ q
one_bit zero zero lp lq same = refl
one_bit zero (suc zero) lp lq same = cc
one_bit (suc zero) zero lp lq same = cc
one_bit (suc zero) (suc zero) lp lq same = refl
one_bit (suc (suc p)) q lp lq same = absurd (omega (arith, lp))
one_bit p (suc (suc q)) lp lq same = absurd (omega (arith, lq))

bit_in : (xs : List ℕ) (k j : ℕ) → j < 8 → bit xs (8 * k + j) ≡ (bit_at (get_or xs k 0) j == 1)
bit_in xs k j low =
    let byte : (8 * k + j) / 8 ≡ k = omega arith in
    let place : (8 * k + j) % 8 ≡ j = omega arith in
    ap₂ (λ (m n : ℕ). bit_at (get_or xs m 0) n == 1) byte place

pub same_bytes : (xs ys : List ℕ) → AreBytes xs → AreBytes ys → length xs ≡ length ys → ((i : ℕ) → bit xs i ≡ bit ys i) → xs ≡ ys
same_bytes xs ys small_xs small_ys len same =
    ext_get_or 0 xs ys len (λ k within. same_from_bits_below 8 (get_or xs k 0) (get_or ys k 0) (small_xs k) (small_ys k)
    (λ j low. one_bit _ _ (bit_at-lt (get_or xs k 0) j) (bit_at-lt (get_or ys k 0) j) (sym (bit_in xs k j low) ∙ same (8 * k + j) ∙ bit_in ys k j low)))

eight_small : (bits : List Bool) → mask_l (take 8 bits) < 256
eight_small bits =
    let short : length (take 8 bits) ≤ 8 = omega (arith, length-take 8 bits) in
    omega (arith, mask_l-lt (take 8 bits), pow_mono {i = length (take 8 bits)} {j = 8} short)

packed_small : (n : ℕ) (bits : List Bool) → AreBytes (packed_in n bits)
packed_small zero bits = λ k. omega arith
packed_small (suc n) bits = cons-bytes (mask_l (take 8 bits)) (packed_in n (drop 8 bits)) (eight_small bits) (packed_small n (drop 8 bits))

-- what is packed reads back, as the crate of bitmaps says
abbrev pub ReadsBack : Type 0
ReadsBack = (bits : List Bool) (i : ℕ) → bit (packed bits) i ≡ slice_index_or bits i false

-- bytes that have these bits are these bits, packed
packed_is : ReadsBack → (bytes : List ℕ) (bits : List Bool) → AreBytes bytes → length bytes ≡ bytes_of (length bits) → ((i : ℕ) → bit bytes i ≡ get_or bits i false) → bytes ≡ packed bits
packed_is back bytes bits small len same =
    same_bytes bytes (packed bits) small (packed_small (bytes_of (length bits)) bits) (len ∙ sym (length-packed_in (bytes_of (length bits)) bits)) (λ i. same i ∙ sym (back bits i))

-- the bits that are set in both masks
pub both_packed : ReadsBack → (a b bytes : List ℕ) (n : ℕ) → AreBytes bytes → length bytes ≡ bytes_of n → ((i : ℕ) → bit bytes i ≡ both a b n i) → bytes ≡ packed (joined (mask_bits a 0 n) (mask_bits b 0 n))
both_packed back a b bytes n small len same =
    let bits : List Bool = joined (mask_bits a 0 n) (mask_bits b 0 n) in
    let count : length bits ≡ n = masked_length false (mask_bits a 0 n) (mask_bits b 0 n) ∙ length-map-range_with_len (bit b) 0 n in
    let each : (i : ℕ) → get_or bits i false ≡ both a b n i = λ i.
    (let here : 0 + i ≡ i = omega arith in joined_at (bit a) (bit b) 0 n i ∙ ap (λ (k : ℕ). nat_lt i n && (bit a k && bit b k)) here) in
    packed_is back bytes bits small (len ∙ ap bytes_of (sym count)) (λ i. same i ∙ sym (each i))

-- ---- the bits of a bitmap

read_back : (f : ℕ → Bool) (bits : List Bool) (from : ℕ) → ((i : ℕ) → f (from + i) ≡ get_or bits i false) → map f (range_with_len from (length bits)) ≡ bits
read_back f [] from same = refl
read_back f (b ∷ bits) from same =
    let here : from + 0 ≡ from = omega arith in
    ap₂ (λ (x : Bool) (xs : List Bool). x ∷ xs) (ap f (sym here) ∙ same 0)
    (read_back f bits (from + 1) (λ i. (let next : from + 1 + i ≡ from + suc i = omega arith in ap f next ∙ same (suc i))))

pub packed_back : ReadsBack → (bits : List Bool) → mask_bits (packed bits) 0 (length bits) ≡ bits
packed_back back bits = read_back (bit (packed bits)) bits 0 (λ i. (let here : 0 + i ≡ i = omega arith in ap (bit (packed bits)) here ∙ back bits i))

-- what is written for bits reads back as these
pub bitmap_back : ReadsBack → (bytes : List ℕ) (bits : List Bool) (n : ℕ) → bytes ≡ bitmap_of bits → length bits ≡ n → bitmap_bits bytes n ≡ bits
bitmap_back back bytes bits n is count = from (list_all (λ b. b) bits) refl
  where
    from : (all : Bool) → list_all (λ b. b) bits ≡ all → bitmap_bits bytes n ≡ bits
    from true all =
        let none : length bytes ≡ 0 = ap length (is ∙ bitmap_none bits all) in
        bits_without bytes n none ∙ ap (λ (k : ℕ). replicate k true) (sym count) ∙ all_are_alike bits all
    from false all =
        let own : bytes ≡ packed bits = is ∙ bitmap_packed bits all in
        bits_with bytes n (λ none. packed_some bits all (sym (ap length own) ∙ none))
        ∙ ap₂ (λ (xs : List ℕ) (k : ℕ). mask_bits xs 0 k) own (sym count) ∙ packed_back back bits

-- ---- a mask and the bits of slots

-- a mask without a byte leaves the slots as they are
pub joined_without : (mask : List ℕ) (own : List Bool) (n : ℕ) → n ≡ length own → length mask ≡ 0 → joined (bitmap_bits mask n) own ≡ own
joined_without mask own n count none =
    ap (λ (bits : List Bool). joined bits own) (bits_without mask n none)
    ∙ all_kept false (replicate n true) own (length-replicate n true ∙ count) (all_alike n)

pub joined_alone : (mask : List ℕ) (own : List Bool) (n : ℕ) → n ≡ length own → list_all (λ b. b) own ≡ true → joined (bitmap_bits mask n) own ≡ bitmap_bits mask n
joined_alone mask own n count all = others_all (bitmap_bits mask n) own (bits_counted mask n ∙ count) all

pub joined_both : ReadsBack → (mask own : List ℕ) (bits : List Bool) (n : ℕ) → n ≡ length bits → own ≡ bitmap_of bits → (length mask ≡ 0 → ⊥) → (length own ≡ 0 → ⊥)
    → packed (joined (mask_bits mask 0 n) (mask_bits own 0 n)) ≡ bitmap_of (joined (bitmap_bits mask n) bits)
joined_both back mask own bits n count is some more =
    let others : mask_bits own 0 n ≡ bits = sym (bits_with own n more) ∙ bitmap_back back own bits n is (sym count) in
    let both : joined (mask_bits mask 0 n) (mask_bits own 0 n) ≡ joined (bitmap_bits mask n) bits = ap₂ (λ (xs ys : List Bool). joined xs ys) (sym (bits_with mask n some)) others in
    ap packed both ∙ sym (bitmap_packed (joined (bitmap_bits mask n) bits) (some_joined (bitmap_bits mask n) bits (bits_counted mask n ∙ count) (some_unset own bits is more)))

pub joined_packed : ReadsBack → (mask others : List ℕ) (bits : List Bool) (n : ℕ) → n ≡ length bits → others ≡ packed bits → (length mask ≡ 0 → ⊥)
    → packed (joined (mask_bits mask 0 n) (mask_bits others 0 n)) ≡ packed (joined (bitmap_bits mask n) bits)
joined_packed back mask others bits n count is some =
    let own : mask_bits others 0 n ≡ bits = ap₂ (λ (xs : List ℕ) (k : ℕ). mask_bits xs 0 k) is count ∙ packed_back back bits in
    ap packed (ap₂ (λ (xs ys : List Bool). joined xs ys) (sym (bits_with mask n some)) own)

pub packed_long : (bytes : List ℕ) (bits : List Bool) → bytes ≡ packed bits → length bits ≤ 8 * length bytes
packed_long bytes bits is = let size : length bytes ≡ bytes_of (length bits) = ap length is ∙ length-packed_in (bytes_of (length bits)) bits in omega (arith, size)
