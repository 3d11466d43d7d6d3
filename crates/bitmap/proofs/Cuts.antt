-- Bits of which only the first ones are kept.
use Rattle.std.proofs.Common.{◌≡◌, ℕ, ◌+◌, ◌-◌, ◌*◌, ◌%◌, ◌^◌, ◌<◌, ◌≤◌, Bool, List, [], ◌∷◌, ◌++◌, length, get_or, take, drop, sym, ap, ap₂, ◌∙◌, arith}
use Rattle.std.specs.Simd.Lanes.{mask_l}
use Rattle.std.proofs.Math.ListN.{set}
use Rattle.std.proofs.lemmas.List.{drop-take, get_or_at, length-take, set_at, take-take, take_at}
use Rattle.bitmap.specs.Bits.{bytes_of, packed_in, packed}
use Rattle.bitmap.specs.laws.Packed.{length-packed_in}
use Rattle.bitmap.proofs.Builds.{last_byte}
use Rattle.bitmap.proofs.Packs.{front_only, mask_low, packed_append}

-- ---- what is packed

first_bytes : (m : ℕ) (bits : List Bool) → m ≤ bytes_of (length bits) → take m (packed bits) ≡ packed_in m bits
first_bytes m bits within =
    let rest : ℕ = bytes_of (length bits) - m in
    let all : bytes_of (length bits) ≡ m + rest = omega (arith, within) in
    ap (λ (n : ℕ). take m (packed_in n bits)) all ∙ ap (take m) (packed_append m rest bits) ∙ take_at (packed_in m bits) (packed_in rest (drop (8 * m) bits)) m (length-packed_in m bits)

-- whole bytes
pub cut_whole : (m : ℕ) (bits : List Bool) → 8 * m ≤ length bits → take m (packed bits) ≡ packed (take (8 * m) bits)
cut_whole m bits within =
    let size : bytes_of (length (take (8 * m) bits)) ≡ m = omega (arith, length-take (8 * m) bits, within) in
    let plain : 8 * m + 0 ≡ 8 * m = omega arith in
    first_bytes m bits (omega (arith, within)) ∙ sym (front_only m 0 bits) ∙ ap (λ (n : ℕ). packed_in m (take n bits)) plain ∙ ap (λ (n : ℕ). packed_in n (take (8 * m) bits)) (sym size)

-- and r bits of the next byte
pub cut_part : (m r : ℕ) (bits : List Bool) → 8 * m + r ≤ length bits → 0 < r → r < 8
    → set (take (m + 1) (packed bits)) m (get_or (take (m + 1) (packed bits)) m 0 % 2 ^ r) ≡ packed (take (8 * m + r) bits)
cut_part m r bits within some few =
    let next : List Bool = drop (8 * m) bits in
    let kept : List Bool = take (8 * m + r) bits in
    let byte : ℕ = mask_l (take 8 next) in
    let size : length kept ≡ 8 * m + r = omega (arith, length-take (8 * m + r) bits, within) in
    let bytes : take (m + 1) (packed bits) ≡ packed_in m bits ++ byte ∷ [] = first_bytes (m + 1) bits (omega (arith, within, some)) ∙ packed_append m 1 bits in
    let here : get_or (packed_in m bits ++ byte ∷ []) m 0 ≡ byte = get_or_at (packed_in m bits) byte [] 0 m (length-packed_in m bits) in
    let low : byte % 2 ^ r ≡ mask_l (drop (8 * m) kept) = mask_low r (take 8 next) ∙ ap mask_l (take-take r 8 next (omega (arith, few)) ∙ sym (drop-take (8 * m) r bits)) in
    ap (λ (bs : List ℕ). set bs m (get_or bs m 0 % 2 ^ r)) bytes
    ∙ ap (λ (n : ℕ). set (packed_in m bits ++ byte ∷ []) m (n % 2 ^ r)) here
    ∙ set_at (packed_in m bits) byte [] (byte % 2 ^ r) m (length-packed_in m bits)
    ∙ ap₂ (λ (bs : List ℕ) (n : ℕ). bs ++ n ∷ []) (sym (front_only m r bits)) low
    ∙ sym (last_byte m r kept size some (omega (arith, few)))

-- ---- what a list begins with

pub begins_length : (old new : List Bool) → take (length old) new ≡ old → length old ≤ length new
begins_length old new begins = omega (arith, ap length begins, length-take (length old) new)
