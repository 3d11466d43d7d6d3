-- Masks that are written as a validity bitmap.
use Rattle.std.specs.Prelude.{nat_le, ◌||◌, ◌==◌, replicate, if◌then◌else◌}
use Rattle.std.specs.List.{list_all}
use Rattle.std.proofs.Common.{◌≡◌, ℕ, ◌*◌, ◌≤◌, Bool, true, false, List, [], ◌∷◌, length, refl, ap, sym, ◌∙◌, arith}
use Rattle.std.proofs.lemmas.Bool.{eq-eqb, eqb-false, le-leb, ne_eqb, or_left, or_right, false_from_ne_true}
use Rattle.std.proofs.lemmas.List.{length-replicate}
use Rattle.std.proofs.lemmas.List.FromFn.{length-map-range_with_len}
use Rattle.dictionary_codes.specs.Masks.{bitmap_bits, mask_bits, bitmap_of}
use Rattle.bitmap.specs.Bits.{bit, bytes_of, packed}
use Rattle.bitmap.specs.laws.Packed.{length-packed_in}

-- ---- the bitmap of bits

-- without a byte all are set
pub none_unset : (bytes : List ℕ) (bits : List Bool) → bytes ≡ bitmap_of bits → length bytes ≡ 0 → list_all (λ b. b) bits ≡ true
none_unset bytes bits is none = from (list_all (λ b. b) bits) bits refl (sym (ap length is) ∙ none)
  where
    from : (all : Bool) (bits : List Bool) → list_all (λ b. b) bits ≡ all → length (if all then [] else packed bits) ≡ 0 → all ≡ true
    from true bits h none = refl
    from false [] h none = cc
    from false (b ∷ bits) h none = absurd (omega (arith, none, length-packed_in (bytes_of (length (b ∷ bits))) (b ∷ bits)))

pub bitmap_packed : (bits : List Bool) → list_all (λ b. b) bits ≡ false → bitmap_of bits ≡ packed bits
bitmap_packed bits some = rw some refl

pub bitmap_none : (bits : List Bool) → list_all (λ b. b) bits ≡ true → bitmap_of bits ≡ []
bitmap_none bits all = rw all refl

pub packed_some : (bits : List Bool) → list_all (λ b. b) bits ≡ false → length (packed bits) ≡ 0 → ⊥
packed_some [] h none = cc
packed_some (b ∷ bits) h none = absurd (omega (arith, none, length-packed_in (bytes_of (length (b ∷ bits))) (b ∷ bits)))

pub some_unset : (bytes : List ℕ) (bits : List Bool) → bytes ≡ bitmap_of bits → (length bytes ≡ 0 → ⊥) → list_all (λ b. b) bits ≡ false
some_unset bytes bits is some = false_from_ne_true (list_all (λ b. b) bits) (λ all. some (ap length (is ∙ bitmap_none bits all)))

-- it has a bit for each
pub bitmap_long : (bytes : List ℕ) (bits : List Bool) → bytes ≡ bitmap_of bits → (length bytes ≡ 0 → ⊥) → length bits ≤ 8 * length bytes
bitmap_long bytes bits is some =
    let size : length bytes ≡ bytes_of (length bits) = ap length (is ∙ bitmap_packed bits (some_unset bytes bits is some)) ∙ length-packed_in (bytes_of (length bits)) bits in
    omega (arith, size)

pub bitmap_fits : (bytes : List ℕ) (bits : List Bool) → bytes ≡ bitmap_of bits → (length bytes == 0 || nat_le (length bits) (8 * length bytes)) ≡ true
bitmap_fits bytes bits is = from (length bytes == 0) refl
  where
    from : (none : Bool) → (length bytes == 0) ≡ none → (length bytes == 0 || nat_le (length bits) (8 * length bytes)) ≡ true
    from true h = or_left (length bytes == 0) _ h
    from false h = or_right (length bytes == 0) _ (le-leb _ _ (bitmap_long bytes bits is (eqb-false _ 0 h)))

-- ---- the bits of a bitmap

pub bits_counted : (mask : List ℕ) (n : ℕ) → length (bitmap_bits mask n) ≡ n
unfolding bitmap_bits
bits_counted mask n = from (length mask == 0)
  where
    from : (none : Bool) → length (if none then replicate n true else mask_bits mask 0 n) ≡ n
    from true = length-replicate n true
    from false = length-map-range_with_len (bit mask) 0 n

pub bits_without : (mask : List ℕ) (n : ℕ) → length mask ≡ 0 → bitmap_bits mask n ≡ replicate n true
unfolding bitmap_bits
bits_without mask n none = let e : (length mask == 0) ≡ true = eq-eqb _ _ none in rw e refl

pub bits_with : (mask : List ℕ) (n : ℕ) → (length mask ≡ 0 → ⊥) → bitmap_bits mask n ≡ mask_bits mask 0 n
unfolding bitmap_bits
bits_with mask n some = let e : (length mask == 0) ≡ false = ne_eqb _ _ some in rw e refl
