-- Bits that are added to bytes, of whose last bits some may be free.
use Rattle.std.proofs.Common.{◌≡◌, ℕ, zero, suc, ◌+◌, ◌-◌, ◌*◌, ◌/◌, ◌%◌, ◌^◌, ◌<◌, ◌≤◌, Bool, false, cond, List, [], ◌∷◌, ◌++◌, ◌==◌, length, get_or, map, take, drop, refl, sym, ap, subst, ◌∙◌, arith}
use Rattle.std.specs.List.{range_with_len}
use Rattle.std.specs.Prelude.{bit_or}
use Rattle.std.specs.Int.{bytes_low_first}
use Rattle.std.specs.Int.Bits.{or_shifted_r}
use Rattle.std.specs.Simd.Lanes.{mask_l}
use Rattle.std.proofs.lemmas.Simd.{mask_l-lt}
use Rattle.std.proofs.lemmas.List.{append_assoc, get_or_at, take_all, take_at, take-take, take-append-le, drop-append-le, length-append, length-drop, ext_get_or, set_at}
use Rattle.std.proofs.lemmas.List.FromFn.{get_or-map-range_with_len, length-map-range_with_len}
use Rattle.std.proofs.Math.ListN.{set}
use Rattle.std.proofs.Math.Nat.{pow-suc, pow-zero, mul_comm}
use Rattle.std.proofs.Math.Seq.{take-append_seam, drop-append_seam, take-append-add, drop-append-add}
use Rattle.std.proofs.lemmas.Nat.{shr_high, mod_low, mod-pow-add}
use Rattle.bitmap.specs.Bits.{bit, bytes_of, packed_in, packed}
use Rattle.bitmap.specs.inner.Building.{bits_within, IsBuilt}
use Rattle.bitmap.proofs.Packs.{packed_append, bit_of_packed, mask_split, mask_low, bytes_low, front_only}
use Rattle.bitmap.specs.laws.Packed.{length-packed_in}

-- ---- what bytes hold

-- what is packed, read as a list
read_back : (bits : List Bool) → map (bit (packed bits)) (range_with_len 0 (length bits)) ≡ bits
read_back bits =
    let count = length-map-range_with_len (bit (packed bits)) 0 (length bits) in
    ext_get_or false (map (bit (packed bits)) (range_with_len 0 (length bits))) bits count
    (λ i h. get_or-map-range_with_len (bit (packed bits)) 0 (length bits) i i false (omega (arith, h, count)) (omega arith) ∙ bit_of_packed (bytes_of (length bits)) bits (omega arith) i)

pub length_within : (bytes : List ℕ) (free : ℕ) → length (bits_within bytes free) ≡ 8 * length bytes - free
length_within bytes free = length-map-range_with_len (bit bytes) 0 (8 * length bytes - free)

pub within_packed : (bits : List Bool) (bytes : List ℕ) (free : ℕ) → bytes ≡ packed bits → 8 * length bytes ≡ length bits + free → bits_within bytes free ≡ bits
within_packed bits bytes free e size =
    let count : 8 * length bytes - free ≡ length bits = omega (arith, size) in
    ap (λ n. map (bit bytes) (range_with_len 0 n)) count ∙ ap (λ (bs : List ℕ). map (bit bs) (range_with_len 0 (length bits))) e ∙ read_back bits

pub built_packed : (bits : List Bool) (bytes : List ℕ) (free : ℕ) → bytes ≡ packed bits → free < 8 → 8 * length bytes ≡ length bits + free → IsBuilt bytes free
built_packed bits bytes free e few size = record { few = few; within = omega (arith, size); exact = e ∙ ap packed (sym (within_packed bits bytes free e size)) }

-- how many bits are free after some more
pub free_after : (old new : List ℕ) (bits : List Bool) (free count : ℕ) → IsBuilt old free → count ≤ 64 → length bits ≡ count → new ≡ packed (bits_within old free ++ bits)
    → 8 * length new ≡ length (bits_within old free ++ bits) + (free + 64 - count) % 8
free_after old new bits free count built most size is =
    let total : length (bits_within old free ++ bits) ≡ 8 * length old - free + count = length-append (bits_within old free) bits ∙ omega (arith, length_within old free, size) in
    let long : length new ≡ bytes_of (length (bits_within old free ++ bits)) = ap length is ∙ length-packed_in (bytes_of (length (bits_within old free ++ bits))) (bits_within old free ++ bits) in
    omega (arith, total, long, built.few, built.within, most)

-- ---- the bits of a word

value_of : (x : ℕ) → x < 2 → cond (x == 1) 1 0 ≡ x
value_of zero h = refl
value_of (suc zero) h = refl
value_of (suc (suc x)) h = absurd (omega (arith, h))

abbrev pub lowest : ℕ → ℕ → List Bool
lowest zero word = []
lowest (suc n) word = (word % 2 == 1) ∷ lowest n (word / 2)

pub length_lowest : (n word : ℕ) → length (lowest n word) ≡ n
length_lowest zero word = refl
length_lowest (suc n) word = ap suc (length_lowest n (word / 2))

pub mask_lowest : (n word : ℕ) → word < 2 ^ n → mask_l (lowest n word) ≡ word
mask_lowest zero word h = let none : word < 1 = rw pow-zero at h in omega (arith, none)
mask_lowest (suc n) word h =
    let below : word < 2 ^ n * 2 = rw pow-suc at h in
    omega (arith, value_of (word % 2) (omega arith), mask_lowest n (word / 2) (omega (arith, below)))

-- ---- bits that are added

pub front_bytes : (bits : List Bool) (n : ℕ) → n ≤ 8 → take n (bytes_low_first 0 8 (mask_l bits)) ≡ packed_in n bits
front_bytes bits n few =
    let all : 8 ≡ n + (8 - n) = omega (arith, few) in
    ap (take n) (bytes_low bits 8 0) ∙ ap (λ k. take n (packed_in k bits)) all ∙ ap (take n) (packed_append n (8 - n) bits)
    ∙ take_at (packed_in n bits) (packed_in (8 - n) (drop (8 * n) bits)) n (length-packed_in n bits)

packed_front : (m : ℕ) (xs ys : List Bool) → 8 * m ≤ length xs → packed_in m (xs ++ ys) ≡ packed_in m xs
packed_front m xs ys within =
    sym (front_only m 0 (xs ++ ys)) ∙ ap (packed_in m) (take-append-le (8 * m + 0) xs ys (omega (arith, within))) ∙ front_only m 0 xs

-- after full bytes
pub full_more : (m : ℕ) (xs ys : List Bool) → length xs ≡ 8 * m → packed (xs ++ ys) ≡ packed xs ++ packed ys
full_more m xs ys size =
    let n = bytes_of (length ys) in
    let count : bytes_of (length (xs ++ ys)) ≡ m + n = omega (arith, length-append xs ys, size) in
    let own : bytes_of (length xs) ≡ m = omega (arith, size) in
    let rest : drop (8 * m) (xs ++ ys) ≡ ys = ap (λ k. drop k (xs ++ ys)) (sym size) ∙ drop-append_seam xs ys in
    ap (λ k. packed_in k (xs ++ ys)) count
    ∙ packed_append m n (xs ++ ys)
    ∙ ap (λ (bytes : List ℕ). bytes ++ packed_in n (drop (8 * m) (xs ++ ys))) (packed_front m xs ys (omega (arith, size)))
    ∙ ap (λ (bits : List Bool). packed_in m xs ++ packed_in n bits) rest
    ∙ ap (λ k. packed_in k xs ++ packed ys) (sym own)

mask_joined : (xs ys : List Bool) → mask_l (xs ++ ys) ≡ mask_l xs + 2 ^ length xs * mask_l ys
mask_joined xs ys =
    mask_split (length xs) (xs ++ ys)
    ∙ ap (λ (bits : List Bool). mask_l bits + 2 ^ length xs * mask_l (drop (length xs) (xs ++ ys))) (take-append_seam xs ys)
    ∙ ap (λ (bits : List Bool). mask_l xs + 2 ^ length xs * mask_l bits) (drop-append_seam xs ys)

-- the last byte, of which r bits are used
pub last_byte : (m r : ℕ) (xs : List Bool) → length xs ≡ 8 * m + r → 0 < r → r ≤ 8 → packed xs ≡ packed_in m xs ++ mask_l (drop (8 * m) xs) ∷ []
last_byte m r xs size some few =
    let count : bytes_of (length xs) ≡ m + 1 = omega (arith, size, some, few) in
    ap (λ k. packed_in k xs) count
    ∙ packed_append m 1 xs
    ∙ ap (λ (bits : List Bool). packed_in m xs ++ mask_l bits ∷ []) (take_all 8 (drop (8 * m) xs) (omega (arith, length-drop (8 * m) xs, size, few)))

-- with a last byte of which r bits are used
free_more : (m r free : ℕ) (xs ys : List Bool) → length xs ≡ 8 * m + r → r + free ≡ 8 → 0 < r
    → packed (xs ++ ys) ≡ packed_in m xs ++ (mask_l (drop (8 * m) xs) + 2 ^ r * mask_l (take free ys)) ∷ packed (drop free ys)
free_more m r free xs ys size whole some =
    let d = drop (8 * m) xs in
    let n = bytes_of (length (drop free ys)) in
    let count : bytes_of (length (xs ++ ys)) ≡ m + suc n = omega (arith, length-append xs ys, length-drop free ys, size, whole, some) in
    let rest : drop (8 * m) (xs ++ ys) ≡ d ++ ys = drop-append-le (8 * m) xs ys (omega (arith, size)) in
    let used : length d ≡ r = length-drop (8 * m) xs ∙ omega (arith, size) in
    let eight : 8 ≡ length d + free = omega (arith, used, whole) in
    let first : mask_l (take 8 (d ++ ys)) ≡ mask_l d + 2 ^ r * mask_l (take free ys) =
    ap (λ k. mask_l (take k (d ++ ys))) eight ∙ ap mask_l (take-append-add d ys free) ∙ mask_joined d (take free ys) ∙ ap (λ k. mask_l d + 2 ^ k * mask_l (take free ys)) used in
    let others : drop 8 (d ++ ys) ≡ drop free ys = ap (λ k. drop k (d ++ ys)) eight ∙ drop-append-add d ys free in
    ap (λ k. packed_in k (xs ++ ys)) count
    ∙ packed_append m (suc n) (xs ++ ys)
    ∙ ap (λ (bytes : List ℕ). bytes ++ packed_in (suc n) (drop (8 * m) (xs ++ ys))) (packed_front m xs ys (omega (arith, size)))
    ∙ ap (λ (bits : List Bool). packed_in m xs ++ packed_in (suc n) bits) rest
    ∙ ap (λ x. packed_in m xs ++ x ∷ packed_in n (drop 8 (d ++ ys))) first
    ∙ ap (λ (bits : List Bool). packed_in m xs ++ (mask_l d + 2 ^ r * mask_l (take free ys)) ∷ packed_in n bits) others

-- what the free bits of a byte get
filled : (d ys : List Bool) (r free : ℕ) → length d ≡ r → r + free ≡ 8 → bit_or (mask_l d) (mask_l ys % 256 * 2 ^ r % 256) ≡ mask_l d + 2 ^ r * mask_l (take free ys)
filled d ys r free used whole =
    let a = mask_l (take 8 ys) in
    let below : mask_l d < 2 ^ r = subst (λ k. mask_l d < 2 ^ k) used (mask_l-lt d) in
    let byte : mask_l ys % 256 ≡ a = mask_low 8 ys in
    let turned : free + r ≡ 8 = omega (arith, whole) in
    let plain : a * 2 ^ r ≡ a * 2 ^ r + 0 = omega arith in
    let high : a * 2 ^ r / 2 ^ r ≡ a = ap (λ n. n / 2 ^ r) plain ∙ shr_high a r 0 (omega (arith, below)) in
    let low : a * 2 ^ r % 2 ^ r ≡ 0 = ap (λ n. n % 2 ^ r) plain ∙ mod_low a r 0 (omega (arith, below)) in
    let split : a * 2 ^ r % 256 ≡ (a % 2 ^ free) * 2 ^ r =
    ap (λ k. a * 2 ^ r % 2 ^ k) (sym turned) ∙ mod-pow-add (a * 2 ^ r) free r ∙ ap (λ n. (n % 2 ^ free) * 2 ^ r + a * 2 ^ r % 2 ^ r) high ∙ omega (arith, low) in
    let some : a % 2 ^ free ≡ mask_l (take free ys) = mask_low free (take 8 ys) ∙ ap mask_l (take-take free 8 ys (omega (arith, whole))) in
    ap (λ n. bit_or (mask_l d) (n * 2 ^ r % 256)) byte
    ∙ ap (λ n. bit_or (mask_l d) n) split
    ∙ ap (λ n. bit_or (mask_l d) (n * 2 ^ r)) some
    ∙ or_shifted_r (mask_l (take free ys)) r (mask_l d) below
    ∙ omega (arith, mul_comm (mask_l (take free ys)) (2 ^ r))

-- after a byte of which some bits are free: what comes in bytes of its own, and then the free bits
pub added : (old more : List ℕ) (xs ys : List Bool) (free : ℕ) → old ≡ packed xs → 8 * length old ≡ length xs + free → 0 < free → free < 8 → more ≡ old ++ packed (drop free ys)
    → set more (length old - 1) (bit_or (get_or more (length old - 1) 0) (mask_l ys % 256 * 2 ^ (8 - free) % 256)) ≡ packed (xs ++ ys)
added old more xs ys free e size some few is =
    let m = length old - 1 in
    let r = 8 - free in
    let d = drop (8 * m) xs in
    let long : length xs ≡ 8 * m + r = omega (arith, size, some, few) in
    let used : length d ≡ r = length-drop (8 * m) xs ∙ omega (arith, long) in
    let whole : more ≡ packed_in m xs ++ mask_l d ∷ packed (drop free ys) =
    is ∙ ap (λ (bytes : List ℕ). bytes ++ packed (drop free ys)) (e ∙ last_byte m r xs long (omega (arith, few)) (omega arith))
    ∙ append_assoc (packed_in m xs) (mask_l d ∷ []) (packed (drop free ys)) in
    let here : get_or more m 0 ≡ mask_l d = ap (λ (bytes : List ℕ). get_or bytes m 0) whole ∙ get_or_at (packed_in m xs) (mask_l d) (packed (drop free ys)) 0 m (length-packed_in m xs) in
    ap (λ n. set more m (bit_or n (mask_l ys % 256 * 2 ^ r % 256))) here
    ∙ ap (λ n. set more m n) (filled d ys r free used (omega (arith, few)))
    ∙ ap (λ (bytes : List ℕ). set bytes m (mask_l d + 2 ^ r * mask_l (take free ys))) whole
    ∙ set_at (packed_in m xs) (mask_l d) (packed (drop free ys)) (mask_l d + 2 ^ r * mask_l (take free ys)) m (length-packed_in m xs)
    ∙ sym (free_more m r free xs ys long (omega (arith, few)) (omega (arith, few)))
