-- Integers as bytes and back: the bytes of a number are those that it was read from.
use Rattle.std.specs.Prelude.{negsuc, pos, ◌-ℤ◌}
use Rattle.std.proofs.Common.{◌≡◌, ℕ, zero, suc, ◌+◌, ◌-◌, ◌*◌, ◌^◌, ◌<◌, ◌≤◌, Bool, true, false, List, [], ◌∷◌, length, take, refl, inl, inr, arith, ap, sym, ◌∙◌, append-nil}
use Rattle.std.specs.Int.{byte_at, bytes_low_first}
use Rattle.std.proofs.lemmas.Bool.{cases_lt, le-ltb, lt-ltb}
use Rattle.std.proofs.lemmas.Int.{ints}
use Rattle.std.proofs.lemmas.List.{length-take-le}
use Rattle.facts.specs.Bytes.{AreBytes}
use Rattle.facts.specs.laws.Bytes.{cons-bytes, take-bytes}
use Rattle.facts.specs.laws.Numbers.{powers}
use Rattle.byteorder.specs.Endian.{little_number, little_bytes}
use Rattle.byteorder.specs.Numbers.{little_number-reads_back, length-bytes_low_first, little_from-cons, little_from-take, little_from-lt}
use Rattle.cells.specs.Integers.{integer_of, number_of}
use Rattle.columns.specs.Built.{integer_bytes}
use Rattle.cells.specs.Cell.{number}

-- a number below another, less it
below : (w n m : ℕ) → n < m → m ≡ 2 ^ (8 * w) → number_of w (pos n -ℤ pos m) ≡ n
below w n m h e =
    let short : pos n -ℤ pos m ≡ negsuc (m - n - 1) = omega (arith, ints) in
    rw short (let left : 2 ^ (8 * w) - (m - n - 1 + 1) ≡ n = omega arith in left)

number_again : (w : ℕ) (signed : Bool) (n : ℕ) → n < 2 ^ (8 * w) → number_of w (integer_of w signed n) ≡ n
number_again w false n h = refl
number_again w true n h = elim (cases_lt n (2 ^ (8 * w - 1))) [
  | inl low ↦ rw (lt-ltb n (2 ^ (8 * w - 1)) low) refl
  | inr high ↦ rw (le-ltb n (2 ^ (8 * w - 1)) high) (below w n (2 ^ (8 * w)) h refl)
]

byte_at-small : (k x : ℕ) → byte_at k x < 256
byte_at-small zero x = omega arith
byte_at-small (suc k) x = omega arith

low_first-bytes : (j k x : ℕ) → AreBytes (bytes_low_first j k x)
low_first-bytes j zero x = λ i. omega arith
low_first-bytes j (suc k) x = cons-bytes (byte_at j x) (bytes_low_first (suc j) k x) (byte_at-small j x) (low_first-bytes (suc j) k x)

-- bytes of one number are the same
one_decoding : (xs ys : List ℕ) → AreBytes xs → AreBytes ys → length xs ≡ length ys → little_number (length xs) xs ≡ little_number (length xs) ys → xs ≡ ys
one_decoding [] [] small small' len is = refl
one_decoding [] (b ∷ ys) small small' len is = absurd (omega arith)
one_decoding (a ∷ xs) [] small small' len is = absurd (omega arith)
one_decoding (a ∷ xs) (b ∷ ys) small small' len is =
    let ma = little_from-cons 0 (length xs) a xs in
    let mb = little_from-cons 0 (length xs) b ys in
    let sa : a < 256 = small 0 in
    let sb : b < 256 = small' 0 in
    let whole : a + 256 * little_number (length xs) xs ≡ b + 256 * little_number (length xs) ys = rw (ma, mb) at is in
    let heads : a ≡ b = omega arith in
    let tails : little_number (length xs) xs ≡ little_number (length xs) ys = omega arith in
    let rest = one_decoding xs ys (λ k. small (suc k)) (λ k. small' (suc k)) (omega arith) tails in
    cc

-- the bytes of the number that stands in them
bytes_again : (n : ℕ) (xs : List ℕ) → AreBytes xs → n ≤ length xs → little_bytes n (little_number n xs) ≡ take n xs
bytes_again n xs small long =
    let x : ℕ = little_number n xs in
    let fits : x < 256 ^ n = little_from-lt 0 n xs small in
    let read : little_number n (little_bytes n x) ≡ x = ap (little_number n) (sym (append-nil (little_bytes n x))) ∙ little_number-reads_back n x [] fits in
    let len : length (little_bytes n x) ≡ n = length-bytes_low_first 0 n x in
    let short : length (take n xs) ≡ n = length-take-le n xs long in
    let same : little_number n (take n xs) ≡ x = little_from-take 0 n n xs (omega arith) in
    one_decoding (little_bytes n x) (take n xs) (low_first-bytes 0 n x) (take-bytes n xs small) (len ∙ sym short) (rw len (read ∙ sym same))

-- an integer that stands in bytes is written as these bytes
pub integer_again : (w : ℕ) (signed : Bool) (xs : List ℕ) → AreBytes xs → w ≤ length xs → integer_bytes w (number (integer_of w signed (little_number w xs))) ≡ take w xs
integer_again w signed xs small long =
    let fits : little_number w xs < 256 ^ w = little_from-lt 0 w xs small in
    ap (little_bytes w) (number_again w signed (little_number w xs) (rw (powers w) fits)) ∙ bytes_again w xs small long
