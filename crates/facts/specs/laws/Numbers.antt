-- Numbers of several bytes.
use Rattle.std.proofs.Common.{◌≡◌, ℕ, zero, suc, ◌+◌, ◌*◌, ◌/◌, ◌%◌, ◌^◌, ◌<◌, Bool, true, false, List, ◌∷◌, replicate, refl, ap, ap₂, sym, ◌∙◌, arith}
use Rattle.std.specs.Int.{byte_at, bytes_low_first}
use Rattle.std.proofs.Math.Nat.{div-one, zero-div}
use Rattle.std.proofs.lemmas.Nat.{pow-add}
use mir.Val.{bool_byte}

-- 8 * w bits are w bytes
pub powers : (w : ℕ) → 2 ^ (8 * w) ≡ 256 ^ w
powers zero = let none : 8 * 0 ≡ 0 = omega arith in ap (λ (k : ℕ). 2 ^ k) none
powers (suc w) =
    let bits : 8 * suc w ≡ 8 + 8 * w = omega arith in
    let one : suc w ≡ 1 + w = omega arith in
    ap (λ (k : ℕ). 2 ^ k) bits ∙ pow-add 2 8 (8 * w) ∙ ap (λ (k : ℕ). 256 * k) (powers w) ∙ sym (ap (λ (k : ℕ). 256 ^ k) one ∙ pow-add 256 1 w)

-- byte i of a number
pub byte_at-pow : (i n : ℕ) → byte_at i n ≡ n / 256 ^ i % 256
byte_at-pow zero n = ap (λ (t : ℕ). t % 256) (sym (div-one n))
byte_at-pow (suc i) n = refl

-- the bytes of 0
pub zero_bytes : (i n : ℕ) → bytes_low_first i n 0 ≡ replicate n 0
zero_bytes i zero = refl
zero_bytes i (suc n) =
    ap₂ (λ (b : ℕ) (bs : List ℕ). b ∷ bs) (byte_at-pow i 0 ∙ ap (λ (t : ℕ). t % 256) (zero-div (256 ^ i))) (zero_bytes (suc i) n)

-- a boolean as a byte is below 2
pub bool_byte-lt : (b : Bool) → bool_byte b < 2
bool_byte-lt true = omega arith
bool_byte-lt false = omega arith
