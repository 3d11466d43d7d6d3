-- The answers of slots as words, and the buffers that have the slots.
use Rattle.std.proofs.Common.{◌≡◌, ℕ, ◌+◌, ◌-◌, ◌*◌, ◌^◌, ◌<◌, ◌≤◌, suc, Bool, true, false, cond, length, map, sym, ap, subst, ◌∙◌, arith}
use Rattle.std.specs.Prelude.{not, ◌==◌, nat_le, nat_lt}
use Rattle.std.specs.List.{range_with_len}
use Rattle.std.specs.Simd.Lanes.{mask_l}
use Rattle.std.proofs.lemmas.Bool.{and_parts, leb-true, ltb-false, not-true, ne_eqb}
use Rattle.std.proofs.lemmas.List.FromFn.{length-map-range_with_len}
use Rattle.std.proofs.lemmas.Simd.{mask_l-lt}
use Rattle.std.proofs.Math.Nat.{mul-le-mul_right}
use Rattle.std.proofs.Math.Pow.{pow_mono}
use Rattle.columns.specs.Array.{Array, slots_in, offsets_in}
use Rattle.columns.specs.Tests.{has_short_validity, are_few_offsets}
use Rattle.query.specs.inner.Contents.{has_contents}
use Rattle.query.proofs.BlockFlags.{one_bit}
use mir.Val.{bool_byte}

-- ---- words

-- of no slot
pub no_answers : (f : ℕ → Bool) (first n : ℕ) → n ≡ 0 → 0 ≡ mask_l (map f (range_with_len first n))
no_answers f first n e = ap (λ k. mask_l (map f (range_with_len first k))) (sym e)

-- of one slot before those of a word
pub one_answer : (f : ℕ → Bool) (first count i j word byte : ℕ) → j ≡ i + 1 → j ≤ count → word ≡ mask_l (map f (range_with_len (first + j) (count - j))) → byte ≡ bool_byte (f (first + i))
    → 2 * word + byte ≡ mask_l (map f (range_with_len (first + i) (count - i)))
one_answer f first count i j word byte next within is own =
    let size : suc (count - j) ≡ count - i = omega arith in
    let place : first + i + 1 ≡ first + j = omega arith in
    let rest = mask_l (map f (range_with_len (first + i + 1) (count - j))) in
    let more : word ≡ rest = is ∙ ap (λ k. mask_l (map f (range_with_len k (count - j)))) (sym place) in
    let here : cond (f (first + i)) 1 0 + 2 * 0 ≡ bool_byte (f (first + i)) = one_bit (f (first + i)) in
    let whole : 2 * word + byte ≡ cond (f (first + i)) 1 0 + 2 * rest = omega (arith, here, more, own) in
    whole ∙ ap (λ k. mask_l (map f (range_with_len (first + i) k))) size

pub answers_below : (f : ℕ → Bool) (first n word : ℕ) → n ≤ 63 → word ≡ mask_l (map f (range_with_len first n)) → word < 2 ^ 63
answers_below f first n word few is =
    let bits = map f (range_with_len first n) in
    let size : length bits ≡ n = length-map-range_with_len f first n in
    let short : length bits ≤ 63 = omega (arith, size) in
    omega (arith, is, mask_l-lt bits, pow_mono {i = length bits} {j = 63} short)

pub answers_fit : (f : ℕ → Bool) (first n word : ℕ) → word ≡ mask_l (map f (range_with_len first n)) → word < 2 ^ n
answers_fit f first n word is =
    let bits = map f (range_with_len first n) in
    let size : length bits ≡ n = length-map-range_with_len f first n in
    subst (λ k. word < 2 ^ k) size (subst (λ w. w < 2 ^ length bits) (sym is) (mask_l-lt bits))

-- ---- buffers

pub offsets_there : (w rows first count : ℕ) (a : Array) → has_contents w rows a ≡ true → first + count ≤ rows → 0 < count → (first + count + 1) * w ≤ length (offsets_in a)
offsets_there w rows first count a h within some =
    let both = and_parts (nat_le rows (slots_in a)) _ h in
    let rest = and_parts (not (has_short_validity a)) _ both.1 in
    let most : rows ≤ slots_in a = leb-true _ _ both.0 in
    let filled : (slots_in a == 0) ≡ false = ne_eqb _ _ (λ e. omega arith) in
    let few : are_few_offsets w a ≡ false = not-true _ rest.1 in
    let long : nat_lt (length (offsets_in a)) ((slots_in a + 1) * w) ≡ false = rw filled at few in
    let enough : (slots_in a + 1) * w ≤ length (offsets_in a) = ltb-false _ _ long in
    let less : (first + count + 1) * w ≤ (slots_in a + 1) * w = mul-le-mul_right w (omega (arith, within, most)) in
    omega (arith, less, enough)
