use Rattle.std.proofs.Common.{◌≡◌, ◌+◌, ◌-◌, ◌*◌, ◌^◌, ◌∙◌, ℕ, List, Bool, ap, arith, length, sym}
use Rattle.std.proofs.lemmas.List.FromFn.{length-map-range_with_len}
use Rattle.std.proofs.lemmas.Simd.{mask_l-lt}
use Rattle.bitmap.specs.Bits.{bit}
use Rattle.array_build.proofs.RunFixedItems.{repeated_length}
use Rattle.array_build.proofs.run_fixed_items.push_repeated.Goals as goal
use Rattle.dictionary_codes.specs.Masks.{mask_bits}
use Rattle.array_build.specs.inner.Masked.{repeated}

-- as many as each bit has
counted : (size : ℕ) (mask : List ℕ) (from n : ℕ) → length (repeated size (mask_bits mask from n)) ≡ n * size
counted size mask from n = repeated_length size (mask_bits mask from n) ∙ ap (λ (k : ℕ). k * size) (length-map-range_with_len (bit mask) from n)

pub push_word-requires-clause-word : goal.push_word-requires-clause-word
push_word-requires-clause-word c =
    let n : ℕ = c.args.from + c.min.result - c.args.from in
    let bits : List Bool = repeated c.args.size (mask_bits c.args.mask.now c.args.from n) in
    omega (arith, c.repeated_word.ensures, mask_l-lt bits, ap (λ (k : ℕ). 2 ^ k) (counted c.args.size c.args.mask.now c.args.from n))

pub returns-clause-bits : goal.returns-clause-bits
returns-clause-bits c =
    let n : ℕ = c.args.from + c.min.result - c.args.from in
    c.in_ok-push_word.ensures.ok (repeated c.args.size (mask_bits c.args.mask.now c.args.from n)) (counted c.args.size c.args.mask.now c.args.from n) (sym c.repeated_word.ensures)
