use Rattle.std.specs.Prelude.{replicate}
use Rattle.std.specs.Simd.Lanes.{mask_l}
use Rattle.std.proofs.Common.{◌≡◌, ◌-◌, ◌*◌, ◌^◌, ◌<◌, ◌≤◌, ◌∙◌, ℕ, Bool, ap, arith}
use Rattle.array_build.proofs.RepeatedWords.{fits, one_more}
use Rattle.array_build.proofs.run_fixed_items.repeated_word.Goals as goal
use Rattle.dictionary_codes.specs.Masks.{mask_bits}
use Rattle.array_build.specs.inner.Masked.{repeated}

pub overflow_add-word : goal.overflow_add-word
overflow_add-word c =
    let size : ℕ = c.args.size in
    let i : ℕ = c.loop-i.i in
    let few = fits c.args.mask.now size c.args.from c.args.to i (omega (arith, c.loop-i-test.true)) (omega (arith, c.loop-i-test.true)) (omega (arith, c.loop-i.auto.i)) c.requires.count in
    let word = ap (λ (x : ℕ). x * 2 ^ size) c.loop-i.invariant.word in
    let own = c.alike_word.ensures ∙ ap (λ (b : Bool). mask_l (replicate size b)) c.get.ensures in
    record { fits = omega (arith, few, word, own) }

pub loop-i-preserved : goal.loop-i-preserved
loop-i-preserved c =
    let size : ℕ = c.args.size in
    let from : ℕ = c.args.from in
    let to : ℕ = c.args.to in
    let i : ℕ = c.loop-i.i in
    let low : from < i = omega (arith, c.loop-i-test.true) in
    let some : 0 < i = omega (arith, low) in
    let high : i ≤ to = omega (arith, c.loop-i.auto.i) in
    let few = fits c.args.mask.now size from to i some low high c.requires.count in
    let word = ap (λ (x : ℕ). x * 2 ^ size) c.loop-i.invariant.word in
    let own = c.alike_word.ensures ∙ ap (λ (b : Bool). mask_l (replicate size b)) c.get.ensures in
    record {
      begins = omega (arith, low);
      word = omega (arith, few, word, own, one_more c.args.mask.now size from to i some low high c.requires.count);
    }

pub returns : goal.returns
returns c =
    let end : c.loop-i.i ≡ c.args.from = omega (arith, c.loop-i-test.false, c.loop-i.invariant.begins) in
    c.loop-i.invariant.word ∙ ap (λ (k : ℕ). mask_l (repeated c.args.size (mask_bits c.args.mask.now k (c.args.to - k)))) end
