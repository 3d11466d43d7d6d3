use Rattle.std.proofs.Common.{◌≡◌, ◌∙◌, ap, arith, ℕ}
use Rattle.array_build.proofs.RunFixedItems.{more_repeated}
use Rattle.array_build.proofs.run_fixed_items.repeated_bits.Goals as goal
use Rattle.dictionary_codes.specs.Masks.{mask_bits}
use Rattle.array_build.specs.inner.Masked.{repeated}
use Rattle.bitmap.specs.Bits.{packed}

pub loop-next-preserved : goal.loop-next-preserved
loop-next-preserved c = record {
  high = c.in_ok-next.ensures.ends;
  bits = more_repeated c.args.size c.args.mask.now c.loop-next.next c.in_ok-next.next c.loop-next.bits c.push_repeated.new.bits (omega (arith, c.in_ok-next.ensures.more))
      c.in_ok-next.ensures.bits c.loop-next.invariant.bits;
}

pub returns : goal.returns
returns c =
    let end : c.loop-next.next ≡ c.args.slots = omega (arith, c.loop-next-test.false, c.loop-next.invariant.high) in
    c.into_mask.ensures.exact ∙ ap packed (c.loop-next.invariant.bits ∙ ap (λ (n : ℕ). repeated c.args.size (mask_bits c.args.mask.now 0 n)) end)
