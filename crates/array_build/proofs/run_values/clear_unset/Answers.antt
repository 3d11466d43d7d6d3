use Rattle.std.specs.Prelude.{replicate, if◌then◌else◌}
use Rattle.std.specs.List.{range_with_len}
use Rattle.std.proofs.Common.{◌≡◌, ◌≤◌, ◌+◌, ◌-◌, ◌*◌, ◌++◌, ◌∙◌, ℕ, suc, Bool, List, ap, ap₂, arith, drop, length, map, mul-le-mul_right, refl, sym, take}
use Rattle.std.proofs.lemmas.List.{append-nil, take_all}
use Rattle.bitmap.specs.Bits.{bit}
use Rattle.array_build.proofs.Cleared.{cleared_with, one_cleared, some_kept}
use Rattle.array_build.proofs.run_values.clear_unset.Goals as goal

-- the value of a slot stands within those of all
within : (from i to width start size : ℕ) → from ≤ i → i + 1 ≤ to → size ≡ start + (to - from) * width → start + (i - from) * width + width ≤ size
within from i to width start size low high is =
    let most : (i - from + 1) * width ≤ (to - from) * width = mul-le-mul_right width (omega (arith, low, high)) in
    let one : (i - from + 1) * width ≡ (i - from) * width + width = omega arith in
    omega (arith, most, one, is)

pub clear_value-requires : goal.clear_value-requires
clear_value-requires c =
    within c.args.from c.loop-i.i c.args.to c.args.width c.args.start (length c.loop-i.values) c.loop-i.invariant.begins (omega (arith, c.loop-i-test.true))
    (c.loop-i.auto.values ∙ c.requires.values)

pub loop-i-init : goal.loop-i-init
loop-i-init c =
    let from : ℕ = c.args.from in
    let i : ℕ = c.next_unset-i.result in
    let k : ℕ = i - from in
    let width : ℕ = c.args.width in
    let low = c.next_unset-i.ensures.begins in
    let high = c.next_unset-i.ensures.ends in
    let end : from + k ≡ i = omega (arith, low) in
    let count : k + (c.args.to - i) ≡ c.args.to - from = omega (arith, low, high) in
    let most : k * width ≤ (c.args.to - from) * width = mul-le-mul_right width (omega (arith, low, high)) in
    record {
      begins = low;
      ends = high;
      unset = c.next_unset-i.ensures.longest;
      values = ap (λ (j : ℕ). cleared_with width (c.args.start + k * width) c.args.values.now (map (bit c.args.bits.now) (range_with_len j (c.args.to - i)))) (sym end)
          ∙ some_kept (bit c.args.bits.now) width c.args.start from k (c.args.to - i) c.args.values.now
          (λ j begins ends. c.next_unset-i.ensures.alike j begins (omega (arith, ends, end))) (omega (arith, most, c.requires.values))
          ∙ ap (λ (n : ℕ). cleared_with width c.args.start c.args.values.now (map (bit c.args.bits.now) (range_with_len from n))) count;
    }

pub loop-i-preserved : goal.loop-i-preserved
loop-i-preserved c =
    let width : ℕ = c.args.width in
    let from : ℕ = c.args.from in
    let to : ℕ = c.args.to in
    let i : ℕ = c.loop-i.i in
    let stop : ℕ = c.next_unset-i-in-loop-i.result in
    let at : ℕ = c.args.start + (i - from) * width in
    let k : ℕ = stop - (i + 1) in
    let old : List ℕ = c.loop-i.values in
    let new : List ℕ = c.clear_value.new.values in
    let set : ℕ → Bool = bit c.args.bits.now in
    let low = c.loop-i.invariant.begins in
    let after = c.next_unset-i-in-loop-i.ensures.begins in
    let ends = c.next_unset-i-in-loop-i.ensures.ends in
    let size : length old ≡ c.args.start + (to - from) * width = c.loop-i.auto.values ∙ c.requires.values in
    let room : at + width ≤ length old = within from i to width c.args.start (length old) low (omega (arith, c.loop-i-test.true)) size in
    let long : length new ≡ length old = c.clear_value.auto.values in
    let end : i + 1 + k ≡ stop = omega (arith, after) in
    let count : k + (to - stop) ≡ to - (i + 1) = omega (arith, after, ends) in
    let left : suc (to - (i + 1)) ≡ to - i = omega (arith, c.loop-i-test.true) in
    let most : (stop - from) * width ≤ (to - from) * width = mul-le-mul_right width (omega (arith, ends)) in
    let parts : stop - from ≡ (i - from) + 1 + k = omega (arith, low, after) in
    let spread : (stop - from) * width ≡ (i - from) * width + width + k * width = ap (λ (n : ℕ). n * width) parts ∙ omega arith in
    let place : c.args.start + (stop - from) * width ≡ at + width + k * width = omega (arith, spread) in
    let is = c.clear_value.ensures
    ∙ ap (λ (b : Bool). take at old ++ ((if b then take width (drop at old) else replicate width 0) ++ drop (at + width) old)) (sym (c.loop-i.invariant.unset c.loop-i-test.true)) in
    record {
      begins = omega (arith, low, after);
      ends = ends;
      unset = c.next_unset-i-in-loop-i.ensures.longest;
      values = ap₂ (λ (p j : ℕ). cleared_with width p new (map set (range_with_len j (to - stop)))) place (sym end)
          ∙ some_kept set width (at + width) (i + 1) k (to - stop) new
          (λ j begins below. c.next_unset-i-in-loop-i.ensures.alike j begins (omega (arith, below, end))) (omega (arith, place, most, size, long))
          ∙ ap (λ (n : ℕ). cleared_with width (at + width) new (map set (range_with_len (i + 1) n))) count
          ∙ one_cleared width at (at + width) (set i) old new (map set (range_with_len (i + 1) (to - (i + 1)))) refl room is
          ∙ ap (λ (n : ℕ). cleared_with width at old (map set (range_with_len i n))) left
          ∙ c.loop-i.invariant.values;
    }

pub returns : goal.returns
returns c =
    let i : ℕ = c.loop-i.i in
    let at : ℕ = c.args.start + (i - c.args.from) * c.args.width in
    let none : c.args.to - i ≡ 0 = omega (arith, c.loop-i-test.false) in
    let end : i ≡ c.args.to = omega (arith, c.loop-i-test.false, c.loop-i.invariant.ends) in
    let whole : length c.loop-i.values ≡ at = c.loop-i.auto.values ∙ c.requires.values ∙ ap (λ (n : ℕ). c.args.start + (n - c.args.from) * c.args.width) (sym end) in
    sym (take_all at c.loop-i.values (omega (arith, whole))) ∙ sym (append-nil (take at c.loop-i.values))
    ∙ ap (λ (n : ℕ). cleared_with c.args.width at c.loop-i.values (map (bit c.args.bits.now) (range_with_len i n))) (sym none)
    ∙ c.loop-i.invariant.values
