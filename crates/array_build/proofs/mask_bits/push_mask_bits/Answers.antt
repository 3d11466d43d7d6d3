use Rattle.std.specs.List.{range_with_len}
use Rattle.std.proofs.Common.{◌≡◌, ◌+◌, ◌-◌, ◌^◌, ◌++◌, ◌∙◌, ℕ, Bool, List, ap, arith, map, sym}
use Rattle.std.proofs.lemmas.List.FromFn.{length-map-range_with_len}
use Rattle.std.proofs.lemmas.List.{append-nil}
use Rattle.std.proofs.lemmas.Simd.{mask_l-lt}
use Rattle.bitmap.specs.Bits.{bit}
use Rattle.dictionary_codes.specs.laws.MaskedRuns.{bits_append}
use Rattle.batch_build.specs.laws.Turns.{turned}
use Rattle.array_build.proofs.mask_bits.push_mask_bits.Goals as goal

pub push_word-requires-clause-word : goal.push_word-requires-clause-word
push_word-requires-clause-word c =
    let set : List Bool = map (bit c.args.mask.now) (range_with_len c.loop-next.next c.min-count.result) in
    omega (arith, c.bits_at.ensures, mask_l-lt set, ap (λ (n : ℕ). 2 ^ n) (length-map-range_with_len (bit c.args.mask.now) c.loop-next.next c.min-count.result))

pub loop-next-preserved : goal.loop-next-preserved
loop-next-preserved c =
    let mask : List ℕ = c.args.mask.now in
    let next : ℕ = c.loop-next.next in
    let to : ℕ = c.args.to in
    let count : ℕ = c.min-count.result in
    let set : ℕ → ℕ → List Bool = λ at n. map (bit mask) (range_with_len at n) in
    let split : count + (to - (next + count)) ≡ to - next = omega (arith, c.min-count.ensures) in
    let added = c.in_ok-push_word.ensures.ok (set next count) (length-map-range_with_len (bit mask) next count) (sym c.bits_at.ensures) in
    let kept = ap (λ (bits : List Bool). c.loop-next.bits ++ bits) (sym (bits_append mask next count (to - (next + count))) ∙ ap (set next) split) ∙ c.loop-next.invariant.bits in
    record {
      begins = omega (arith, c.loop-next.invariant.begins);
      ends = omega (arith, c.loop-next.invariant.ends, c.min-count.ensures);
      bits = turned c.loop-next.bits (set next count) (set (next + count) (to - (next + count))) _ _ added kept;
    }

pub returns : goal.returns
returns c =
    let none : c.args.to - c.loop-next.next ≡ 0 = omega (arith, c.loop-next-test.false) in
    sym (append-nil c.loop-next.bits) ∙ ap (λ (n : ℕ). c.loop-next.bits ++ map (bit c.args.mask.now) (range_with_len c.loop-next.next n)) (sym none) ∙ c.loop-next.invariant.bits
