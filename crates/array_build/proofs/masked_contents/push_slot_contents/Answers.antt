use Rattle.std.specs.Prelude.{if◌then◌else◌}
use Rattle.std.proofs.Common.{◌≡◌, ◌+◌, ◌-◌, ◌++◌, ◌∙◌, ℕ, Bool, [], List, arith, ap, sym}
use Rattle.std.proofs.lemmas.List.{append-nil}
use Rattle.array_build.proofs.MaskedContents.{next_spans}
use Rattle.batch_build.specs.laws.Turns.{turned}
use Rattle.array_build.proofs.masked_contents.push_slot_contents.Goals as goal
use Rattle.dictionary_codes.specs.Masks.{mask_bits}
use Rattle.array_build.specs.inner.MaskedContents.{masked_spans}
use Rattle.array_build.specs.inner.Runs.{span_contents}
use Rattle.bitmap.specs.Bits.{bit}
use Rattle.columns.specs.Array.{Array}
use Rattle.columns.specs.Offsets.{width_of}
use Rattle.columns.specs.View.{view_array}

pub loop-i-init : goal.loop-i-init
loop-i-init c =
    let a : Array = view_array c.args.array in
    let w : ℕ = width_of c.args.width in
    let first : c.args.from + (c.args.at - c.args.at) ≡ c.args.from = omega arith in
    record {
      begins = omega arith;
      ends = c.requires.order;
      contents = ap (λ (p : ℕ). c.args.contents.now.items ++ masked_spans w a p (mask_bits c.args.mask.now c.args.at (c.args.to - c.args.at))) first;
    }

pub loop-i-preserved : goal.loop-i-preserved
loop-i-preserved c =
    let a : Array = view_array c.args.array in
    let w : ℕ = width_of c.args.width in
    let i : ℕ = c.loop-i.i in
    let stop : ℕ = c.run_to-end.result in
    let p : ℕ = c.args.from + (i - c.args.at) in
    let made : List ℕ = c.loop-i.contents.items in
    let own : List ℕ = if bit c.args.mask.now i then span_contents w a p (stop - i) else [] in
    let rest : List ℕ = masked_spans w a (c.args.from + (stop - c.args.at)) (mask_bits c.args.mask.now stop (c.args.to - stop)) in
    let low = c.loop-i.invariant.begins in
    let next = c.run_to-end.ensures.begins in
    let added = c.in_ok-push_span.ensures ∙ ap (λ (b : Bool). made ++ (if b then span_contents w a p (stop - i) else [])) c.get.ensures in
    let split = next_spans w a c.requires.ordered c.args.mask.now c.args.from c.args.at i stop c.args.to low (omega (arith, next)) c.run_to-end.ensures.ends c.requires.within c.run_to-end.ensures.alike in
    record {
      begins = omega (arith, low, next);
      ends = c.run_to-end.ensures.ends;
      contents = turned made own rest _ _ added (sym (ap (λ (xs : List ℕ). made ++ xs) split) ∙ c.loop-i.invariant.contents);
    }

pub returns : goal.returns
returns c =
    let a : Array = view_array c.args.array in
    let w : ℕ = width_of c.args.width in
    let p : ℕ = c.args.from + (c.loop-i.i - c.args.at) in
    let left : c.args.to - c.loop-i.i ≡ 0 = omega (arith, c.loop-i-test.false) in
    sym (append-nil c.loop-i.contents.items)
    ∙ sym (ap (λ (n : ℕ). c.loop-i.contents.items ++ masked_spans w a p (mask_bits c.args.mask.now c.loop-i.i n)) left)
    ∙ c.loop-i.invariant.contents
