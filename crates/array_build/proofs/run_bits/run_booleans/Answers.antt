use Rattle.std.proofs.Common.{◌≡◌, ◌∙◌, ℕ, Bool, List, ap, arith, length, sym}
use Rattle.std.proofs.lemmas.Bool.{eqb-false, eqb-true}
use Rattle.std.proofs.lemmas.Result.{IfOk-weaker}
use Rattle.dictionary_codes.specs.laws.MaskedRuns.{mask_long}
use Rattle.array_build.proofs.Masks.{joined_packed, joined_without, packed_long}
use Rattle.array_build.proofs.RunArrays.{runs_values_counted}
use Rattle.array_build.proofs.run_bits.run_booleans.Goals as goal
use Rattle.dictionary_codes.specs.Masks.{bitmap_bits, joined, runs_bits}
use Rattle.array_build.specs.inner.Runs.{runs_values}
use Rattle.bitmap.specs.Bits.{packed}

pub returns-then-is_empty : goal.returns-then-is_empty
returns-then-is_empty c =
    let none : length c.args.mask.now ≡ 0 = eqb-true _ 0 (sym c.is_empty.ensures ∙ c.if-is_empty.true) in
    c.in_ok-bits.ensures ∙ ap packed (sym (joined_without c.args.mask.now (runs_values c.args.runs.now) (length (runs_bits c.args.runs.now)) (runs_values_counted c.args.runs.now) none))

pub both_set-requires-clause-first : goal.both_set-requires-clause-first
both_set-requires-clause-first c =
    let long = mask_long c.args.mask.now c.args.runs.now c.requires.mask (eqb-false _ 0 (sym c.is_empty.ensures ∙ c.if-is_empty.false)) in
    omega (arith, long, c.in_ok-slots.ensures)

pub both_set-requires-clause-second : goal.both_set-requires-clause-second
both_set-requires-clause-second c =
    let long = packed_long c.deref.result.now (runs_values c.args.runs.now) (c.deref.ensures.value ∙ c.in_ok-bits.ensures) in
    omega (arith, long, c.in_ok-slots.ensures, runs_values_counted c.args.runs.now)

pub returns : goal.returns
returns c =
    let values : List Bool = runs_values c.args.runs.now in
    let count = c.in_ok-slots.ensures in
    let some = eqb-false _ 0 (sym c.is_empty.ensures ∙ c.if-is_empty.false) in
    IfOk-weaker c.both_set.result _ _
    (λ bytes is. is ∙ joined_packed c.packed_reads_back.ensures c.args.mask.now c.deref.result.now values c.in_ok-slots.slots (count ∙ runs_values_counted c.args.runs.now)
    (c.deref.ensures.value ∙ c.in_ok-bits.ensures) some
    ∙ ap (λ (n : ℕ). packed (joined (bitmap_bits c.args.mask.now n) values)) count)
    c.both_set.ensures
