use Rattle.std.proofs.Common.{◌≡◌, ◌∙◌, ℕ, Bool, List, ap, ap₂, arith, length, refl, sym}
use Rattle.std.proofs.lemmas.Bool.{eqb-false, eqb-true}
use Rattle.std.proofs.lemmas.Result.{IfOk-weaker}
use Rattle.dictionary_codes.specs.laws.MaskedRuns.{mask_long}
use Rattle.array_build.proofs.Masks.{joined_alone, joined_both, joined_without}
use Rattle.dictionary_codes.specs.laws.Bitmaps.{none_unset}
use Rattle.array_build.proofs.slot_masks.masked_validity.Goals as goal
use Rattle.dictionary_codes.specs.Masks.{joined, mask_bits, bitmap_of, runs_bits}
use Rattle.bitmap.specs.Bits.{packed}

pub returns-then-is_empty : goal.returns-then-is_empty
returns-then-is_empty c =
    let own : List Bool = runs_bits c.args.runs.now in
    let none : length c.args.mask.now ≡ 0 = eqb-true _ 0 (sym c.is_empty.ensures ∙ c.if-is_empty.true) in
    c.in_ok-own.ensures.bits ∙ ap bitmap_of (sym (joined_without c.args.mask.now own (length own) refl none))

pub returns-then-is_empty-2 : goal.returns-then-is_empty-2
returns-then-is_empty-2 c =
    let own : List Bool = runs_bits c.args.runs.now in
    let empty = eqb-true _ 0 (sym c.is_empty-2.ensures ∙ c.if-is_empty-2.true) in
    let none : length c.in_ok-own.own.items ≡ 0 = omega (arith, empty, c.in_ok-own.own.ok.0) in
    let all = none_unset c.in_ok-own.own.items own c.in_ok-own.ensures.bits none in
    IfOk-weaker c.from_slice.result _ _ (λ bytes is. is ∙ c.requires.mask ∙ ap bitmap_of (sym (joined_alone c.args.mask.now own (length own) refl all))) c.from_slice.ensures.items

pub both_set-requires-clause-first : goal.both_set-requires-clause-first
both_set-requires-clause-first c =
    let long = mask_long c.args.mask.now c.args.runs.now c.requires.mask (eqb-false _ 0 (sym c.is_empty.ensures ∙ c.if-is_empty.false)) in
    omega (arith, long, c.requires.count)

pub returns : goal.returns
returns c =
    let own : List Bool = runs_bits c.args.runs.now in
    let mask : List ℕ = c.args.mask.now in
    let some = eqb-false _ 0 (sym c.is_empty.ensures ∙ c.if-is_empty.false) in
    let full = eqb-false _ 0 (sym c.is_empty-2.ensures ∙ c.if-is_empty-2.false) in
    let more : length c.in_ok-own.own.items ≡ 0 → ⊥ = λ none. full (omega (arith, none, c.in_ok-own.own.ok.0)) in
    let same = ap₂ (λ (xs : List ℕ) (n : ℕ). packed (joined (mask_bits mask 0 n) (mask_bits xs 0 n))) c.deref.ensures.value c.requires.count in
    IfOk-weaker c.both_set.result _ _ (λ bytes is. is ∙ same ∙ joined_both c.packed_reads_back.ensures mask c.in_ok-own.own.items own (length own) refl c.in_ok-own.ensures.bits some more)
    c.both_set.ensures
