use Rattle.std.specs.Prelude.{replicate}
use Rattle.std.proofs.Common.{◌≡◌, ◌*◌, ◌∙◌, ℕ, true, Bool, List, ap, arith, length, sym}
use Rattle.std.specs.List.{list_all}
use Rattle.std.proofs.lemmas.Bool.{eqb-false, eqb-true}
use Rattle.std.proofs.lemmas.Result.{IfOk-weaker}
use Rattle.dictionary_codes.specs.laws.MaskedItems.{all_alike}
use Rattle.dictionary_codes.specs.laws.Bitmaps.{bitmap_long, bitmap_none, bitmap_packed, bits_counted, bits_with, bits_without, some_unset}
use Rattle.array_build.proofs.RunFixedItems.{repeated_alike, repeated_never, some_repeated}
use Rattle.array_build.proofs.run_fixed_items.repeated_mask.Goals as goal
use Rattle.dictionary_codes.specs.Masks.{bitmap_bits, bitmap_of}
use Rattle.array_build.specs.inner.Masked.{repeated}
use Rattle.bitmap.specs.Bits.{packed}

pub returns-then-size-eq0 : goal.returns-then-size-eq0
returns-then-size-eq0 c =
    let bits : List Bool = bitmap_bits c.args.mask.now c.args.slots in
    c.new.ensures.items ∙ sym (ap (λ (n : ℕ). bitmap_of (repeated n bits)) c.if-size-eq0.true ∙ ap bitmap_of (repeated_never bits))

pub returns-then-is_empty : goal.returns-then-is_empty
returns-then-is_empty c =
    let slots : ℕ = c.args.slots in
    let size : ℕ = c.args.size in
    let bits : List Bool = bitmap_bits c.args.mask.now slots in
    let none : length c.args.mask.now ≡ 0 = eqb-true _ 0 (sym c.is_empty.ensures ∙ c.if-is_empty.true) in
    let alike : repeated size bits ≡ replicate (slots * size) true = ap (repeated size) (bits_without c.args.mask.now slots none) ∙ repeated_alike size slots true in
    c.new-then-is_empty.ensures.items ∙ sym (bitmap_none (repeated size bits) (ap (list_all (λ (b : Bool). b)) alike ∙ all_alike (slots * size)))

pub repeated_bits-requires-clause-within : goal.repeated_bits-requires-clause-within
repeated_bits-requires-clause-within c =
    let long = bitmap_long c.args.mask.now (bitmap_bits c.args.mask.now c.args.slots) c.requires (eqb-false _ 0 (sym c.is_empty.ensures ∙ c.if-is_empty.false)) in
    omega (arith, long, bits_counted c.args.mask.now c.args.slots)

pub returns : goal.returns
returns c =
    let mask : List ℕ = c.args.mask.now in
    let slots : ℕ = c.args.slots in
    let size : ℕ = c.args.size in
    let some = eqb-false _ 0 (sym c.is_empty.ensures ∙ c.if-is_empty.false) in
    let unset = some_repeated size (bitmap_bits mask slots) (omega arith) (some_unset mask (bitmap_bits mask slots) c.requires some) in
    IfOk-weaker c.repeated_bits.result _ _
    (λ bytes is. is ∙ ap (λ (bits : List Bool). packed (repeated size bits)) (sym (bits_with mask slots some)) ∙ sym (bitmap_packed (repeated size (bitmap_bits mask slots)) unset))
    c.repeated_bits.ensures
