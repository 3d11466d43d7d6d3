use Rattle.std.specs.Prelude.{None}
use Rattle.std.specs.List.{flat_map}
use Rattle.std.proofs.Common.{◌≡◌, ◌-◌, ◌*◌, ◌∙◌, ℕ, Bool, List, ap, ap₂, arith, length, sym}
use Rattle.std.proofs.lemmas.Bool.{eqb-false, eqb-true}
use Rattle.std.proofs.lemmas.List.{take_at}
use Rattle.std.proofs.lemmas.Result.{IfOk-weaker}
use Rattle.arrow_schema.specs.Column.{Kind}
use Rattle.arrow_schema.specs.View.{kind_of}
use Rattle.dictionary_codes.specs.laws.MaskedRuns.{cells_without, mask_long}
use Rattle.array_build.proofs.MaskedValues.{values_length, values_masked}
use Rattle.dictionary_codes.specs.laws.Bitmaps.{bits_counted, bits_with}
use Rattle.array_build.proofs.RunArrays.{count_cells}
use Rattle.array_build.proofs.run_values.masked_values.Goals as goal
use Rattle.batch_build.specs.Batch.{plain_column}
use Rattle.dictionary_codes.specs.Masks.{mask_bits, slots_mask, runs_bits}
use Rattle.array_build.specs.inner.Runs.{cleared, fixed_value, kind_cells}
use Rattle.columns.specs.declared.slot_runs.SlotRun.{SlotRun}

pub returns-then-is_empty : goal.returns-then-is_empty
returns-then-is_empty c =
    let kind : Kind = kind_of c.args.data_type.now in
    let none : length c.args.mask.now ≡ 0 = eqb-true _ 0 (sym c.is_empty.ensures ∙ c.if-is_empty.true) in
    IfOk-weaker c.run_values.result _ _ (λ buffer is. is ∙ ap (flat_map (fixed_value kind)) (sym (cells_without (plain_column kind None) c.args.mask.now c.args.runs.now none))) c.run_values.ensures

pub clear_unset-requires-clause-bits : goal.clear_unset-requires-clause-bits
clear_unset-requires-clause-bits c =
    let long = mask_long c.args.mask.now c.args.runs.now c.requires.mask (eqb-false _ 0 (sym c.is_empty.ensures ∙ c.if-is_empty.false)) in
    omega (arith, long, c.in_ok-slots.ensures)

pub clear_unset-requires-clause-values : goal.clear_unset-requires-clause-values
clear_unset-requires-clause-values c =
    let kind : Kind = kind_of c.args.data_type.now in
    let slots : ℕ = c.in_ok-slots.slots in
    let count : length (kind_cells kind c.args.runs.now) ≡ slots = sym (c.in_ok-slots.ensures ∙ count_cells kind c.args.runs.now) in
    let size = ap length (c.as_mut_slice.ensures.value ∙ c.in_ok-values.ensures) ∙ values_length kind c.args.width c.args.runs.now c.requires.width c.requires.sound
    ∙ ap (λ (n : ℕ). n * c.args.width) count in
    let same : slots ≡ slots - 0 = omega arith in
    let spread : slots * c.args.width ≡ (slots - 0) * c.args.width = ap (λ (n : ℕ). n * c.args.width) same in
    omega (arith, size, spread)

pub returns : goal.returns
returns c =
    let kind : Kind = kind_of c.args.data_type.now in
    let width : ℕ = c.args.width in
    let mask : List ℕ = c.args.mask.now in
    let runs : List SlotRun = c.args.runs.now in
    let own : List ℕ = flat_map (fixed_value kind) (kind_cells kind runs) in
    let made : List ℕ = c.clear_unset.new.values in
    let some : length mask ≡ 0 → ⊥ = eqb-false _ 0 (sym c.is_empty.ensures ∙ c.if-is_empty.false) in
    let long : length made ≡ c.in_ok-values.values.len = omega (arith, c.clear_unset.auto.values, c.as_mut_slice.ensures.len) in
    let slots : c.in_ok-slots.slots - 0 ≡ length (runs_bits runs) = omega (arith, c.in_ok-slots.ensures) in
    take_at made _ c.in_ok-values.values.len long
    ∙ c.clear_unset.ensures
    ∙ ap₂ (λ (n : ℕ) (xs : List ℕ). cleared width (mask_bits mask 0 n) xs) slots (c.as_mut_slice.ensures.value ∙ c.in_ok-values.ensures)
    ∙ ap (λ (bits : List Bool). cleared width bits own) (sym (bits_with mask (length (runs_bits runs)) some))
    ∙ sym (values_masked kind width (slots_mask mask runs) runs c.requires.width (bits_counted mask (length (runs_bits runs)) ∙ count_cells kind runs) c.requires.sound)
