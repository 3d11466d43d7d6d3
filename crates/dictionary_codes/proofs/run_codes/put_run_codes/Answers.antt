use Rattle.std.specs.Prelude.{replicate}
use Rattle.std.proofs.Common.{◌≡◌, ◌*◌, ◌/◌, ◌∙◌, ℕ, Bool, false, List, ap, arith, length, subst, sym}
use Rattle.std.specs.List.{list_all}
use Rattle.std.proofs.lemmas.List.{length-replicate}
use Rattle.std.proofs.lemmas.Result.{on_ok_weaker}
use Rattle.arrow_schema.specs.Column.{Column}
use Rattle.dictionary_codes.specs.laws.MaskedItems.{alike_kept}
use Rattle.dictionary_codes.specs.Masks.{masked, run_bits}
use Rattle.dictionary_codes.specs.inner.MaskParts.{part_bits}
use Rattle.dictionary_codes.specs.CodedCells.{is_coded}
use Rattle.columns.specs.declared.slot_runs.SlotRun.TheVariants.{Slots}
use Rattle.columns.specs.declared.view.ArrayView.{ArrayView}
use Rattle.arrow_schema.specs.View.{bits_of, column_of}
use Rattle.dictionary_codes.specs.Named.{named_cells}
use Rattle.dictionary_codes.specs.laws.SlotCounts.{slots_counted}
use Rattle.dictionary_codes.proofs.Written.{nulls_written}
use Rattle.dictionary_codes.proofs.run_codes.put_run_codes.Goals as goal
use Rattle.dictionary_codes.specs.inner.Codes.{IsWritten}
use Rattle.columns.specs.Runs.{run_cells}
use Rattle.columns.specs.declared.slot_runs.SlotRun.{SlotRun}
use Rattle.cells.specs.Cell.{Cell, null}

pub put_array_codes-requires-clause-room : goal.put_array_codes-requires-clause-room
put_array_codes-requires-clause-room c =
    c.requires.room ∙ ap (λ (n : ℕ). bits_of c.args.spec.index.width / 8 * n) (slots_counted c.in-Slots.array c.in-Slots.from c.in-Slots.len c.args.run.now c.in-Slots.is)

pub put_array_codes-requires-clause-places : goal.put_array_codes-requires-clause-places
put_array_codes-requires-clause-places c = c.requires.places ∙ slots_counted c.in-Slots.array c.in-Slots.from c.in-Slots.len c.args.run.now c.in-Slots.is

-- the cells of a run that has slots
same_cells : (col : Column) (mask : List ℕ) (at : ℕ) (v : ArrayView) (from len : ℕ) (run : SlotRun) → run ≡ Slots v from len
    → masked (part_bits mask at (length (run_bits run))) (run_cells col run) ≡ masked (part_bits mask at len) (run_cells col (Slots v from len))
same_cells col mask at v from len run is =
    ap (λ (n : ℕ). masked (part_bits mask at n) (run_cells col run)) (slots_counted v from len run is) ∙ ap (λ (r : SlotRun). masked (part_bits mask at len) (run_cells col r)) is

pub put_array_codes-requires-clause-coded : goal.put_array_codes-requires-clause-coded
put_array_codes-requires-clause-coded c =
    sym (ap (list_all is_coded) (same_cells (column_of c.args.field.now) c.args.mask.now c.args.at c.in-Slots.array c.in-Slots.from c.in-Slots.len c.args.run.now c.in-Slots.is)) ∙ c.requires.coded

pub put_array_codes-requires-clause-counted : goal.put_array_codes-requires-clause-counted
put_array_codes-requires-clause-counted c = omega (arith, c.requires.counted, slots_counted c.in-Slots.array c.in-Slots.from c.in-Slots.len c.args.run.now c.in-Slots.is)

pub put_array_codes-requires-clause-long : goal.put_array_codes-requires-clause-long
put_array_codes-requires-clause-long c = λ some. omega (arith, c.requires.long some, slots_counted c.in-Slots.array c.in-Slots.from c.in-Slots.len c.args.run.now c.in-Slots.is)

pub returns-in-Slots : goal.returns-in-Slots
returns-in-Slots c =
    let size : ℕ = bits_of c.args.spec.index.width / 8 in
    let es : List Cell = named_cells c.args.entries.now in
    on_ok_weaker c.put_array_codes.result
    (subst (λ (cs : List Cell). IsWritten size es (named_cells c.put_array_codes.new.entries) c.put_array_codes.new.indices c.put_array_codes.new.valid cs)
    (sym (same_cells (column_of c.args.field.now) c.args.mask.now c.args.at c.in-Slots.array c.in-Slots.from c.in-Slots.len c.args.run.now c.in-Slots.is)))
    c.put_array_codes.ensures

pub returns-in-Nulls : goal.returns-in-Nulls
returns-in-Nulls c =
    let size : ℕ = bits_of c.args.spec.index.width / 8 in
    let n : ℕ = c.in-Nulls.field-0 in
    let es : List Cell = named_cells c.args.entries.now in
    let count : length (run_bits c.args.run.now) ≡ n = ap (λ (run : SlotRun). length (run_bits run)) c.in-Nulls.is ∙ length-replicate n false in
    let places : length c.args.valid.now ≡ n = c.requires.places ∙ count in
    let room : length c.args.indices.now ≡ n * size = c.requires.room ∙ ap (λ (m : ℕ). size * m) count ∙ omega arith in
    let bits : List Bool = part_bits c.args.mask.now c.args.at (length (run_bits c.args.run.now)) in
    let cells = ap (λ (run : SlotRun). masked bits (run_cells (column_of c.args.field.now) run)) c.in-Nulls.is ∙ alike_kept null bits n in
    subst (λ (cs : List Cell). IsWritten size es es c.put_null_codes.new.indices c.put_null_codes.new.valid cs) (sym cells)
    (nulls_written size es n _ _ (c.put_null_codes.ensures.indices ∙ ap (λ (m : ℕ). replicate m 0) room) (c.put_null_codes.ensures.valid ∙ ap (λ (m : ℕ). replicate m false) places))
