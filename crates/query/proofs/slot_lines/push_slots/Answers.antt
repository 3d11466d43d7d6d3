use Rattle.std.proofs.Common.{◌≡◌, ◌+◌, ◌<◌, ◌++◌, ℕ, List, length, get_or, drop, subst, arith}
use Rattle.std.proofs.lemmas.List.{drop_all}
use Rattle.facts.specs.laws.Lists.{drop-item}
use Rattle.civil_days.specs.declared.date_form.DateForm.{DateForm}
use Rattle.query.specs.declared.column_slots.ColumnSlots.{ColumnSlots}
use Rattle.query.specs.inner.ColumnSlots.{slot_columns, slot_cells, AreReadable}
use Rattle.query.specs.inner.SlotLines.{rest_of_line}
use Rattle.query.proofs.SlotLines.{IsFirst, first_readable, text_next, text_done}
use Rattle.query.proofs.slot_lines.push_slots.Goals as goal

first : (form : DateForm) (columns : List ColumnSlots) (k slots : ℕ) (s : ColumnSlots) → k < length columns → s ≡ get_or columns k s → AreReadable form (drop k columns) slots → IsFirst form s (drop (k + 1) columns) slots
first form columns k slots s within is h =
    let P : List ColumnSlots → Type 0 = λ ss. AreReadable form ss slots in
    first_readable form s (drop (k + 1) columns) slots (subst P (drop-item columns k s within is) h)

pub push_slot-requires-clause-buffers : goal.push_slot-requires-clause-buffers
push_slot-requires-clause-buffers c =
    (first c.args.form.dates c.args.columns.now c.loop-place.place (c.args.slot + 1) c.index-columns-place.result c.loop-place-test.true c.index-columns-place.is c.loop-place.invariant.readable).buffers

pub push_slot-requires-clause-sound : goal.push_slot-requires-clause-sound
push_slot-requires-clause-sound c =
    (first c.args.form.dates c.args.columns.now c.loop-place.place (c.args.slot + 1) c.index-columns-place.result c.loop-place-test.true c.index-columns-place.is c.loop-place.invariant.readable).sound

pub push_slot-requires-clause-within : goal.push_slot-requires-clause-within
push_slot-requires-clause-within c =
    let s = first c.args.form.dates c.args.columns.now c.loop-place.place (c.args.slot + 1) c.index-columns-place.result c.loop-place-test.true c.index-columns-place.is c.loop-place.invariant.readable in
    omega (arith, s.long)

pub push_slot-requires-clause-texts : goal.push_slot-requires-clause-texts
push_slot-requires-clause-texts c =
    (first c.args.form.dates c.args.columns.now c.loop-place.place (c.args.slot + 1) c.index-columns-place.result c.loop-place-test.true c.index-columns-place.is c.loop-place.invariant.readable).texts c.args.slot (omega arith)

pub loop-place-preserved : goal.loop-place-preserved
loop-place-preserved c =
    let k = c.loop-place.place in
    let columns = c.args.columns.now in
    let s = c.index-columns-place.result in
    let Q : List ColumnSlots → Type 0 = λ ss. c.loop-place.out.items ++ rest_of_line c.args.form k (slot_columns ss) (slot_cells ss c.args.slot)
    ≡ c.args.out.now.items ++ rest_of_line c.args.form 0 (slot_columns columns) (slot_cells columns c.args.slot) in
    record {
      text = text_next c.args.form s (drop (k + 1) columns) k c.args.slot c.loop-place.out.items c.push_lead.new.out.items c.push_slot.new.out.items _
          c.in_ok-push_lead.ensures c.in_ok-push_slot.ensures (subst Q (drop-item columns k s c.loop-place-test.true c.index-columns-place.is) c.loop-place.invariant.text);
      readable = (first c.args.form.dates columns k (c.args.slot + 1) s c.loop-place-test.true c.index-columns-place.is c.loop-place.invariant.readable).others;
    }

pub returns : goal.returns
returns c =
    text_done c.args.form (drop c.loop-place.place c.args.columns.now) c.loop-place.place c.args.slot c.loop-place.out.items _
    (drop_all c.loop-place.place c.args.columns.now (omega (arith, c.loop-place-test.false))) c.loop-place.invariant.text
