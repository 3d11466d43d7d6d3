use Rattle.std.specs.Prelude.{OnOk, IfOk}
use Rattle.std.proofs.Common.{◌≡◌, ◌++◌, ℕ, List, length, take, sym, subst}
use Rattle.cells.specs.Cell.{Cell}
use Rattle.query.specs.Choice.{rows_set}
use Rattle.query.specs.ObjectLine.{lines_text}
use Rattle.query.specs.inner.ColumnSlots.{AreColumns}
use Rattle.query.proofs.ColumnSlots.{columns_are}
use Rattle.query.proofs.SlotLines.{columns_readable, rows_are}
use Rattle.query.proofs.set_lines.push_set_lines.Goals as goal

pub push_set_slots-requires-clause-readable : goal.push_set_slots-requires-clause-readable
push_set_slots-requires-clause-readable c =
    let is = subst (AreColumns c.args.form.dates c.args.batch 0 c.args.fields.now) (sym c.deref.ensures.value) c.in_ok-columns.ensures in
    columns_readable c.args.form.dates c.args.batch c.args.fields.now c.deref.result.now is c.requires.readable

pub returns-clause-lines : goal.returns-clause-lines
returns-clause-lines c =
    let is = subst (AreColumns c.args.form.dates c.args.batch 0 c.args.fields.now) (sym c.deref.ensures.value) c.in_ok-columns.ensures in
    let P : List ℕ → Type 0 = λ lines. OnOk c.push_set_slots.result (c.push_set_slots.new.text.items ≡ c.args.text.now.items ++ lines) in
    subst P
    (λ i. lines_text c.args.form (columns_are c.args.form.dates c.args.batch 0 c.args.fields.now c.deref.result.now is i)
    (take c.args.most (rows_set c.args.mask.now c.args.start (rows_are c.args.form.dates c.args.batch c.args.fields.now c.deref.result.now is i))))
    c.push_set_slots.ensures.lines

pub returns-clause-count : goal.returns-clause-count
returns-clause-count c =
    let is = subst (AreColumns c.args.form.dates c.args.batch 0 c.args.fields.now) (sym c.deref.ensures.value) c.in_ok-columns.ensures in
    let P : List (List Cell) → Type 0 = λ rows. IfOk c.push_set_slots.result (λ n. n ≡ length (take c.args.most (rows_set c.args.mask.now c.args.start rows))) in
    subst P (rows_are c.args.form.dates c.args.batch c.args.fields.now c.deref.result.now is) c.push_set_slots.ensures.count
