use Rattle.std.proofs.Common.{◌≡◌, ◌++◌, List, map, length, sym, ap, subst, ◌∙◌, arith}
use Rattle.std.specs.Prelude.{IfOk, OnOk}
use Rattle.std.proofs.lemmas.List.{append-nil}
use Rattle.arrow_schema.specs.Column.{PlainSchema}
use Rattle.arrow_schema.specs.View.{column_of}
use Rattle.cells.specs.Cell.{Cell}
use Rattle.query.specs.BoundQuery.{bound_query_in}
use Rattle.query.specs.ObjectLine.{lines_text}
use Rattle.query.specs.laws.Limits.{none_left}
use Rattle.values.specs.TableView.{table_of}
use Rattle.selection.specs.declared.picked.PickedBatch.{PickedBatch}
use Rattle.selection.specs.inner.TableParts.{parts_in}
use Rattle.selection.proofs.PrintedRows.{picked_readable, rows_printed}
use Rattle.selection.proofs.Selected.{ArePicked, are_picked, picked_counted}
use Rattle.selection.proofs.printing.push_part.Goals as goal
use Rattle.selection.proofs.printing.push_part.Goals.{In_ok-batches}

picked : (c : In_ok-batches) (given : List PickedBatch) → given ≡ c.in_ok-batches.batches.items → ArePicked (table_of c.args.part.now) c.args.query.now.places.items given
picked c given same =
    are_picked (table_of c.args.part.now) c.args.query.now.places.items (parts_in c.in_ok-parts.parts) c.as_slice.result.now c.deref.result.now c.deref-2.result.now
    c.in_ok-batches.batches.items given c.in_ok-parts.ensures.rows c.in_ok-parts.ensures.sound c.as_slice.ensures
    (ap (map column_of) c.deref.ensures.value ∙ ap (λ (s : PlainSchema). s.columns) c.schema-schema.ensures.schema)
    c.deref-2.ensures.value same c.in_ok-batches.ensures.rows c.in_ok-batches.ensures.sound

pub push_batches-requires-clause-readable : goal.push_batches-requires-clause-readable
push_batches-requires-clause-readable c =
    picked_readable (table_of c.args.part.now) c.args.query.now.places.items c.args.fields.now c.deref-3.result.now
    (picked (goal.at.push_batches-requires-clause-readable c).In_ok-batches c.deref-3.result.now c.deref-3.ensures.value) c.schema-schema.ensures.kept c.requires.columns

pub push_batches-requires-clause-within : goal.push_batches-requires-clause-within
push_batches-requires-clause-within c =
    let count = picked_counted (table_of c.args.part.now) c.args.query.now.places.items c.deref-3.result.now
    (picked (goal.at.push_batches-requires-clause-within c).In_ok-batches c.deref-3.result.now c.deref-3.ensures.value) in
    omega (arith, count, c.in_ok-mask.ensures.size, ap length c.deref-4.ensures.value)

pub push_batches-requires-clause-few : goal.push_batches-requires-clause-few
push_batches-requires-clause-few c =
    let count = picked_counted (table_of c.args.part.now) c.args.query.now.places.items c.deref-3.result.now
    (picked (goal.at.push_batches-requires-clause-few c).In_ok-batches c.deref-3.result.now c.deref-3.ensures.value) in
    omega (arith, count, c.len-rows.ensures)

-- no line may follow
pub returns-then-most-eq0-clause-lines : goal.returns-then-most-eq0-clause-lines
returns-then-most-eq0-clause-lines c =
    let none = none_left (bound_query_in c.args.query.now) c.unwrap_or-most.result (table_of c.args.part.now).rows c.unwrap_or-most.ensures (omega (arith, c.if-most-eq0.true)) in
    let text = c.args.text.now.items in
    sym (append-nil text) ∙ ap (λ (rows : List (List Cell)). text ++ lines_text c.args.form (map column_of c.args.fields.now) rows) (sym none)

pub returns-then-most-eq0-clause-count : goal.returns-then-most-eq0-clause-count
returns-then-most-eq0-clause-count c =
    ap length (sym (none_left (bound_query_in c.args.query.now) c.unwrap_or-most.result (table_of c.args.part.now).rows c.unwrap_or-most.ensures (omega (arith, c.if-most-eq0.true))))

pub returns-clause-lines : goal.returns-clause-lines
returns-clause-lines c =
    let text = c.args.text.now.items in
    subst (λ (rows : List (List Cell)). OnOk c.push_batches.result (c.push_batches.new.text.items ≡ text ++ lines_text c.args.form (map column_of c.args.fields.now) rows))
    (rows_printed (table_of c.args.part.now) (bound_query_in c.args.query.now) c.unwrap_or-most.result c.args.fields.now c.deref-4.result.now c.in_ok-mask.mask.items c.deref-3.result.now
    (picked (goal.at.returns-clause-lines c).In_ok-batches c.deref-3.result.now c.deref-3.ensures.value) c.requires.columns c.deref-4.ensures.value
    (c.in_ok-mask.ensures.rows c.args.query.now.places.items) c.unwrap_or-most.ensures (omega (arith, c.len-rows.ensures)))
    c.push_batches.ensures.lines

pub returns-clause-count : goal.returns-clause-count
returns-clause-count c =
    subst (λ (rows : List (List Cell)). IfOk c.push_batches.result (λ n. n ≡ length rows))
    (rows_printed (table_of c.args.part.now) (bound_query_in c.args.query.now) c.unwrap_or-most.result c.args.fields.now c.deref-4.result.now c.in_ok-mask.mask.items c.deref-3.result.now
    (picked (goal.at.returns-clause-count c).In_ok-batches c.deref-3.result.now c.deref-3.ensures.value) c.requires.columns c.deref-4.ensures.value
    (c.in_ok-mask.ensures.rows c.args.query.now.places.items) c.unwrap_or-most.ensures (omega (arith, c.len-rows.ensures)))
    c.push_batches.ensures.count
