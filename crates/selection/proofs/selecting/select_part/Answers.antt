use Rattle.std.proofs.Common.{◌≡◌, List, map, length, sym, ap, subst, ◌∙◌, arith}
use Rattle.arrow_schema.specs.Column.{PlainSchema, columns_of}
use Rattle.arrow_schema.specs.View.{column_of, schema_of}
use Rattle.cells.specs.Cell.{PlainTable}
use Rattle.query.specs.BoundQuery.{bound_query_in, rows_selected}
use Rattle.query.specs.laws.Limits.{none_left}
use Rattle.values.specs.Table.{IsTable}
use Rattle.values.specs.TableView.{table_of}
use Rattle.selection.specs.declared.picked.PickedBatch.{PickedBatch}
use Rattle.selection.specs.inner.Kept.{AreKept}
use Rattle.selection.specs.inner.TableParts.{parts_in}
use Rattle.selection.proofs.Selected.{ArePicked, are_picked, none_of, picked_counted, rows_picked, runs_are, runs_table_is}
use Rattle.selection.proofs.selecting.select_part.Goals as goal
use Rattle.selection.proofs.selecting.select_part.Goals.{In_ok-batches, In_ok-kept}

picked : (c : In_ok-batches) (given : List PickedBatch) → given ≡ c.in_ok-batches.batches.items → ArePicked (table_of c.args.part.now) c.args.query.now.places.items given
picked c given same =
    are_picked (table_of c.args.part.now) c.args.query.now.places.items (parts_in c.in_ok-parts.parts) c.as_slice.result.now c.deref.result.now c.deref-2.result.now
    c.in_ok-batches.batches.items given c.in_ok-parts.ensures.rows c.in_ok-parts.ensures.sound c.as_slice.ensures
    (ap (map column_of) c.deref.ensures.value ∙ ap (λ (s : PlainSchema). s.columns) c.schema-schema.ensures.schema)
    c.deref-2.ensures.value same c.in_ok-batches.ensures.rows c.in_ok-batches.ensures.sound

kept : (c : In_ok-kept) → ArePicked (table_of c.args.part.now) c.args.query.now.places.items c.deref-3.result.now
    → AreKept (columns_of (schema_of c.args.picked.now).columns) (rows_selected (bound_query_in c.args.query.now) (table_of c.args.part.now).rows) c.in_ok-kept.kept
kept c are =
    let t = table_of c.args.part.now in
    let q = bound_query_in c.args.query.now in
    let rows = rows_picked t q c.unwrap_or-most.result c.deref-4.result.now c.in_ok-mask.mask.items c.deref-3.result.now are c.deref-4.ensures.value
    (c.in_ok-mask.ensures.rows q.places) c.unwrap_or-most.ensures (omega (arith, c.len-rows.ensures)) in
    runs_are t q (schema_of c.args.picked.now) c.unwrap_or-most.result c.deref-4.result.now c.deref-3.result.now c.in_ok-kept.kept are c.requires.schema rows c.in_ok-kept.ensures

pub keep_batches-requires-clause-within : goal.keep_batches-requires-clause-within
keep_batches-requires-clause-within c =
    let count = picked_counted (table_of c.args.part.now) c.args.query.now.places.items c.deref-3.result.now
    (picked (goal.at.keep_batches-requires-clause-within c).In_ok-batches c.deref-3.result.now c.deref-3.ensures.value) in
    omega (arith, count, c.in_ok-mask.ensures.size, ap length c.deref-4.ensures.value)

pub keep_batches-requires-clause-few : goal.keep_batches-requires-clause-few
keep_batches-requires-clause-few c =
    let count = picked_counted (table_of c.args.part.now) c.args.query.now.places.items c.deref-3.result.now
    (picked (goal.at.keep_batches-requires-clause-few c).In_ok-batches c.deref-3.result.now c.deref-3.ensures.value) in
    omega (arith, count, c.len-rows.ensures)

pub table_of_runs-requires-clause-table : goal.table_of_runs-requires-clause-table
table_of_runs-requires-clause-table c =
    let at = goal.at.table_of_runs-requires-clause-table c in
    let are = kept at.In_ok-kept (picked at.In_ok-batches c.deref-3.result.now c.deref-3.ensures.value) in
    let is = runs_table_is (table_of c.args.part.now) (bound_query_in c.args.query.now) (schema_of c.args.picked.now) c.in_ok-kept.kept c.requires.schema are in
    subst (λ (t : PlainTable). IsTable t) (sym is) c.requires.table

pub table_of_runs-requires-clause-sound : goal.table_of_runs-requires-clause-sound
table_of_runs-requires-clause-sound c =
    let at = goal.at.table_of_runs-requires-clause-sound c in (kept at.In_ok-kept (picked at.In_ok-batches c.deref-3.result.now c.deref-3.ensures.value)).sound

pub table_of_runs-requires-clause-count : goal.table_of_runs-requires-clause-count
table_of_runs-requires-clause-count c =
    let at = goal.at.table_of_runs-requires-clause-count c in
    let are = kept at.In_ok-kept (picked at.In_ok-batches c.deref-3.result.now c.deref-3.ensures.value) in
    are.count_is ∙ sym (ap length are.rows_are)

-- where the limit allows no row, and where none is kept
pub returns-then-most-eq0-clause-none : goal.returns-then-most-eq0-clause-none
returns-then-most-eq0-clause-none c =
    none_left (bound_query_in c.args.query.now) c.unwrap_or-most.result (table_of c.args.part.now).rows c.unwrap_or-most.ensures (omega (arith, c.if-most-eq0.true))

pub returns-then-kept-eq0-clause-none : goal.returns-then-kept-eq0-clause-none
returns-then-kept-eq0-clause-none c =
    let at = goal.at.returns-then-kept-eq0-clause-none c in
    let are = kept at.In_ok-kept (picked at.In_ok-batches c.deref-3.result.now c.deref-3.ensures.value) in
    none_of (rows_selected (bound_query_in c.args.query.now) (table_of c.args.part.now).rows) (omega (arith, c.if-kept-eq0.true, are.count_is))

pub returns-clause-ok : goal.returns-clause-ok
returns-clause-ok c =
    let at = goal.at.returns-clause-ok c in
    let are = kept at.In_ok-kept (picked at.In_ok-batches c.deref-3.result.now c.deref-3.ensures.value) in
    c.in_ok-selected.ensures.ok
    ∙ runs_table_is (table_of c.args.part.now) (bound_query_in c.args.query.now) (schema_of c.args.picked.now) c.in_ok-kept.kept c.requires.schema are
