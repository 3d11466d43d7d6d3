use Rattle.std.proofs.Common.{◌++◌, List, take, sym, subst}
use Rattle.std.proofs.lemmas.List.{append-nil}
use Rattle.arrow_schema.specs.Column.{PlainSchema, Columns, columns_of}
use Rattle.arrow_schema.specs.View.{schema_of}
use Rattle.cells.specs.Cell.{Cell}
use Rattle.table_cut.specs.Rows.{run_rows}
use Rattle.table_cut.specs.SeenRows.{HaveSeen}
use Rattle.columns.specs.Borrowed.{borrowed_cells}
use Rattle.table_cut.proofs.RoomLemmas.{one_row_more, all_of_run}
use Rattle.table_cut.proofs.room.see_rows.Goals as goal

pub loop-i-init : goal.loop-i-init
loop-i-init c = λ rows seen. subst (λ (xs : List (List Cell)). HaveSeen (schema_of c.args.schema.now) xs c.args.seen.now) (sym (append-nil rows)) seen

pub take-requires-clause-seen : goal.take-requires-clause-seen
take-requires-clause-seen c = (c.requires.seen.0 ++ take c.loop-i.i (run_rows (columns_of (schema_of c.args.schema.now).columns) c.args.run), c.loop-i.invariant c.requires.seen.0 c.requires.seen.1)

pub loop-i-preserved : goal.loop-i-preserved
loop-i-preserved c = λ rows seen.
    let s : PlainSchema = schema_of c.args.schema.now in
    let cs : Columns = columns_of s.columns in
    subst (λ (xs : List (List Cell)). HaveSeen s xs c.take.new.self) (one_row_more s rows c.args.run c.loop-i.i (borrowed_cells c.row_of.result) c.loop-i-test.true c.row_of.ensures)
    (c.in_ok-take.ensures.seen (rows ++ take c.loop-i.i (run_rows cs c.args.run)) (c.loop-i.invariant rows seen))

pub returns : goal.returns
returns c = λ rows seen.
    let s : PlainSchema = schema_of c.args.schema.now in
    subst (λ (xs : List (List Cell)). HaveSeen s (rows ++ xs) c.loop-i.seen) (all_of_run (columns_of s.columns) c.args.run c.loop-i.i c.loop-i-test.false) (c.loop-i.invariant rows seen)
