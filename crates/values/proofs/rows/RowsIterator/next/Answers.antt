use Rattle.std.proofs.Common.{length, ap, sym, arith}
use Rattle.std.proofs.lemmas.Option.{slice_get_within}
use Rattle.columns.specs.Borrowed.{borrowed_cells}
use Rattle.values.specs.TableView.{table_of}
use Rattle.facts.specs.laws.Lists.{none_left, next_left}
use Rattle.values.proofs.ContentLemmas.{few_rows}
use Rattle.values.proofs.rows.RowsIterator.next.Goals as goal

pub returns-in-None-clause-steps : goal.returns-in-None-clause-steps
returns-in-None-clause-steps c =
    let none = rw c.in-None.is at c.row_near.ensures in
    let left = none_left (table_of c.args.self.now.table.now).rows c.args.self.now.next none in
    (left, left)

pub overflow_add-self : goal.overflow_add-self
overflow_add-self c =
    let some = rw c.in-Some.is at c.row_near.ensures in
    let table = table_of c.args.self.now.table.now in
    let within = slice_get_within table.rows c.args.self.now.next (borrowed_cells c.in-Some.row) (sym some) in
    omega (arith, within, few_rows table.schema table.rows, c.args.self.now.table.now.kept.weight)

pub returns-in-Some-clause-steps : goal.returns-in-Some-clause-steps
returns-in-Some-clause-steps c =
    let some = rw c.in-Some.is at c.row_near.ensures in
    next_left (table_of c.args.self.now.table.now).rows c.args.self.now.next (borrowed_cells c.in-Some.row) some

pub returns-in-Some-clause-goes : goal.returns-in-Some-clause-goes
returns-in-Some-clause-goes c =
    let some = rw c.in-Some.is at c.row_near.ensures in
    let steps = next_left (table_of c.args.self.now.table.now).rows c.args.self.now.next (borrowed_cells c.in-Some.row) some in
    let fewer = ap length steps in
    omega (arith, fewer)
