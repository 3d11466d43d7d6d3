use Rattle.std.proofs.Common.{◌<◌, ◌∙◌, List, Some, ap, sym, arith}
use Rattle.std.specs.Prelude.{slice_get}
use Rattle.cells.specs.Cell.{Cell}
use Rattle.values.specs.Content.{table_with}
use Rattle.values.proofs.ContentLemmas.{length_content, none_past, given_within, rows_given, parts_filled, rows_of_parts, texts_in_table}
use Rattle.values.proofs.table.Table.row_near.Goals as goal

pub returns-then-i-len : goal.returns-then-i-len
returns-then-i-len c =
    let count = length_content c.args.self.now.schema c.args.self.now.rows c.args.self.now.content c.args.self.now.filled in
    none_past c.args.self.now.schema c.args.self.now.rows c.args.self.now.content c.args.i c.args.self.now.filled (omega (arith, count, c.len.ensures, c.if-i-len.true))

pub given_row-requires : goal.given_row-requires
given_row-requires c =
    let count = length_content c.args.self.now.schema c.args.self.now.rows c.args.self.now.content c.args.self.now.filled in
    let within : c.args.i < c.args.self.now.rows = omega (arith, count, c.len.ensures, c.if-i-len.false) in
    rw c.deref.ensures.value (given_within c.args.self.now.schema c.args.self.now.rows c.args.self.now.content c.in-Rows.rows c.args.i c.in-Rows.is c.args.self.now.filled within)

pub returns-in-Rows : goal.returns-in-Rows
returns-in-Rows c =
    let there = rows_given c.args.self.now.schema c.args.self.now.content c.in-Rows.rows c.in-Rows.is in
    let row = rw c.deref.ensures.value at c.given_row.ensures in
    ap Some c.of_cells.ensures.cells ∙ row ∙ ap (λ (rows : List (List Cell)). slice_get rows c.args.i) (sym there)

pub returns-in-Batches : goal.returns-in-Batches
returns-in-Batches c =
    let there = rows_of_parts c.args.self.now.schema c.args.self.now.content c.in-Batches.batches c.in-Batches.is in
    let row = rw c.deref-in-Batches.ensures.value at c.row.ensures in
    row ∙ ap (λ (rows : List (List Cell)). slice_get rows c.args.i) (sym there)

pub find-place-requires : goal.find-place-requires
find-place-requires c =
    let count = length_content c.args.self.now.schema c.args.self.now.rows c.args.self.now.content c.args.self.now.filled in
    let kept = parts_filled c.args.self.now.schema c.args.self.now.rows c.args.self.now.content c.in-Batches.batches c.in-Batches.is c.args.self.now.filled in
    omega (arith, count, c.len.ensures, c.if-i-len.false, kept.0)

pub row-requires-clause-sound : goal.row-requires-clause-sound
row-requires-clause-sound c =
    rw c.deref-in-Batches.ensures.value (parts_filled c.args.self.now.schema c.args.self.now.rows c.args.self.now.content c.in-Batches.batches c.in-Batches.is c.args.self.now.filled).1

pub row-requires-clause-texts : goal.row-requires-clause-texts
row-requires-clause-texts c = λ cells there.
    let rows = rows_of_parts c.args.self.now.schema c.args.self.now.content c.in-Batches.batches c.in-Batches.is in
    let own = rw c.deref-in-Batches.ensures.value at there in
    texts_in_table (table_with c.args.self.now.schema c.args.self.now.content) c.args.i cells c.args.self.now.kept (ap (λ (xs : List (List Cell)). slice_get xs c.args.i) rows ∙ own)
