use Rattle.std.proofs.Common.{◌∙◌, ◌+◌, ◌∷◌, [], ℕ, List, map, drop}
use Rattle.facts.specs.laws.Lists.{drop-item}
use Rattle.arrow_schema.specs.declared.types.Field.{Field}
use Rattle.arrow_schema.specs.Column.{columns_of}
use Rattle.arrow_schema.specs.View.{column_of}
use Rattle.cells.specs.Cell.{Cell}
use Rattle.cells.specs.Dictionary.{Holding, holdings, holdings_from, cells_at}
use Rattle.table_cut.specs.inner.Seen.{LimitedCells, held_in}
use Rattle.table_cut.proofs.SeenLemmas.{held_more}
use Rattle.columns.specs.Borrowed.{borrowed_cells}
use Rattle.table_cut.proofs.holding.held_in_row.Goals as goal

pub loop-i-preserved : goal.loop-i-preserved
unfolding holdings_from
loop-i-preserved c =
    let i : ℕ = c.loop-i.i in
    let fields : List Field = c.args.fields.now in
    let field : Field = c.index-fields-i.result in
    let rows : List (List Cell) = borrowed_cells c.args.row ∷ [] in
    let old : List LimitedCells = map held_in c.loop-i.held.items in
    let own : List Holding = holdings (column_of field) (cells_at i rows) in
    let rest : List Holding = holdings_from (i + 1) (columns_of (map column_of (drop (i + 1) fields))) rows in
    let before = rw (drop-item fields i field c.loop-i-test.true c.index-fields-i.is) at c.loop-i.invariant in
    held_more old (map held_in c.hold_cell.new.held.items) own rest c.in_ok-hold_cell.ensures ∙ before
