use Rattle.std.specs.Prelude.{slice_get, option_to_list}
use Rattle.std.proofs.Common.{◌∙◌, ◌+◌, ◌++◌, List, map, drop, sym, ap, append_assoc}
use Rattle.std.proofs.lemmas.List.{append-nil, drop_all}
use Rattle.facts.specs.laws.Lists.{drop-item}
use Rattle.cells.specs.Cell.{Cell}
use Rattle.cells.specs.Dictionary.{part_list, cells_at}
use Rattle.columns.specs.Borrowed.{borrowed_cell}
use Rattle.table_cut.proofs.holding.parts_at.Goals as goal

pub loop-cell-preserved : goal.loop-cell-preserved
loop-cell-preserved c =
    let cells = c.args.cells.now in
    let k = c.loop-cell.cell-index in
    let cell = c.cell-item.result in
    let own = option_to_list (slice_get (part_list (borrowed_cell cell)) c.args.i) in
    let rest = cells_at c.args.i (map part_list (map borrowed_cell (drop (k + 1) cells))) in
    ap (λ (xs : List Cell). xs ++ rest) c.in_ok-add_part.ensures
    ∙ append_assoc (map borrowed_cell c.loop-cell.parts.items) own rest
    ∙ (rw (drop-item cells k cell c.loop-cell-test.true c.cell-item.is) at c.loop-cell.invariant)

pub returns : goal.returns
returns c =
    let parts = map borrowed_cell c.loop-cell.parts.items in
    sym (append-nil parts) ∙ (rw (drop_all c.loop-cell.cell-index c.args.cells.now c.loop-cell-test.false) at c.loop-cell.invariant)
