use Rattle.std.proofs.Common.{◌∙◌, ◌+◌, ◌++◌, List, [], ◌∷◌, ap, arith, drop, map, refl, sym}
use Rattle.cells.specs.Cell.{Cell}
use Rattle.columns.specs.Built.{first_cell}
use Rattle.facts.specs.laws.Lists.{drop-item}
use Rattle.columns.specs.Borrowed.{borrowed_cell, borrowed_cells}
use Rattle.columns.specs.declared.borrowed.Values.{Values}
use Rattle.batch_build.specs.laws.Ended.{ended}
use Rattle.batch_build.specs.laws.Turns.{turned}
use Rattle.batch_build.proofs.part_cells.cells_at.Goals as goal

pub push_cell-requires : goal.push_cell-requires
push_cell-requires c = omega (arith, c.loop-row-test.true, c.loop-row.invariant.len, c.loop-row.invariant.room)

pub loop-row-preserved : goal.loop-row-preserved
loop-row-preserved c =
    let made : List Cell = map borrowed_cell c.loop-row.cells.items in
    let others : List Values = drop (c.loop-row.row-index + 1) c.args.rows.now in
    let item = drop-item c.args.rows.now c.loop-row.row-index c.row-item.result c.loop-row-test.true c.row-item.is in
    let kept = sym (ap (λ (rows : List Values). made ++ map (λ r. first_cell (drop c.args.place r)) (map borrowed_cells rows)) item) ∙ c.loop-row.invariant.cells in
    record {
      cells = turned made (first_cell (drop c.args.place (borrowed_cells c.row-item.result)) ∷ []) (map (λ r. first_cell (drop c.args.place r)) (map borrowed_cells others)) _ _
          c.push_cell.ensures.items kept;
      len = omega (arith, c.push_cell.ensures.len, c.loop-row.invariant.len);
      room = omega (arith, c.push_cell.ensures.capacity, c.loop-row.invariant.room);
    }

pub returns : goal.returns
returns c =
    ended (λ (rows : List Values). map (λ r. first_cell (drop c.args.place r)) (map borrowed_cells rows)) (map borrowed_cell c.loop-row.cells.items) _ c.args.rows.now c.loop-row.row-index refl
    c.loop-row-test.false c.loop-row.invariant.cells
