use Rattle.std.proofs.Common.{◌∙◌, ◌+◌, ◌++◌, List, [], ◌∷◌, ap, arith, drop, map, refl, sym}
use Rattle.cells.specs.Cell.{Cell}
use Rattle.cells.specs.Dictionary.{part_list}
use Rattle.columns.specs.Built.{first_cell}
use Rattle.facts.specs.laws.Lists.{drop-item}
use Rattle.columns.specs.Borrowed.{borrowed_cell}
use Rattle.columns.specs.declared.borrowed.ValueRef.{ValueRef}
use Rattle.batch_build.specs.laws.Ended.{ended}
use Rattle.batch_build.proofs.FirstCells.{one_pushed}
use Rattle.batch_build.specs.laws.Turns.{turned}
use Rattle.batch_build.proofs.part_cells.parts.Goals as goal

pub push_reserved-requires : goal.push_reserved-requires
push_reserved-requires c = omega (arith, c.loop-cell-test.true, c.loop-cell.invariant.len, c.loop-cell.invariant.room)

pub loop-cell-preserved : goal.loop-cell-preserved
loop-cell-preserved c =
    let part : Cell → Cell = λ cell. first_cell (drop c.args.place (part_list cell)) in
    let made : List Cell = map borrowed_cell c.loop-cell.parts.items in
    let others : List ValueRef = drop (c.loop-cell.cell-index + 1) c.args.cells.now in
    let item = drop-item c.args.cells.now c.loop-cell.cell-index c.cell-item.result c.loop-cell-test.true c.cell-item.is in
    let kept = sym (ap (λ (cells : List ValueRef). made ++ map (λ r. first_cell (drop c.args.place r)) (map part_list (map borrowed_cell cells))) item) ∙ c.loop-cell.invariant.cells in
    record {
      cells = turned made (part (borrowed_cell c.cell-item.result) ∷ []) (map (λ r. first_cell (drop c.args.place r)) (map part_list (map borrowed_cell others))) _ _
          (one_pushed _ _ c.part_at.result _ c.push_reserved.ensures.items c.part_at.ensures) kept;
      len = omega (arith, c.push_reserved.ensures.len, c.loop-cell.invariant.len);
      room = omega (arith, c.push_reserved.ensures.capacity, c.loop-cell.invariant.room);
    }

pub returns : goal.returns
returns c =
    ended (λ (cells : List ValueRef). map (λ r. first_cell (drop c.args.place r)) (map part_list (map borrowed_cell cells))) (map borrowed_cell c.loop-cell.parts.items) _ c.args.cells.now
    c.loop-cell.cell-index refl c.loop-cell-test.false c.loop-cell.invariant.cells
