use Rattle.std.proofs.Common.{◌++◌, ◌+◌, ◌-◌, ◌∙◌, List, arith, ap, map, replicate}
use Rattle.std.proofs.lemmas.List.{map-append}
use Rattle.cells.specs.Cell.{Cell, null}
use Rattle.columns.specs.Borrowed.{borrowed_cell}
use Rattle.batch_build.proofs.Equals.{one_more}
use Rattle.batch_build.proofs.item_cells.add_nulls.Goals as goal

pub loop-preserved : goal.loop-preserved
loop-preserved c =
    let before : List Cell = map borrowed_cell c.loop.items.items in
    ap (λ (xs : List Cell). xs ++ replicate (c.args.count - (c.loop.counter + 1)) null)
    (ap (map borrowed_cell) c.in_ok-push.ensures.items ∙ map-append borrowed_cell c.loop.items.items _)
    ∙ one_more null before (map borrowed_cell c.args.items.now.items ++ replicate c.args.count null) c.args.count c.loop.counter (omega (arith, c.loop-test.true)) c.loop.invariant
