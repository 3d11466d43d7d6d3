use Rattle.std.specs.List.{flat_map}
use Rattle.std.proofs.Common.{◌∙◌, ◌+◌, List, map, drop, append_assoc, refl}
use Rattle.facts.specs.laws.Lists.{drop-item}
use Rattle.columns.specs.Built.{contents_of}
use Rattle.columns.specs.Borrowed.{borrowed_cell}
use Rattle.columns.specs.declared.borrowed.ValueRef.{ValueRef}
use Rattle.batch_build.specs.laws.Ended.{ended}
use Rattle.batch_build.proofs.content_bytes.contents.Goals as goal

pub loop-cell-preserved : goal.loop-cell-preserved
loop-cell-preserved c =
    let cell = c.cell-item.result in
    let others = drop (c.loop-cell.cell-index + 1) c.args.cells.now in
    let kept = rw (drop-item c.args.cells.now c.loop-cell.cell-index cell c.loop-cell-test.true c.cell-item.is) at c.loop-cell.invariant in
    rw (c.in_ok-extend_from_slice.ensures.items, c.contents_of.ensures) (append_assoc c.loop-cell.contents.items (contents_of (borrowed_cell cell)) (flat_map contents_of (map borrowed_cell others)) ∙ kept)

pub returns : goal.returns
returns c =
    ended (λ (cells : List ValueRef). flat_map contents_of (map borrowed_cell cells)) c.loop-cell.contents.items _ c.args.cells.now c.loop-cell.cell-index refl c.loop-cell-test.false c.loop-cell.invariant
