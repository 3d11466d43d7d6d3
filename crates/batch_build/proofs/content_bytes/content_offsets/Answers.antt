use Rattle.std.specs.List.{flat_map}
use Rattle.std.proofs.Common.{◌∙◌, ◌+◌, List, ap, map, drop, length, append_assoc, length-append, arith, refl}
use Rattle.std.proofs.lemmas.Bool.{leb-true}
use Rattle.facts.specs.laws.Lists.{drop-item}
use Rattle.byteorder.specs.Endian.{little_bytes}
use Rattle.columns.specs.Built.{contents_of, sums_from}
use Rattle.columns.specs.Offsets.{width_of}
use Rattle.columns.specs.Borrowed.{borrowed_cell}
use Rattle.columns.specs.declared.borrowed.ValueRef.{ValueRef}
use Rattle.batch_build.specs.laws.Offsets.{last_offset}
use Rattle.batch_build.proofs.content_bytes.content_offsets.Goals as goal

pub loop-cell-preserved : goal.loop-cell-preserved
loop-cell-preserved c =
    let cell = c.cell-item.result in
    let end = c.loop-cell.end in
    let others = map borrowed_cell (drop (c.loop-cell.cell-index + 1) c.args.cells.now) in
    let own = contents_of (borrowed_cell cell) in
    let bytes = little_bytes (width_of c.args.width) in
    let item = drop-item c.args.cells.now c.loop-cell.cell-index cell c.loop-cell-test.true c.cell-item.is in
    let offsets = rw item at c.loop-cell.invariant.offsets in
    let ends = rw item at c.loop-cell.invariant.end in
    record {
      offsets = rw (c.in_ok-push_offset.ensures.ok, c.contents_of.ensures) (append_assoc c.loop-cell.offsets.items (bytes end) (flat_map bytes (sums_from (end + length own) (map (λ other. length (contents_of other)) others))) ∙ offsets);
      end = rw c.contents_of.ensures (omega (arith, length-append own (flat_map contents_of others), ends));
    }

pub overflow_add-end : goal.overflow_add-end
overflow_add-end c =
    let cell = c.cell-item.result in
    let others = map borrowed_cell (drop (c.loop-cell.cell-index + 1) c.args.cells.now) in
    let own = contents_of (borrowed_cell cell) in
    let ends = rw (drop-item c.args.cells.now c.loop-cell.cell-index cell c.loop-cell-test.true c.cell-item.is) at c.loop-cell.invariant.end in
    omega (arith, length-append own (flat_map contents_of others), ends, leb-true _ _ c.requires, ap length c.contents_of.ensures)

pub returns : goal.returns
returns c =
    last_offset (width_of c.args.width) (λ (cells : List ValueRef). map (λ cell. length (contents_of cell)) (map borrowed_cell cells)) c.loop-cell.offsets.items _ _ c.loop-cell.end c.args.cells.now
    c.loop-cell.cell-index refl c.loop-cell-test.false c.in_ok-push_offset-2.ensures.ok c.loop-cell.invariant.offsets
