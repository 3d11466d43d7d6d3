use Rattle.std.specs.List.{flat_map}
use Rattle.std.proofs.Common.{◌∙◌, ◌+◌, ◌++◌, ◌/◌, ℕ, List, ap, drop, map, refl, sym}
use Rattle.arrow_schema.specs.Column.{Index}
use Rattle.arrow_schema.specs.View.{bits_of}
use Rattle.byteorder.specs.Endian.{little_bytes}
use Rattle.cells.specs.Cell.{Cell}
use Rattle.cells.specs.Entry.{entry_cell}
use Rattle.columns.specs.Built.{index_bytes}
use Rattle.facts.specs.laws.Lists.{drop-item}
use Rattle.columns.specs.Borrowed.{borrowed_cell}
use Rattle.columns.specs.declared.borrowed.ValueRef.{ValueRef}
use Rattle.batch_build.specs.laws.Ended.{ended}
use Rattle.batch_build.specs.laws.Turns.{turned}
use Rattle.batch_build.proofs.dictionary_cells.indices.Goals as goal

pub loop-cell-preserved : goal.loop-cell-preserved
loop-cell-preserved c =
    let index : Index = record { bits = bits_of c.args.index.width; signed = c.args.index.signed } in
    let bytes : Cell → List ℕ = index_bytes index (map entry_cell c.args.entries.now.keys) in
    let made : List ℕ = c.loop-cell.indices.items in
    let others : List ValueRef = drop (c.loop-cell.cell-index + 1) c.args.cells.now in
    let item = drop-item c.args.cells.now c.loop-cell.cell-index c.cell-item.result c.loop-cell-test.true c.cell-item.is in
    let kept = sym (ap (λ (cells : List ValueRef). made ++ flat_map bytes (map borrowed_cell cells)) item) ∙ c.loop-cell.invariant in
    turned made (bytes (borrowed_cell c.cell-item.result)) (flat_map bytes (map borrowed_cell others)) _ _
    (c.in_ok-push_index.ensures.ok ∙ ap (λ (n : ℕ). made ++ little_bytes (bits_of c.args.index.width / 8) n) c.entry_index-place.ensures) kept

pub returns : goal.returns
returns c =
    let index : Index = record { bits = bits_of c.args.index.width; signed = c.args.index.signed } in
    let bytes : Cell → List ℕ = index_bytes index (map entry_cell c.args.entries.now.keys) in
    ended (λ (cells : List ValueRef). flat_map bytes (map borrowed_cell cells)) c.loop-cell.indices.items _ c.args.cells.now c.loop-cell.cell-index refl c.loop-cell-test.false c.loop-cell.invariant
