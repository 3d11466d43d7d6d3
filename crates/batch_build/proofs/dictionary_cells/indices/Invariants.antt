use Rattle.std.proofs.Common.{◌≡◌, ◌++◌, map, drop}
use Rattle.std.specs.List.{flat_map}
use Rattle.arrow_schema.specs.View.{bits_of}
use Rattle.cells.specs.Entry.{entry_cell}
use Rattle.columns.specs.Built.{index_bytes}
use Rattle.columns.specs.Borrowed.{borrowed_cell}
use Rattle.batch_build.proofs.dictionary_cells.indices.Given as goal

abbrev pub invariant-loop-cell : goal.invariant-loop-cell
invariant-loop-cell l =
    let bytes = index_bytes (record { bits = bits_of l.index.width; signed = l.index.signed }) (map entry_cell l.entries.keys) in
    l.indices.items ++ flat_map bytes (map borrowed_cell (drop l.cell-index l.cells)) ≡ flat_map bytes (map borrowed_cell l.cells)
