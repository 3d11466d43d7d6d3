use Rattle.std.proofs.Common.{◌≡◌, ◌++◌, map, drop}
use Rattle.std.specs.List.{flat_map}
use Rattle.columns.specs.Built.{contents_of}
use Rattle.columns.specs.Borrowed.{borrowed_cell}
use Rattle.batch_build.proofs.content_bytes.contents.Given as goal

abbrev pub invariant-loop-cell : goal.invariant-loop-cell
invariant-loop-cell l = l.contents.items ++ flat_map contents_of (map borrowed_cell (drop l.cell-index l.cells)) ≡ flat_map contents_of (map borrowed_cell l.cells)
