use Rattle.std.proofs.Common.{◌≡◌, ◌++◌, map, drop}
use Rattle.std.specs.List.{flat_map}
use Rattle.columns.specs.Built.{fixed_bytes}
use Rattle.columns.specs.Borrowed.{borrowed_cell}
use Rattle.batch_build.proofs.value_bytes.fixed_values.Given as goal

abbrev pub invariant-loop-cell : goal.invariant-loop-cell
invariant-loop-cell l =
    l.values.items ++ flat_map (fixed_bytes l.width) (map borrowed_cell (drop l.cell-index l.cells)) ≡ flat_map (fixed_bytes l.width) (map borrowed_cell l.cells)
