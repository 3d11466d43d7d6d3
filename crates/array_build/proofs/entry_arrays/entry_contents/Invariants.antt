use Rattle.std.proofs.Common.{◌≡◌, ◌++◌, map, drop}
use Rattle.std.specs.List.{flat_map}
use Rattle.columns.specs.Built.{contents_of}
use Rattle.cells.specs.Entry.{entry_cell}
use Rattle.array_build.proofs.entry_arrays.entry_contents.Given as goal

abbrev pub invariant-loop-entry : goal.invariant-loop-entry
invariant-loop-entry l = l.contents.items ++ flat_map contents_of (map entry_cell (drop l.entry-index l.entries)) ≡ flat_map contents_of (map entry_cell l.entries)
