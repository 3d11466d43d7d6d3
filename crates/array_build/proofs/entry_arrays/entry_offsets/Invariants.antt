use Rattle.std.proofs.Common.{◌≡◌, ◌++◌, ◌+◌, map, drop, length}
use Rattle.std.specs.List.{flat_map}
use Rattle.byteorder.specs.Endian.{little_bytes}
use Rattle.columns.specs.Built.{contents_of, offsets_of, sums_from}
use Rattle.columns.specs.Offsets.{width_of}
use Rattle.cells.specs.Entry.{entry_cell}
use Rattle.array_build.proofs.entry_arrays.entry_offsets.Given as goal

-- the offsets so far and the others, which end where all ends
abbrev pub invariant-loop-entry : goal.invariant-loop-entry
invariant-loop-entry l = record {
  offsets : l.offsets.items ++ flat_map (little_bytes (width_of l.width)) (sums_from l.end (map (λ c. length (contents_of c)) (map entry_cell (drop l.entry-index l.entries))))
      ≡ offsets_of (width_of l.width) (map (λ c. length (contents_of c)) (map entry_cell l.entries));
  end : l.end + length (flat_map contents_of (map entry_cell (drop l.entry-index l.entries))) ≡ length (flat_map contents_of (map entry_cell l.entries));
}
