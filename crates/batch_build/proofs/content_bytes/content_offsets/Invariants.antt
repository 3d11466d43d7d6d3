use Rattle.std.proofs.Common.{◌≡◌, ◌++◌, ◌+◌, map, drop, length}
use Rattle.std.specs.List.{flat_map}
use Rattle.byteorder.specs.Endian.{little_bytes}
use Rattle.columns.specs.Built.{contents_of, offsets_of, sums_from}
use Rattle.columns.specs.Offsets.{width_of}
use Rattle.columns.specs.Borrowed.{borrowed_cell}
use Rattle.batch_build.proofs.content_bytes.content_offsets.Given as goal

-- the offsets so far and the others, which end where all ends
abbrev pub invariant-loop-cell : goal.invariant-loop-cell
invariant-loop-cell l = record {
  offsets : l.offsets.items ++ flat_map (little_bytes (width_of l.width)) (sums_from l.end (map (λ c. length (contents_of c)) (map borrowed_cell (drop l.cell-index l.cells))))
      ≡ offsets_of (width_of l.width) (map (λ c. length (contents_of c)) (map borrowed_cell l.cells));
  end : l.end + length (flat_map contents_of (map borrowed_cell (drop l.cell-index l.cells))) ≡ length (flat_map contents_of (map borrowed_cell l.cells));
}
