use Rattle.std.proofs.Common.{◌≡◌, ◌≤◌, ◌+◌, ◌-◌, ◌/◌, true}
use Rattle.std.specs.List.{list_all}
use Rattle.arrow_schema.specs.View.{bits_of}
use Rattle.dictionary_codes.specs.inner.Codes.{AreKnown, IsPartWritten, coded_cell, own_entries}
use Rattle.dictionary_codes.specs.inner.MaskParts.{part_bits}
use Rattle.dictionary_codes.specs.Masks.{masked}
use Rattle.dictionary_codes.specs.Named.{named_cells, seen_cells}
use Rattle.dictionary_codes.specs.CodedCells.{is_coded}
use Rattle.columns.specs.CellAt.{cells_from}
use Rattle.dictionary_codes.proofs.masked_codes.put_part_codes.Given as goal

-- what is written so far, and the cells that are left
abbrev pub invariant-loop-done : goal.invariant-loop-done
invariant-loop-done l =
    let left = masked (part_bits l.mask (l.at + l.done) (l.len - l.done)) (cells_from (coded_cell l.field l.slots) (l.from + l.done) (l.len - l.done)) in
    record {
      high : l.done ≤ l.len;
      coded : list_all is_coded left ≡ true;
      known : AreKnown (seen_cells l.entries) (own_entries l.field l.slots.view) l.known;
      written : IsPartWritten (bits_of l.slots.spec.index.width / 8) (named_cells l.fn.entries)
          (masked (part_bits l.mask l.at l.len) (cells_from (coded_cell l.field l.slots) l.from l.len)) (named_cells l.entries) left l.indices l.valid l.done;
    }

abbrev pub decreases-loop-done : goal.decreases-loop-done
decreases-loop-done l = l.len - l.done
