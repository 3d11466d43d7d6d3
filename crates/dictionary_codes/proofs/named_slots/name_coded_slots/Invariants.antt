use Rattle.std.proofs.Common.{◌≡◌, ◌≤◌, ◌-◌, length, true}
use Rattle.std.specs.List.{list_all}
use Rattle.arrow_schema.specs.View.{column_of}
use Rattle.cells.specs.Dictionary.{with_entries}
use Rattle.columns.specs.CellAt.{cell_at, cells_from}
use Rattle.columns.specs.View.{view_array}
use Rattle.dictionary_codes.specs.CodedCells.{is_coded}
use Rattle.dictionary_codes.specs.Named.{named_cells, seen_cells}
use Rattle.dictionary_codes.specs.inner.Codes.{AreKnown, own_entries}
use Rattle.dictionary_codes.proofs.named_slots.name_coded_slots.Given as goal

-- the entries of the slots so far were added, and there is room for them
abbrev pub invariant-loop-i : goal.invariant-loop-i
invariant-loop-i l =
    let cell = cell_at (column_of l.field) (view_array l.slots.view) in
    record {
      coded : list_all is_coded (cells_from cell l.i (l.to - l.i)) ≡ true;
      known : AreKnown (seen_cells l.entries) (own_entries l.field l.slots.view) l.known;
      named : named_cells l.entries ≡ with_entries (named_cells l.fn.entries) (cells_from cell l.from (l.i - l.from));
      fits : length (named_cells l.entries) ≤ l.most;
    }
