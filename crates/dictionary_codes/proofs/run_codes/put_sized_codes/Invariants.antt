use Rattle.std.proofs.Common.{◌≡◌, ◌≤◌, ◌-◌, true}
use Rattle.std.specs.List.{list_all}
use Rattle.arrow_schema.specs.View.{column_of}
use Rattle.dictionary_codes.specs.Named.{named_cells, seen_cells}
use Rattle.dictionary_codes.specs.inner.Codes.{AreKnown, AreSetFrom, IsPartWritten, own_entries}
use Rattle.dictionary_codes.specs.CodedCells.{is_coded}
use Rattle.columns.specs.CellAt.{cell_at, cells_from}
use Rattle.columns.specs.View.{view_array}
use Rattle.dictionary_codes.proofs.run_codes.put_sized_codes.Given as goal

-- what is written so far, and the cells that are left
abbrev pub invariant-loop-i : goal.invariant-loop-i
invariant-loop-i g l =
    let left = cells_from (cell_at (column_of l.field) (view_array l.slots.view)) l.i (l.to - l.i) in
    record {
      order : l.from ≤ l.i;
      within : l.i ≤ l.to;
      set : AreSetFrom (l.i - l.from) l.valid;
      coded : list_all is_coded left ≡ true;
      known : AreKnown (seen_cells l.entries) (own_entries l.field l.slots.view) l.known;
      written : IsPartWritten g.row.SIZE (named_cells l.fn.entries) (cells_from (cell_at (column_of l.field) (view_array l.slots.view)) l.from (l.to - l.from))
          (named_cells l.entries) left l.indices l.valid (l.i - l.from);
    }

abbrev pub decreases-loop-i : goal.decreases-loop-i
decreases-loop-i g l = l.to - l.i
