use Rattle.std.proofs.Common.{◌≡◌, ◌-◌, ◌++◌, List, true}
use Rattle.std.specs.List.{list_all}
use Rattle.arrow_schema.specs.View.{column_of}
use Rattle.dictionary_codes.specs.Named.{named_cells, seen_cells}
use Rattle.dictionary_codes.specs.inner.Codes.{AreKnown, AreSetFrom, IsPartWritten, own_entries}
use Rattle.dictionary_codes.specs.CodedCells.{is_coded}
use Rattle.cells.specs.Cell.{Cell}
use Rattle.columns.specs.CellAt.{cell_at, cells_from}
use Rattle.columns.specs.View.{view_array}
use Rattle.dictionary_codes.proofs.run_codes.put_each_code.Given as goal

-- what is written so far, and the cells that are left
abbrev pub invariant-loop-i : goal.invariant-loop-i
invariant-loop-i g l =
    let cells = cell_at (column_of l.field) (view_array l.slots.view) in
    record {
      coded : list_all is_coded (cells_from cells l.i (l.end - l.i)) ≡ true;
      set : AreSetFrom (l.i - l.from) l.valid;
      known : AreKnown (seen_cells l.entries) (own_entries l.field l.slots.view) l.known;
      written : (start all left : List Cell)
          → IsPartWritten g.row.SIZE start all (named_cells l.fn.entries) (cells_from cells l.first (l.end - l.first) ++ left) l.fn.indices l.fn.valid (l.first - l.from)
          → IsPartWritten g.row.SIZE start all (named_cells l.entries) (cells_from cells l.i (l.end - l.i) ++ left) l.indices l.valid (l.i - l.from);
    }
