use Rattle.std.proofs.Common.{◌≡◌, ◌≤◌, ◌+◌, ◌-◌, ◌++◌, true}
use Rattle.arrow_schema.specs.View.{column_of}
use Rattle.array_build.proofs.masked_lists.push_slot_items.Given as goal
use Rattle.array_build.specs.inner.MaskedLists.{lists_under}
use Rattle.array_build.specs.inner.RunItems.{list_column}
use Rattle.columns.specs.Array.{items_in, slots_in}
use Rattle.columns.specs.CellAt.{cell_at, cells_from}
use Rattle.columns.specs.Runs.{are_runs_sound, runs_cells}
use Rattle.columns.specs.View.{view_array}

-- the items so far, those that are kept back, and those of the other slots
abbrev pub invariant-loop-i : goal.invariant-loop-i
invariant-loop-i l =
    let item = column_of l.item in
    let a = view_array l.array in
    let list = cell_at (list_column l.width item) a in
    record {
      begins : l.at ≤ l.i;
      ends : l.i ≤ l.to;
      within : l.start + l.len ≤ slots_in (items_in a);
      good : are_runs_sound item l.items.items ≡ true;
      cells : (runs_cells item l.items.items ++ cells_from (cell_at item (items_in a)) l.start l.len) ++ lists_under list l.mask (l.from + (l.i - l.at)) l.i (l.to - l.i)
          ≡ runs_cells item l.fn.items.items ++ lists_under list l.mask l.from l.at (l.to - l.at);
    }

abbrev pub decreases-loop-i : goal.decreases-loop-i
decreases-loop-i l = l.to - l.i
