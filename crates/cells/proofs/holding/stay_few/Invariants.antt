use Rattle.std.proofs.Common.{◌≡◌, ◌≤◌, map, drop, length}
use Rattle.cells.specs.View.{cell_behind}
use Rattle.cells.specs.Entry.{entry_cell}
use Rattle.cells.specs.Dictionary.{with_entries}
use Rattle.cells.proofs.holding.stay_few.Given as goal

abbrev pub invariant-loop-value : goal.invariant-loop-value
invariant-loop-value l =
    (with_entries (map entry_cell l.entries.keys) (map cell_behind (drop l.value-index l.cells)) ≡ with_entries (map entry_cell l.initial.entries.keys) (map cell_behind l.cells)) × (length l.entries.keys ≤ l.most)
