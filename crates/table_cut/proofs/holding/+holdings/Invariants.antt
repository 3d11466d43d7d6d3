use Rattle.std.proofs.Common.{◌≡◌, ◌++◌, map, drop}
use Rattle.arrow_schema.specs.Column.{columns_of}
use Rattle.arrow_schema.specs.View.{column_of}
use Rattle.cells.specs.Dictionary.{part_list, holdings_from}
use Rattle.table_cut.specs.inner.Seen.{held_of, held_in}
use Rattle.columns.specs.Borrowed.{borrowed_cell}
use Rattle.table_cut.proofs.holding.+holdings.Given as goal

abbrev pub invariant-hold_parts-loop-i : goal.invariant-hold_parts-loop-i
invariant-hold_parts-loop-i l =
    let rows = map part_list (map borrowed_cell l.cells) in
    map held_in l.held.items ++ map held_of (holdings_from l.i (columns_of (map column_of (drop l.i l.fields))) rows)
    ≡ map held_in l.fn.held.items ++ map held_of (holdings_from 0 (columns_of (map column_of l.fields)) rows)
