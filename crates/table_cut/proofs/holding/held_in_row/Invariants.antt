use Rattle.std.proofs.Common.{◌≡◌, ◌++◌, ◌∷◌, [], map, drop}
use Rattle.arrow_schema.specs.Column.{columns_of}
use Rattle.arrow_schema.specs.View.{column_of}
use Rattle.cells.specs.Dictionary.{holdings_from}
use Rattle.table_cut.specs.inner.Seen.{held_of, held_in}
use Rattle.columns.specs.Borrowed.{borrowed_cells}
use Rattle.table_cut.proofs.holding.held_in_row.Given as goal

abbrev pub invariant-loop-i : goal.invariant-loop-i
invariant-loop-i l =
    let rows = borrowed_cells l.row ∷ [] in
    map held_in l.held.items ++ map held_of (holdings_from l.i (columns_of (map column_of (drop l.i l.fields))) rows)
    ≡ map held_of (holdings_from 0 (columns_of (map column_of l.fields)) rows)
