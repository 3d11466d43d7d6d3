use Rattle.std.proofs.Common.{◌≡◌, map, drop}
use Rattle.std.specs.List.{list_all}
use Rattle.arrow_schema.specs.Column.{columns_of}
use Rattle.arrow_schema.specs.View.{column_of}
use Rattle.cells.specs.View.{row_behind}
use Rattle.cells.specs.Dictionary.{has_few_entries, holdings_from}
use Rattle.cells.proofs.holding.+holdings.Given as goal

abbrev pub invariant-column_entries_fit-loop-i : goal.invariant-column_entries_fit-loop-i
invariant-column_entries_fit-loop-i l =
    list_all has_few_entries (holdings_from l.i (columns_of (map column_of (drop l.i l.fields))) (map row_behind l.rows)) ≡ list_all has_few_entries (holdings_from 0 (columns_of (map column_of l.fields)) (map row_behind l.rows))
