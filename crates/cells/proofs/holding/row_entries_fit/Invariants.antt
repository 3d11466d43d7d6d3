use Rattle.std.proofs.Common.{◌≡◌, ◌∷◌, [], map, drop}
use Rattle.std.specs.List.{list_all}
use Rattle.arrow_schema.specs.Column.{columns_of}
use Rattle.arrow_schema.specs.View.{column_of}
use Rattle.cells.specs.View.{cell}
use Rattle.cells.specs.Dictionary.{has_few_entries, holdings_from}
use Rattle.cells.proofs.holding.row_entries_fit.Given as goal

abbrev pub invariant-loop-i : goal.invariant-loop-i
invariant-loop-i l =
    list_all has_few_entries (holdings_from l.i (columns_of (map column_of (drop l.i l.fields))) (map cell l.row ∷ [])) ≡ list_all has_few_entries (holdings_from 0 (columns_of (map column_of l.fields)) (map cell l.row ∷ []))
