use Rattle.std.proofs.Common.{◌≡◌, ◌++◌, map}
use Rattle.cells.specs.Row.{row_of}
use Rattle.values.specs.TableView.{table_of, rows_left}
use Rattle.store_changes.proofs.new_rows.own_rows.Given as goal

abbrev pub invariant-loop-row : goal.invariant-loop-row
invariant-loop-row l = map row_of l.rows.items ++ rows_left l.row-iterator ≡ (table_of l.table).rows
