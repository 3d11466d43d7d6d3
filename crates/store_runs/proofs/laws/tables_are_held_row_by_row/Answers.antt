use Rattle.store_runs.specs.laws.Known.{known_number, known_listed, rows_all, tables_by_each}
use Rattle.store_runs.proofs.laws.tables_are_held_row_by_row.Goals as goal

pub returns : goal.returns
returns c = record { count = known_number; listed = known_listed; rows = rows_all; tables = tables_by_each }
