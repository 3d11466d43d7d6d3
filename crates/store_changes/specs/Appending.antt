-- New rows for a table, and the answers to an append to the table of an entry.
use Rattle.std.specs.Prelude.{◌≡◌, ◌<◌, ◌⊎◌, ℕ, Bool, List, map, Option, Some, None, Result, Ok, Err}
use Rattle.sector_dev.specs.Disk.{Image}
use Rattle.cells.specs.Cell.{Cell}
use Rattle.cells.specs.Row.{row_of}
use Rattle.cells.specs.Weight.{table_weight}
use Rattle.cells.specs.declared.limits.TheConstants.{MAX_TABLE_WEIGHT}
use Rattle.values.specs.Table.{IsTable}
use Rattle.values.specs.TableView.{table_of}
use Rattle.values.specs.declared.weighed_table.WeighedTable.{WeighedTable}
use Rattle.catalogue.specs.Entries.{PlainEntry}
use Rattle.tables.specs.declared.refusal.Refusal.{Refusal}
use Rattle.tables.specs.declared.refusal.Refusal.TheVariants.{OutOfMemory}
use Rattle.tables.specs.Commands.{PlainCommand, append_stream, append_rows}
use Rattle.store_changes.specs.declared.new_rows.NewRows.{NewRows}
use Rattle.store_changes.specs.declared.new_rows.NewRows.TheVariants.{Stream, Given, OfTable}
use Rattle.store_runs.specs.Changes.{PlainChange, rows_under}
use Rattle.store_runs.specs.Deciding.{Addition, streamed_rows, given_rows, entry_added, IsAdded, IsNotRead}

-- the command that appends them
abbrev pub append_of : List ℕ → NewRows → PlainCommand
append_of name (Stream bytes) = append_stream name bytes.items
append_of name (Given rows) = append_rows name (map row_of rows.items)
append_of name (OfTable new) = append_rows name (table_of new.table).rows

-- the tests of new rows that need only an entry
abbrev pub added_to : NewRows → PlainEntry → Result Addition Refusal
added_to (Stream bytes) = streamed_rows bytes.items
added_to (Given rows) = given_rows (map row_of rows.items)
added_to (OfTable new) = given_rows (table_of new.table).rows

-- rows that passed these tests: as a table of a schema with the same shape and its weight, or rows that are too heavy for any table
abbrev pub ArePassed : PlainEntry → Result Addition Refusal → Option WeighedTable → Type 0
ArePassed e tested (Some w) =
    (tested ≡ Ok (record { entry = e; rows = (table_of w.table).rows }))
    × (w.weight ≡ table_weight e.schema (table_of w.table).rows)
    × IsTable (rows_under e.schema (table_of w.table).rows)
ArePassed e tested None = (rows : List (List Cell)) × (tested ≡ Ok (record { entry = e; rows = rows })) × (MAX_TABLE_WEIGHT < table_weight e.schema rows)

-- the answers to new rows for the table of an entry
abbrev pub IsAppended : (tells : Bool) → Image → List ℕ → Result Addition Refusal → Result PlainChange Refusal → Type 0
IsAppended tells image name tested answer = (answer ≡ Err OutOfMemory) ⊎ IsNotRead tells image (entry_added tested) answer ⊎ IsAdded tells image name tested answer
