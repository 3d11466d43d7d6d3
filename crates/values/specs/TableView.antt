-- What a table of the code is, and how a call reports a refusal.
use Rattle.std.specs.Prelude.{◌≡◌, Bool, true, false, List, drop, Result, Err}
use Rattle.values.specs.declared.table.Table.{Table}
use Rattle.values.specs.declared.rows.Rows.{Rows}
use Rattle.values.specs.declared.errors.TableError.{TableError}
use Rattle.values.specs.declared.errors.TableError.TheVariants.{Unfit, Weight, OutOfMemory}
use Rattle.cells.specs.Cell.{Cell, PlainTable}
use Rattle.values.specs.Table.{Refusal, unfit, too_heavy}
use Rattle.values.specs.Content.{table_with}
use Rattle.values.specs.declared.content.Content.{Content}
use Rattle.values.specs.declared.content.Content.TheVariants.{Rows as Given, Batches}

abbrev pub table_of : Table → PlainTable
table_of t = table_with t.schema t.content

-- whether a table is kept as record batches
abbrev pub has_batches : Content → Bool
has_batches (Given rows) = false
has_batches (Batches batches) = true

abbrev pub is_in_parts : Table → Bool
is_in_parts t = has_batches t.content

-- the rows that an iterator has left
abbrev pub rows_left : Rows → List (List Cell)
rows_left it = drop it.next (table_of it.table.now).rows

-- the code reports what is: memory may be wanting whatever it is
abbrev pub Reports : TableError → Result PlainTable Refusal → Type 0
Reports (Unfit i) r = r ≡ Err (unfit i)
Reports Weight r = r ≡ Err too_heavy
Reports OutOfMemory r = Unit {0}
