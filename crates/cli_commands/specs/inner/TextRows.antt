-- What a store is asked for the rows of a text.
use Rattle.std.specs.Prelude.{◌≡◌, ◌<◌, ℕ, List, Option, None, Some}
use Rattle.std.specs.List.{AllPass}
use Rattle.arrow_schema.specs.Column.{PlainSchema}
use Rattle.cells.specs.Cell.{Cell}
use Rattle.cells.specs.Row.{is_row}
use Rattle.cells.specs.Weight.{table_weight}
use Rattle.cells.specs.declared.limits.TheConstants.{MAX_TABLE_WEIGHT}
use Rattle.tables.specs.Commands.{append_rows}
use Rattle.tables.specs.View.{command_of}
use Rattle.tables.specs.declared.command.Command.{Command}

-- the command that appends these rows to a table of this schema; or none, if each of them fits and they are too heavy for any table
abbrev pub AppendsRows : List ℕ → PlainSchema → List (List Cell) → Option Command → Type 0
AppendsRows name s rows (Some command) = command_of command ≡ append_rows name rows
AppendsRows name s rows None = AllPass (is_row s) rows × (MAX_TABLE_WEIGHT < table_weight s rows)
