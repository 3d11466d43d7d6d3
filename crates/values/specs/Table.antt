-- What a table keeps.
use Rattle.std.specs.Prelude.{ℕ, ◌≤◌, nat_le, not, List, Option, Some, None, Result, Ok, Err, if◌then◌else◌, position}
use Rattle.std.specs.List.{AllPass}
use Rattle.arrow_schema.specs.Column.{PlainSchema}
use Rattle.arrow_schema.specs.Limits.{IsWithinLimits}
use Rattle.cells.specs.declared.limits.TheConstants.{MAX_TABLE_WEIGHT}
use Rattle.cells.specs.Cell.{Cell, PlainTable}
use Rattle.cells.specs.Weight.{table_weight}
use Rattle.cells.specs.Row.{is_row}

pub record IsTable (t : PlainTable) : Type 0 where
  pub schema : IsWithinLimits t.schema
  pub rows : AllPass (is_row t.schema) t.rows
  pub weight : table_weight t.schema t.rows ≤ MAX_TABLE_WEIGHT

-- why rows are no table: the first that a table doesn't take, counted from 0, or their weight together
pub data Refusal : Type 0 where
  unfit : ℕ → Refusal
  too_heavy : Refusal

unfoldable pub first_unfit : PlainSchema → List (List Cell) → Option ℕ
first_unfit s rows = position (λ row. not (is_row s row)) rows

abbrev pub weighed : PlainSchema → List (List Cell) → Option ℕ → Result PlainTable Refusal
weighed s rows (Some i) = Err (unfit i)
weighed s rows None = if nat_le (table_weight s rows) MAX_TABLE_WEIGHT then Ok (record { schema = s; rows = rows }) else Err too_heavy

-- the table of these rows, or why there is none
unfoldable pub table_from : PlainSchema → List (List Cell) → Result PlainTable Refusal
table_from s rows = weighed s rows (first_unfit s rows)
