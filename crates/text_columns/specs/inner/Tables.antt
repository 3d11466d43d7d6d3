-- The rows of columns as a table.
use Rattle.std.specs.Prelude.{◌≡◌, ℕ, true, List, [], ◌∷◌, length}
use Rattle.arrow_schema.specs.Column.{PlainSchema, columns_of}
use Rattle.cells.specs.Cell.{Cell, PlainTable}
use Rattle.values.specs.Parts.{are_parts_sound, parts_table}
use Rattle.values.specs.Table.{IsTable}
use Rattle.values.specs.declared.table_part.TablePart.{TablePart}
use Rattle.text_columns.specs.declared.batches.Batches.{Batches}
use Rattle.text_columns.specs.declared.builder.ColumnBuilder.{ColumnBuilder}
use Rattle.text_columns.specs.inner.Batches.{HoldRows}
use Rattle.text_columns.specs.inner.Kept.{KeepAll}

-- a part that has the `n` rows that the columns hold
abbrev pub IsPartOf : List ColumnBuilder → ℕ → TablePart → Type 0
IsPartOf columns n part =
    (s : PlainSchema) (rows : List (List Cell)) → KeepAll s.columns rows columns → length rows ≡ n → IsTable (record { schema = s; rows = rows })
    → (parts_table s (part ∷ []) ≡ record { schema = s; rows = rows }) × (are_parts_sound (columns_of s.columns) (part ∷ []) ≡ true)

-- the batches hold the rows of a table
pub record MakesRows (s : PlainSchema) (batches : Batches) : Type 0 where
  pub rows : List (List Cell)
  pub holds : HoldRows s rows batches
  pub table : IsTable (record { schema = s; rows = rows })

-- a table of the rows that the batches hold, if these are those of a table
abbrev pub HasTable : PlainSchema → Batches → PlainTable → Type 0
HasTable s batches table =
    (rows : List (List Cell)) → HoldRows s rows batches → IsTable (record { schema = s; rows = rows }) → table ≡ record { schema = s; rows = rows }
