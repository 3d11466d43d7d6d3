-- Rows that were read of the segments of a table.
use Rattle.std.specs.Prelude.{◌≡◌, ◌++◌, ℕ, Bool, true, List, length, sum_by, Some}
use Rattle.sector_dev.specs.Disk.{Image}
use Rattle.arrow_schema.specs.Column.{PlainSchema}
use Rattle.cells.specs.Cell.{Cell}
use Rattle.cells.specs.Weight.{table_weight}
use Rattle.values.specs.Table.{IsTable}
use Rattle.catalogue.specs.declared.entry.Segment.{Segment}
use Rattle.store_runs.specs.Changes.{rows_under}
use Rattle.store_runs.specs.Held.{rows_held}
use Rattle.store_runs.specs.Reading.{HasRead, HaveRead}

-- rows that were read of segments, one after another: a table, with as many rows as the segments say; if the device tells its story, the segments hold them
pub record ReadsRows (tells : Bool) (image : Image) (schema : PlainSchema) (segments : List Segment) (rows : List (List Cell)) : Type 0 where
  pub kept : IsTable (rows_under schema rows)
  pub count : length rows ≡ sum_by (λ (s : Segment). s.rows) segments
  pub read : HaveRead tells image schema segments rows
  pub held : tells ≡ true → rows_held schema segments image ≡ Some rows

-- the rows of a segment were read, and go after these: all together are a table
pub record ReadsNext (tells : Bool) (image : Image) (schema : PlainSchema) (rows : List (List Cell)) (segment : Segment) (all : List (List Cell)) : Type 0 where
  pub own : List (List Cell)
  pub read : HasRead tells image schema segment own
  pub count : length own ≡ segment.rows
  pub is : all ≡ rows ++ own
  pub kept : IsTable (rows_under schema all)

-- what such rows weigh
abbrev pub WeighsRows : (tells : Bool) → Image → PlainSchema → List Segment → ℕ → Type 0
WeighsRows tells image schema segments weight = (rows : List (List Cell)) × ReadsRows tells image schema segments rows × (weight ≡ table_weight schema rows)

abbrev pub WeighsNext : (tells : Bool) → Image → PlainSchema → List (List Cell) → Segment → ℕ → Type 0
WeighsNext tells image schema rows segment weight = (all : List (List Cell)) × ReadsNext tells image schema rows segment all × (weight ≡ table_weight schema all)
