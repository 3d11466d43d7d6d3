-- The record batches of a text: those that have ended, and the columns of the one that is being read.
use Rattle.std.specs.Prelude.{◌≡◌, ◌≤◌, ◌+◌, ◌++◌, ℕ, true, Bool, List, length, Option, Some, None, IfSome, Result, Ok, Err}
use Rattle.arrow_schema.specs.Column.{PlainSchema, columns_of}
use Rattle.cells.specs.declared.limits.TheConstants.{MAX_TABLE_WEIGHT}
use Rattle.cells.specs.Cell.{Cell}
use Rattle.cells.specs.Dictionary.{entry_limit, is_within}
use Rattle.cells.specs.Weight.{table_weight}
use Rattle.facts.specs.Outcomes.{Reports}
use Rattle.text_import.specs.Refusals.{refused_by}
use Rattle.text_import.specs.declared.refusal.Refused.{Refused}
use Rattle.text_import.specs.declared.refusal.TextError.{TextError}
use Rattle.values.specs.Parts.{are_parts_sound, parts_table}
use Rattle.values.specs.Table.{IsTable}
use Rattle.values.specs.declared.table_part.TablePart.{TablePart}
use Rattle.text_columns.specs.declared.batches.Batches.{Batches}
use Rattle.text_columns.specs.declared.coding.Coding.{Coding}
use Rattle.text_columns.specs.declared.builder.ColumnBuilder.{ColumnBuilder, Flat}
use Rattle.text_columns.specs.declared.reading.WeighedBatches.{WeighedBatches}
use Rattle.text_columns.specs.inner.Kept.{KeepAll, index_type}

-- parts that have these rows, if they are those of a table
abbrev pub ArePartsOf : PlainSchema → List (List Cell) → List TablePart → Type 0
ArePartsOf s rows parts =
    IsTable (record { schema = s; rows = rows }) → (parts_table s parts ≡ record { schema = s; rows = rows }) × (are_parts_sound (columns_of s.columns) parts ≡ true)

-- these rows: the first are in the batches that have ended, and the last in columns
pub record HoldRows (s : PlainSchema) (rows : List (List Cell)) (b : Batches) : Type 0 where
  pub ended : List (List Cell)
  pub last : List (List Cell)
  pub all : rows ≡ ended ++ last
  pub parts : ArePartsOf s ended b.parts.items
  pub count : length last ≡ b.rows
  pub keeps : KeepAll s.columns last b.builders.items

-- the same rows, whichever they are
abbrev pub HoldsSame : PlainSchema → Batches → Batches → Type 0
HoldsSame s old new = (rows : List (List Cell)) → HoldRows s rows old → HoldRows s rows new

-- one more row is in the columns
pub record AddsRow (old new : Batches) : Type 0 where
  pub parts : new.parts.items ≡ old.parts.items
  pub count : new.rows ≡ old.rows + 1

-- all rows that are stated, and their weight, which a table may have
pub record HasRows (s : PlainSchema) (stated : Result (List (List Cell)) Refused) (weight : ℕ) (b : Batches) : Type 0 where
  pub rows : List (List Cell)
  pub are_read : stated ≡ Ok rows
  pub weighs : table_weight s rows ≡ weight
  pub few : weight ≤ MAX_TABLE_WEIGHT
  pub holds : HoldRows s rows b

-- what a call reads of stated rows: all of them, or their refusal
abbrev pub ReadsRows : PlainSchema → Result (List (List Cell)) Refused → Result (Option ℕ) TextError → Batches → Type 0
ReadsRows s stated (Ok read) new = IfSome read (λ weight. HasRows s stated weight new)
ReadsRows s stated (Err e) new = Reports (refused_by e) stated

-- record batches with all rows that are stated, or their refusal
abbrev pub ReadsBatches : PlainSchema → Result (List (List Cell)) Refused → Result (Option WeighedBatches) TextError → Type 0
ReadsBatches s stated (Ok read) = IfSome read (λ w. HasRows s stated w.weight w.batches)
ReadsBatches s stated (Err e) = Reports (refused_by e) stated

-- ---- room for one more entry

abbrev pub coding_has_room : Option Coding → Bool
coding_has_room None = true
coding_has_room (Some d) = is_within (entry_limit (index_type d.index)) (length d.keys.keys + 1)

-- the dictionary of a column has room for one more entry, if it has one
abbrev pub has_room : ColumnBuilder → Bool
has_room (Flat b) = coding_has_room b.coding
has_room _ = true
