-- What the table of an entry weighs, and what it weighs after rows were appended to it.
use Rattle.std.specs.Prelude.{◌≡◌, ◌++◌, ℕ, Bool, List, Some}
use Rattle.sector_dev.specs.Disk.{Image}
use Rattle.cells.specs.Cell.{Cell, PlainTable}
use Rattle.cells.specs.Weight.{table_weight}
use Rattle.values.specs.Table.{IsTable}
use Rattle.catalogue.specs.Entries.{PlainEntry, PlainCatalogue}
use Rattle.catalogue.specs.Edits.{entry_of}
use Rattle.store_runs.specs.Changes.{PlainChange, extend, rows_under, stream_rows}
use Rattle.store_runs.specs.Reading.{IsRead}

-- the table that was read for an entry weighs so much
abbrev pub Weighs : (tells : Bool) → Image → PlainEntry → (weight : ℕ) → Type 0
Weighs tells image e weight = (table : PlainTable) × IsRead tells image e table × (weight ≡ table_weight table.schema table.rows)

-- the change appends rows to the table that was read for an entry, and all of its rows then weigh so much
pub record WeighsAfter (tells : Bool) (image : Image) (e : PlainEntry) (name : List ℕ) (change : PlainChange) (weight : ℕ) : Type 0 where
  pub standing : PlainTable
  pub read : IsRead tells image e standing
  pub rows : List (List Cell)
  pub extends : change.edit ≡ extend name
  pub new : stream_rows e.schema change.streams change.counts ≡ Some rows
  pub kept : IsTable (rows_under e.schema (standing.rows ++ rows))
  pub is : weight ≡ table_weight e.schema (standing.rows ++ rows)

-- the same for the table of this name in a catalogue
abbrev pub TellsWeight : (tells : Bool) → Image → PlainCatalogue → (name : List ℕ) → (weight : ℕ) → Type 0
TellsWeight tells image c name weight = (e : PlainEntry) → entry_of c name ≡ Some e → Weighs tells image e weight

abbrev pub TellsWeightAfter : (tells : Bool) → Image → PlainCatalogue → (name : List ℕ) → PlainChange → (weight : ℕ) → Type 0
TellsWeightAfter tells image c name change weight = (e : PlainEntry) × (entry_of c name ≡ Some e) × WeighsAfter tells image e name change weight
