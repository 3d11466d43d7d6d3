-- How the decision by a catalogue relates to the verdict on the tables that it lists, and what is done to the tables of the verdict.
use Rattle.std.specs.Prelude.{◌≡◌, ◌⊎◌, ℕ, Bool, true, List, [], ◌∷◌, length, take, slice_get, Option, Some, None, Result, Ok, Err}
use Rattle.sector_dev.specs.Disk.{Image}
use Rattle.cells.specs.Cell.{PlainTable}
use Rattle.values.specs.Table.{IsTable}
use Rattle.catalogue.specs.Entries.{PlainEntry, PlainCatalogue, row_count, runs_of}
use Rattle.catalogue.specs.Edits.{entry_of}
use Rattle.tables.specs.declared.refusal.Refusal.{Refusal}
use Rattle.tables.specs.declared.refusal.Refusal.TheVariants.{TooMany, Device, OutOfMemory}
use Rattle.tables.specs.declared.refusal.Limit.TheVariants as limits
use Rattle.tables.specs.Tables.{Tables, table_at, table_count}
use Rattle.tables.specs.Commands.{PlainCommand}
use Rattle.tables.specs.Verdict.{verdict}
use Rattle.store_runs.specs.Machine.{holds}
use Rattle.store_runs.specs.Held.{table_held, held_by}
use Rattle.store_runs.specs.Changes.{PlainChange, MakesOf}
use Rattle.store_runs.specs.Deciding.{AreBefore, Leaves, ExceedsSegments, reads_device, IsDecided, IsAnswered}

-- what a catalogue says about a table, by its entry
abbrev pub TellsTable : Option PlainEntry → Option PlainTable → Type 0
TellsTable None found = found ≡ None
TellsTable (Some e) found = (table : PlainTable) × (found ≡ Some table) × (table.schema ≡ e.schema) × (length table.rows ≡ row_count e)

-- a catalogue lists these tables
pub record Lists (c : PlainCatalogue) (t : Tables) : Type 0 where
  pub each : (name : List ℕ) → TellsTable (entry_of c name) (table_at t name)
  pub count : table_count t ≡ length c

-- and they have the rows of those that the image holds; a table with a segment that can't be read may be any that its segments could hold
pub record AreListed (image : Image) (c : PlainCatalogue) (t : Tables) : Type 0 where
  pub lists : Lists c t
  pub held : (name : List ℕ) (e : PlainEntry) (table : PlainTable) → entry_of c name ≡ Some e → table_held image e ≡ Some table → table_at t name ≡ Some table
  pub possible : (name : List ℕ) (e : PlainEntry) (table : PlainTable) → entry_of c name ≡ Some e → table_at t name ≡ Some table
      → IsTable table × ((other : Image) × (table_held other e ≡ Some table))

-- a decision is the verdict on these tables: a change with the same effect on them as the command, or the same refusal
abbrev pub IsVerdict : Tables → PlainCommand → Result PlainChange Refusal → Type 0
IsVerdict t c (Ok change) = (new : Tables) × (verdict t c ≡ Ok new) × MakesOf t change new
IsVerdict t c (Err r) = verdict t c ≡ Err r

-- commands one after another are accepted, and lead from one state of a list to another
abbrev pub LeadsThrough : (tells : Bool) → (next : ℕ) → Image → PlainCatalogue → List PlainCommand → (next' : ℕ) → Image → PlainCatalogue → Type 0
LeadsThrough tells next image c [] next' image' c' = (next' ≡ next) × (image' ≡ image) × (c' ≡ c)
LeadsThrough tells next image c (x ∷ xs) next' image' c' =
    (change : PlainChange) × (mid : ℕ) × (between : Image) × (d : PlainCatalogue) × IsDecided tells image c x (Ok change)
    × Leaves next image c change mid between d × LeadsThrough tells mid between d xs next' image' c'

-- why a list ends at a command: its answer is a refusal, or there are too many segments after it
abbrev pub EndsAtLine : (tells : Bool) → (next : ℕ) → Image → PlainCatalogue → PlainCommand → Refusal → Type 0
EndsAtLine tells next image c command r =
    IsAnswered tells image c command (Err r)
    ⊎ ((r ≡ TooMany limits.Segments) × ((change : PlainChange) × IsDecided tells image c command (Ok change) × ExceedsSegments next c change))

-- a list ends at the command at this place, counted from 0: those before it are accepted one after another
pub record IsRefusedAt (tells : Bool) (image : Image) (c : PlainCatalogue) (commands : List PlainCommand) (place : ℕ) (r : Refusal) : Type 0 where
  pub from : ℕ
  pub before : AreBefore from (runs_of c)
  pub next : ℕ
  pub over : Image
  pub made : PlainCatalogue
  pub leads : LeadsThrough tells from image c (take place commands) next over made
  pub command : PlainCommand
  pub at : slice_get commands place ≡ Some command
  pub ends : EndsAtLine tells next over made command r

-- nothing was decided: memory was refused, or the device failed in a command that reads it
abbrev pub IsUndecided : PlainCommand → Result PlainChange Refusal → Type 0
IsUndecided c d = (d ≡ Err OutOfMemory) ⊎ ((d ≡ Err Device) × (reads_device c ≡ true))

-- an image has the tables that a command makes from these
abbrev pub HoldsVerdict : ℕ → Image → Tables → PlainCommand → Type 0
HoldsVerdict size image t c = (new : Tables) × (verdict t c ≡ Ok new) × (held_by size image ≡ holds new)
