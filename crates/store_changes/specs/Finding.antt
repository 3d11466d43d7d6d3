-- The answers of the parts of a step of a compaction.
use Rattle.std.specs.Prelude.{◌≡◌, ◌⊎◌, ◌≤◌, ◌<◌, ◌+◌, ℕ, Bool, true, if◌then◌else◌, nat_lt, List, [], length, slice_get, Option, Some, None}
use Rattle.sector_dev.specs.Disk.{Image}
use Rattle.segments.specs.declared.run.Run.{Run}
use Rattle.cells.specs.declared.limits.TheConstants.{MAX_PIECE_ROWS}
use Rattle.values.specs.TableView.{table_of}
use Rattle.values.specs.declared.table.Table.{Table}
use Rattle.catalogue.specs.declared.entry.Segment.{Segment}
use Rattle.catalogue.specs.Entries.{PlainEntry, PlainCatalogue, row_count}
use Rattle.tables.specs.declared.refusal.Refusal.{Refusal}
use Rattle.store_changes.specs.declared.change.Change.{Change}
use Rattle.store_changes.specs.declared.moving.Last.{Last}
use Rattle.store_changes.specs.declared.compacting.Step.{Step}
use Rattle.store_runs.specs.declared.compacting.Compaction.TheVariants.{Nothing}
use Rattle.store_changes.specs.Change.{change_of}
use Rattle.store_runs.specs.Reading.{IsRead}
use Rattle.store_runs.specs.Compacting.{pair_of, is_one_piece, StaysTwo, FirstStay, AllStay, IsMergeIn, IsMerge, UnreadsPair, IsMove, IsLastStill, HasNone, IsStep}

-- ---- pairs

-- for a pair at a place: a table whose rows are one piece, or `None` if they stay two segments
abbrev pub IsPair : (tells : Bool) → Image → PlainEntry → ℕ → Option Table → Type 0
IsPair tells image e place (Some table) = (row_count (pair_of e place) ≤ MAX_PIECE_ROWS) × IsRead tells image (pair_of e place) (table_of table) × (is_one_piece (table_of table) ≡ true)
IsPair tells image e place None = StaysTwo tells image e place

-- for a table
abbrev pub FindsIn : (tells : Bool) → Image → PlainEntry → Option Change → Type 0
FindsIn tells image e (Some change) = IsMergeIn tells image e (change_of change)
FindsIn tells image e None = FirstStay tells image e (length e.segments)

-- why one that may be one piece is not
abbrev pub UnreadsFew : (tells : Bool) → Image → PlainEntry → ℕ → Refusal → Type 0
UnreadsFew tells image e place r = (row_count (pair_of e place) ≤ MAX_PIECE_ROWS) × UnreadsPair tells image e place r

abbrev pub UnreadsIn : (tells : Bool) → Image → PlainEntry → Refusal → Type 0
UnreadsIn tells image e r = (place : ℕ) × (place + 2 ≤ length e.segments) × FirstStay tells image e place × UnreadsFew tells image e place r

-- for all tables
abbrev pub FindsPair : (tells : Bool) → Image → PlainCatalogue → Option Change → Type 0
FindsPair tells image c (Some change) = IsMerge tells image c (change_of change)
FindsPair tells image c None = AllStay tells image c (length c)

-- ---- the last segment

-- the one of two with the greater start
abbrev pub later_of : Option Last → Last → Last
later_of None other = other
later_of (Some one) other = if nat_lt one.segment.place.run.start other.segment.place.run.start then other else one

-- the one with the greatest start among the first segments of the table with this number
abbrev pub IsLastIn : ℕ → List Segment → (count : ℕ) → Option Last → Type 0
IsLastIn number segments count None = count ≡ 0
IsLastIn number segments count (Some last) =
    (last.table ≡ number) × (slice_get segments last.place ≡ Some last.segment)
    × ((p : ℕ) (g : Segment) → p < count → slice_get segments p ≡ Some g → g.place.run.start ≤ last.segment.place.run.start)

-- the entry of its table
abbrev pub StandsIn : PlainCatalogue → Last → Type 0
StandsIn c last = (e : PlainEntry) × (slice_get c last.table ≡ Some e) × (slice_get e.segments last.place ≡ Some last.segment)

-- the one with the greatest start in the first tables
abbrev pub IsLastOf : PlainCatalogue → (count : ℕ) → Option Last → Type 0
IsLastOf c count None = (number : ℕ) (e : PlainEntry) → number < count → slice_get c number ≡ Some e → e.segments ≡ []
IsLastOf c count (Some last) =
    StandsIn c last
    × ((number : ℕ) (e : PlainEntry) (p : ℕ) (g : Segment) → number < count → slice_get c number ≡ Some e → slice_get e.segments p ≡ Some g
    → g.place.run.start ≤ last.segment.place.run.start)

-- how it is moved
abbrev pub FindsMove : (tells : Bool) → Image → (size : ℕ) → (used : Run → Type 0) → PlainCatalogue → Option Change → Type 0
FindsMove tells image size used c (Some change) = IsMove tells image size used c (change_of change)
FindsMove tells image size used c None = HasNone c ⊎ IsLastStill size used c

-- ---- a step

abbrev pub FindsStep : (tells : Bool) → Image → (size : ℕ) → (used : Run → Type 0) → PlainCatalogue → Option Step → Type 0
FindsStep tells image size used c (Some step) = IsStep tells image size used c step.done (Some (change_of step.change))
FindsStep tells image size used c None = IsStep tells image size used c Nothing None
