-- A step of a compaction: its change of a catalogue, and why no step is decided.
use Rattle.std.specs.Prelude.{◌≡◌, ◌⊎◌, ◌≤◌, ◌<◌, ◌+◌, ℕ, Bool, true, false, nat_le, List, [], ◌∷◌, length, slice_get, Option, Some, None}
use Rattle.sector_dev.specs.Disk.{Image}
use Rattle.segments.specs.Runs.{IsLowest}
use Rattle.segments.specs.declared.run.Run.{Run}
use Rattle.cells.specs.Cell.{PlainTable}
use Rattle.cells.specs.declared.limits.TheConstants.{MAX_PIECE_ROWS}
use Rattle.table_cut.specs.Piece.{pieces_of}
use Rattle.catalogue.specs.declared.entry.Segment.{Segment}
use Rattle.catalogue.specs.Entries.{PlainEntry, PlainCatalogue, row_count}
use Rattle.tables.specs.declared.refusal.Refusal.{Refusal}
use Rattle.tables.specs.declared.refusal.Refusal.TheVariants as refusals
use Rattle.store_runs.specs.declared.compacting.Compaction.{Compaction}
use Rattle.store_runs.specs.declared.compacting.Compaction.TheVariants as compactions
use Rattle.store_runs.specs.Changes.{PlainChange, exchange}
use Rattle.catalogue.specs.Edits.{from_place}
use Rattle.store_runs.specs.Deciding.{pieces_put}
use Rattle.store_runs.specs.Reading.{IsCopy, LacksBytes, IsRead, Unreads}

-- ---- two neighbours

-- two neighbouring segments as a table of their own
abbrev pub pair_of : PlainEntry → ℕ → PlainEntry
pair_of e place = record { name = e.name; schema = e.schema; segments = from_place e.segments place 2; page = None }

-- all rows are cut into one piece
abbrev pub is_one_piece : PlainTable → Bool
is_one_piece table = nat_le (length (pieces_of table)) 1

-- a pair stays two segments: it has more rows than any piece, and is not read; or it was read, and its rows are more than one piece
abbrev pub StaysTwo : (tells : Bool) → Image → PlainEntry → ℕ → Type 0
StaysTwo tells image e place =
    (MAX_PIECE_ROWS < row_count (pair_of e place)) ⊎ ((table : PlainTable) × IsRead tells image (pair_of e place) table × (is_one_piece table ≡ false))

-- the first pairs of a table stay two segments each
abbrev pub FirstStay : (tells : Bool) → Image → PlainEntry → (count : ℕ) → Type 0
FirstStay tells image e count = (place : ℕ) → place < count → place + 2 ≤ length e.segments → StaysTwo tells image e place

-- so do all pairs of the first tables
abbrev pub AllStay : (tells : Bool) → Image → PlainCatalogue → (count : ℕ) → Type 0
AllStay tells image c count = (number : ℕ) (e : PlainEntry) → number < count → slice_get c number ≡ Some e → FirstStay tells image e (length e.segments)

-- a change replaces the first pair of a table whose rows are one piece by that piece
pub record IsMergeIn (tells : Bool) (image : Image) (e : PlainEntry) (change : PlainChange) : Type 0 where
  pub place : ℕ
  pub within : place + 2 ≤ length e.segments
  pub before : FirstStay tells image e place
  pub table : PlainTable
  pub read : IsRead tells image (pair_of e place) table
  pub one : is_one_piece table ≡ true
  pub is : change ≡ pieces_put (exchange e.name place 2) table

-- the same for the first pair of all tables, in order
pub record IsMerge (tells : Bool) (image : Image) (c : PlainCatalogue) (change : PlainChange) : Type 0 where
  pub number : ℕ
  pub entry : PlainEntry
  pub at : slice_get c number ≡ Some entry
  pub others : AllStay tells image c number
  pub merge : IsMergeIn tells image entry change

-- ---- the last segment

-- the segment at this place in the table with this number: no other segment starts after it
pub record IsLast (c : PlainCatalogue) (number place : ℕ) (entry : PlainEntry) (segment : Segment) : Type 0 where
  pub found : slice_get c number ≡ Some entry
  pub at : slice_get entry.segments place ≡ Some segment
  pub most : (other : ℕ) (e : PlainEntry) (p : ℕ) (g : Segment) → slice_get c other ≡ Some e → slice_get e.segments p ≡ Some g → g.place.run.start ≤ segment.place.run.start

-- a change moves it, byte for byte as it was read, into the lowest free run that fits it, which starts before it
pub record IsMove (tells : Bool) (image : Image) (size : ℕ) (used : Run → Type 0) (c : PlainCatalogue) (change : PlainChange) : Type 0 where
  pub number : ℕ
  pub place : ℕ
  pub entry : PlainEntry
  pub segment : Segment
  pub last : IsLast c number place entry segment
  pub run : Run
  pub lowest : IsLowest size used segment.place.run.count (Some run)
  pub below : run.start < segment.place.run.start
  pub bytes : List ℕ
  pub copy : IsCopy tells image segment bytes
  pub is : change ≡ record { edit = exchange entry.name place 1; streams = bytes ∷ []; counts = segment.rows ∷ [] }

-- no free run that fits it starts before it
pub record IsLastStill (size : ℕ) (used : Run → Type 0) (c : PlainCatalogue) : Type 0 where
  pub number : ℕ
  pub place : ℕ
  pub entry : PlainEntry
  pub segment : Segment
  pub last : IsLast c number place entry segment
  pub still : (run : Run) → IsLowest size used segment.place.run.count (Some run) → segment.place.run.start ≤ run.start

-- no table has a segment
abbrev pub HasNone : PlainCatalogue → Type 0
HasNone c = (number : ℕ) (e : PlainEntry) → slice_get c number ≡ Some e → e.segments ≡ []

-- ---- a step

-- what a step does while these runs are in use, by what reads show: the first pair that is one piece becomes one segment; if there is none, the segment
-- with the greatest start is moved to a lower one; if it can't be moved, there is nothing to do
abbrev pub IsStep : (tells : Bool) → Image → (size : ℕ) → (used : Run → Type 0) → PlainCatalogue → Compaction → Option PlainChange → Type 0
IsStep tells image size used c compactions.Merged (Some change) = IsMerge tells image c change
IsStep tells image size used c compactions.Moved (Some change) = AllStay tells image c (length c) × IsMove tells image size used c change
IsStep tells image size used c compactions.Nothing None = AllStay tells image c (length c) × (HasNone c ⊎ IsLastStill size used c)
IsStep tells image size used c _ _ = ⊥

-- why a pair is not read: the reported place is that of the segment in the table
abbrev pub UnreadsPair : (tells : Bool) → Image → PlainEntry → ℕ → Refusal → Type 0
UnreadsPair tells image e place refusals.Device = Unit {0}
UnreadsPair tells image e place refusals.OutOfMemory = Unit {0}
UnreadsPair tells image e place (refusals.SegmentUnread number) = (at : ℕ) × (number ≡ place + at) × Unreads tells image (pair_of e place) (refusals.SegmentUnread at)
UnreadsPair tells image e place (refusals.SegmentDamaged number) = (at : ℕ) × (number ≡ place + at) × Unreads tells image (pair_of e place) (refusals.SegmentDamaged at)
UnreadsPair tells image e place _ = ⊥

-- the pair that is not read is the first one that may be one piece by the number of its rows: all before it stay two segments
pub record UnreadsInPairs (tells : Bool) (image : Image) (c : PlainCatalogue) (r : Refusal) : Type 0 where
  pub number : ℕ
  pub entry : PlainEntry
  pub at : slice_get c number ≡ Some entry
  pub others : AllStay tells image c number
  pub place : ℕ
  pub within : place + 2 ≤ length entry.segments
  pub before : FirstStay tells image entry place
  pub few : row_count (pair_of entry place) ≤ MAX_PIECE_ROWS
  pub unread : UnreadsPair tells image entry place r

pub record UnreadsMoving (tells : Bool) (image : Image) (c : PlainCatalogue) (r : Refusal) : Type 0 where
  pub number : ℕ
  pub place : ℕ
  pub entry : PlainEntry
  pub segment : Segment
  pub last : IsLast c number place entry segment
  pub unread : LacksBytes tells image segment place r

-- why nothing is decided: the last segment is considered if all pairs stay two segments
abbrev pub UnreadsStep : (tells : Bool) → Image → PlainCatalogue → Refusal → Type 0
UnreadsStep tells image c r = UnreadsInPairs tells image c r ⊎ (AllStay tells image c (length c) × UnreadsMoving tells image c r)
