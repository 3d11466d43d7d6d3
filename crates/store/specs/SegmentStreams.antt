-- The streams of single segments, byte for byte.
use Rattle.std.specs.Prelude.{◌≡◌, ◌++◌, ℕ, Bool, true, false, List, [], ◌∷◌, Option, Some, None, slice_get}
use Rattle.sha2.specs.Sha256.{sha256}
use Rattle.sector_dev.specs.Disk.{Image}
use Rattle.arrow_schema.specs.Column.{PlainSchema}
use Rattle.cells.specs.Cell.{Cell}
use Rattle.catalogue.specs.declared.entry.Segment.{Segment}
use Rattle.catalogue.specs.Entries.{PlainEntry}
use Rattle.tables.specs.declared.refusal.Refusal.{Refusal}
use Rattle.tables.specs.declared.refusal.Refusal.TheVariants as refusals
use Rattle.store_runs.specs.Held.{rows_in_bytes}
use Rattle.store_runs.specs.Reading.{IsCopy, LacksRows}
use Rattle.store.specs.declared.segment_streams.SegmentInfo.{SegmentInfo}
use Rattle.store.specs.declared.segment_streams.SegmentStream.{SegmentStream}

-- a segment as its entry lists it
abbrev pub info_of : Segment → SegmentInfo
info_of g = record { digest = g.digest; bytes = g.place.bytes; rows = g.rows }

-- the stream of a segment: the bytes that were read of it, with their digest, which is that of the entry if it has one; they mean its rows
pub record HasStream (tells : Bool) (image : Image) (schema : PlainSchema) (g : Segment) (digest stream : List ℕ) : Type 0 where
  pub copy : IsCopy tells image g stream
  pub digested : digest ≡ sha256 stream
  pub rows : List (List Cell)
  pub means : rows_in_bytes schema g.rows (Some stream) ≡ Some rows

-- the stream of the segment at a place of an entry, if it has one there
abbrev pub IsStreamAt : (tells : Bool) → Image → PlainSchema → Option Segment → SegmentStream → Type 0
IsStreamAt tells image schema None stream = ⊥
IsStreamAt tells image schema (Some g) stream = HasStream tells image schema g stream.digest stream.bytes.items

abbrev pub EntryHasStream : (tells : Bool) → Image → PlainEntry → (place : ℕ) → SegmentStream → Type 0
EntryHasStream tells image e place stream = IsStreamAt tells image e.schema (slice_get e.segments place) stream

-- why it is not returned
abbrev pub RefusesAt : (tells : Bool) → Image → PlainSchema → Option Segment → (place : ℕ) → Refusal → Type 0
RefusesAt tells image schema None place r = r ≡ refusals.SegmentUnread place
RefusesAt tells image schema (Some g) place r = LacksRows tells image schema g place r

abbrev pub RefusesPlace : (tells : Bool) → Image → PlainEntry → (place : ℕ) → Refusal → Type 0
RefusesPlace tells image e place r = RefusesAt tells image e.schema (slice_get e.segments place) place r

-- the same for the table of a name, with this entry if there is one
abbrev pub StreamsAt : (halted tells : Bool) → Image → Option PlainEntry → (place : ℕ) → SegmentStream → Type 0
StreamsAt true tells image found place stream = ⊥
StreamsAt false tells image None place stream = ⊥
StreamsAt false tells image (Some e) place stream = EntryHasStream tells image e place stream

abbrev pub RefusesStream : (halted tells : Bool) → Image → Option PlainEntry → (place : ℕ) → Refusal → Type 0
RefusesStream true tells image found place r = r ≡ refusals.Halted
RefusesStream false tells image None place r = r ≡ refusals.NoTable
RefusesStream false tells image (Some e) place r = RefusesPlace tells image e place r

-- the streams of segments, one after another, and the rows that they mean
abbrev pub HaveStreams : Image → PlainSchema → List Segment → (streams : List (List ℕ)) → (rows : List (List Cell)) → Type 0
HaveStreams image schema [] [] rows = rows ≡ []
HaveStreams image schema (g ∷ gs) (stream ∷ streams) rows =
    (digest : List ℕ) × (has : HasStream true image schema g digest stream) × (others : List (List Cell)) × HaveStreams image schema gs streams others
    × (rows ≡ has.rows ++ others)
HaveStreams image schema _ _ rows = ⊥
