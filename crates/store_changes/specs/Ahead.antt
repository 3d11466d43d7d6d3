-- Segments that are read ahead of their turn.
use Rattle.std.specs.Prelude.{◌≡◌, ◌<◌, ◌+◌, ℕ, Bool, true, List, length, get_or, Some, IfSome}
use Rattle.std.specs.List.{list_all}
use Rattle.sector_dev.specs.Disk.{Image}
use Rattle.segments.specs.declared.extent.Extent.{Extent}
use Rattle.catalogue.specs.declared.entry.Segment.{Segment}
use Rattle.catalogue.specs.Entries.{is_segment}
use Rattle.store_runs.specs.Held.{bytes_of}
use Rattle.store_runs.specs.Reading.{IsCopy}
use Rattle.store_changes.specs.declared.ahead.Early.{Early}
use Rattle.store_changes.specs.declared.ahead.ReadAhead.{ReadAhead}
use Rattle.store_changes.specs.Source.{AreReadable}
use Rattle.store_changes.specs.laws.ReadTables.{no_segment}

-- the segment at a place; past the last one, one without bytes
abbrev pub segment_at : List Segment → (place : ℕ) → Segment
segment_at segments place = get_or segments place no_segment

-- bytes that were read of a segment, whatever their digest: as many as its entry says; if the device tells its story, they are
-- the bytes in the segment
pub record HasBytes (tells : Bool) (image : Image) (g : Segment) (bytes : List ℕ) : Type 0 where
  pub count : length bytes ≡ g.place.bytes
  pub held : tells ≡ true → bytes_of g image ≡ Some bytes

-- P holds of the bytes that were read early of each segment: of the one at this place, and of the two behind it
pub record EachEarly (P : Segment → List ℕ → Type 0) (segments : List Segment) (place : ℕ) (early : Early) : Type 0 where
  pub first : IfSome early.first (λ bytes. P (segment_at segments place) bytes.items)
  pub second : IfSome early.second (λ bytes. P (segment_at segments (place + 1)) bytes.items)
  pub third : IfSome early.third (λ bytes. P (segment_at segments (place + 2)) bytes.items)

-- the segments that are read in order
abbrev pub segments_ahead : ReadAhead → List Segment
segments_ahead ahead = ahead.segments.now

-- the one at a place
abbrev pub segment_ahead : ReadAhead → (place : ℕ) → Segment
segment_ahead ahead place = segment_at (segments_ahead ahead) place

-- it reads these segments, and the bytes that were read ahead of this place have the digests of theirs
pub record IsAhead (tells : Bool) (image : Image) (segments : List Segment) (place : ℕ) (ahead : ReadAhead) : Type 0 where
  pub same : segments_ahead ahead ≡ segments
  pub early : EachEarly (IsCopy tells image) segments place ahead.early

-- the segment at a place is the next of those that can be read
pub record IsNext (can_read : Extent → Type 0) (tells : Bool) (image : Image) (place : ℕ) (ahead : ReadAhead) : Type 0 where
  pub inside : place < length (segments_ahead ahead)
  pub readable : AreReadable can_read (segments_ahead ahead)
  pub sound : list_all is_segment (segments_ahead ahead) ≡ true
  pub early : EachEarly (IsCopy tells image) (segments_ahead ahead) place ahead.early
