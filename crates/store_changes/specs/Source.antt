-- What segments are read from.
use Rattle.std.specs.Prelude.{◌≡◌, ◌⊎◌, ℕ, Bool, true, List, [], length, slice_get, Some, None}
use Rattle.std.specs.List.{AllByRecursion}
use Rattle.sector_dev.specs.Disk.{Disk, Story, shown_image}
use Rattle.sector_dev.specs.Time.{OnlyReads}
use Rattle.segments.specs.declared.extent.Extent.{Extent}
use Rattle.catalogue.specs.declared.entry.Segment.{Segment}
use Rattle.commit.specs.Standing.{is_on_device}
use Rattle.store_changes.specs.declared.drafting.Draft.{Draft}
use Rattle.store_changes.specs.Draft.{starts_from, laid, IsDraft, streams_of}

-- each of these segments can be read
abbrev pub AreReadable : (can_read : Extent → Type 0) → List Segment → Type 0
AreReadable can_read segments = AllByRecursion (λ (g : Segment). can_read g.place) segments

-- ---- the streams of a draft behind the last sector of a device

-- a disk as reads show it with streams from this sector on
abbrev pub disk_laid : (from : ℕ) → List (List ℕ) → Disk → Disk
disk_laid from streams d = record { at = λ n. record { synced = None; pending = []; shown = laid from streams (shown_image d) n }; writes = d.writes }

-- the bytes in this place are one of these streams
pub record AreStream (from : ℕ) (streams : List (List ℕ)) (place : Extent) : Type 0 where
  pub at : ℕ
  pub stream : List ℕ
  pub starts : slice_get (starts_from from streams) at ≡ Some place.run.start
  pub is : slice_get streams at ≡ Some stream
  pub size : length stream ≡ place.bytes

-- they lie on a device of this size, or are a stream of a draft that begins behind it
pub record AreInDraft (size : ℕ) (d : Draft) (place : Extent) : Type 0 where
  pub draft : IsDraft d
  pub begins : d.from ≡ size
  pub lie : (is_on_device size place.run ≡ true) ⊎ AreStream d.from (streams_of d) place

-- reads of the device below: it is the same one
pub record ReadsBelow {D : Type 0} (size : D → ℕ) (story : D → Story) (tells : Bool) (name other_name : ℕ) (old new : D) : Type 0 where
  pub named : other_name ≡ name
  pub same : size new ≡ size old
  pub moments : tells ≡ true → OnlyReads (story old) (story new)
