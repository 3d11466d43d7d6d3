-- Several commands, one after another, before anything is written: the streams of their new segments stand in memory, and count as placed one after another
-- behind all other sectors.
use Rattle.std.specs.Prelude.{◌≡◌, ◌≤◌, ◌<◌, ◌+◌, ◌-◌, ◌++◌, ℕ, true, if◌then◌else◌, nat_lt, List, [], ◌∷◌, length, map, get_or, slice_get, Option, Some, None}
use Rattle.std.specs.List.{AllByRecursion}
use Rattle.sector_dev.specs.Disk.{Image}
use Rattle.segments.specs.declared.run.Run.{Run}
use Rattle.segments.specs.declared.extent.Extent.{Extent}
use Rattle.segments.specs.Sectors.{sector_count, sector_of}
use Rattle.catalogue.specs.declared.entry.Segment.{Segment}
use Rattle.catalogue.specs.declared.entry.SegmentForm.{SegmentForm}
use Rattle.catalogue.specs.Entries.{PlainEntry, PlainCatalogue, runs_of, has_digests, has_form, IsCatalogue}
use Rattle.catalogue.specs.View.{catalogue_of}
use Rattle.commit.specs.Placing.{times_among}
use Rattle.store_runs.specs.Changes.{HasPageOf}
use Rattle.store_runs.specs.Filling.{placed_in, new_in}
use Rattle.store_runs.specs.Deciding.{AreBefore}
use Rattle.store_changes.specs.declared.drafting.Draft.{Draft}

-- ---- streams one after another from a sector on

-- the sector behind them
abbrev pub end_of : (next : ℕ) → List (List ℕ) → ℕ
end_of next [] = next
end_of next (s ∷ ss) = end_of (next + sector_count (length s)) ss

-- where each starts
abbrev pub starts_from : (next : ℕ) → List (List ℕ) → List ℕ
starts_from next [] = []
starts_from next (s ∷ ss) = next ∷ starts_from (next + sector_count (length s)) ss

abbrev pub places_from : (next : ℕ) → List (List ℕ) → List Run
places_from next [] = []
places_from next (s ∷ ss) = record { start = next; count = sector_count (length s) } ∷ places_from (next + sector_count (length s)) ss

-- an image over which they are laid
abbrev pub with_stream : (next : ℕ) → List ℕ → Image → Image
with_stream next s image = λ n. if nat_lt n next then image n else Some (sector_of s (n - next))

abbrev pub laid : (next : ℕ) → List (List ℕ) → Image → Image
laid next [] image = image
laid next (s ∷ ss) image = laid (next + sector_count (length s)) ss (with_stream next s image)

-- ---- a draft

-- the stream of a segment without a digest is among those that start here
pub record HasStream (starts : List ℕ) (streams : List (List ℕ)) (g : Segment) : Type 0 where
  pub place : ℕ
  pub starts_at : slice_get starts place ≡ Some g.place.run.start
  pub stream : List ℕ
  pub is : slice_get streams place ≡ Some stream
  pub size : length stream ≡ g.place.bytes
  pub bare : g.digest ≡ None

abbrev pub HasOldPage : (from : ℕ) → PlainCatalogue → PlainEntry → Type 0
HasOldPage from old e = (page : Extent) → e.page ≡ Some page → HasPageOf from old e page

-- the catalogue as the commands so far leave it: its segments from sector `from` on are new, and have these streams; the runs in `gone` are those of the old
-- catalogue that it no longer names
pub record IsDrafted (from : ℕ) (old made : PlainCatalogue) (gone : List Run) (streams : List (List ℕ)) : Type 0 where
  pub began : IsCatalogue old
  pub stands : IsCatalogue made
  pub before : AreBefore from (runs_of old)
  pub lies : AreBefore (end_of from streams) (runs_of made)
  pub runs : (run : Run) → run.start < from → times_among (runs_of made) run + times_among gone run ≡ times_among (runs_of old) run
  pub low : (run : Run) → from ≤ run.start → times_among gone run ≡ 0
  pub order : AllByRecursion (λ (e : PlainEntry). e.segments ≡ placed_in from e.segments ++ new_in from e.segments) made
  pub forms : (form : SegmentForm) → has_form form old ≡ true → AllByRecursion (λ (e : PlainEntry). has_digests form (placed_in from e.segments) ≡ true) made
  pub pages : AllByRecursion (HasOldPage from old) made
  pub some : AllByRecursion (λ (s : List ℕ). 1 ≤ length s) streams
  pub kept : AllByRecursion (λ (e : PlainEntry). AllByRecursion (HasStream (starts_from from streams) streams) (new_in from e.segments)) made

abbrev pub streams_of : Draft → List (List ℕ)
streams_of d = map (λ s. s.items) d.streams.items

pub record IsDraft (d : Draft) : Type 0 where
  pub drafted : IsDrafted d.from (catalogue_of d.old) (catalogue_of d.made) d.gone.items (streams_of d)
  pub starts : d.starts.items ≡ starts_from d.from (streams_of d)
  pub next : d.next ≡ end_of d.from (streams_of d)

-- these are the places of the streams of segments
abbrev pub ArePlaces : (starts : List ℕ) → List Segment → (places : List ℕ) → Type 0
ArePlaces starts [] places = places ≡ []
ArePlaces starts (g ∷ gs) [] = ⊥
ArePlaces starts (g ∷ gs) (p ∷ ps) = (slice_get starts p ≡ Some g.place.run.start) × ArePlaces starts gs ps
