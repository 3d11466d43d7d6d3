-- Segments of a table that are replaced by others, and how catalogues shrink.
use Rattle.std.specs.Prelude.{◌≡◌, ◌⊎◌, ◌<◌, ◌+◌, ℕ, true, List, [], ◌∷◌, flat_map, sum_by, Some}
use Rattle.std.specs.List.{AllByRecursion}
use Rattle.sector_dev.specs.Disk.{Image}
use Rattle.segments.specs.declared.run.Run.{Run}
use Rattle.catalogue.specs.declared.entry.Segment.{Segment}
use Rattle.catalogue.specs.Entries.{PlainEntry, PlainCatalogue, runs_in_segments, runs_of, segment_count}
use Rattle.catalogue.specs.Edits.{entry_of, from_place}
use Rattle.commit.specs.Standing.{all_on_device}
use Rattle.store_runs.specs.Held.{rows_held}

-- an image holds in the new segments the rows that it holds in the old ones
pub record HoldsSame (image : Image) (c : PlainCatalogue) (name : List ℕ) (place count : ℕ) (others : List Segment) : Type 0 where
  pub entry : PlainEntry
  pub found : entry_of c name ≡ Some entry
  pub same : rows_held entry.schema others image ≡ rows_held entry.schema (from_place entry.segments place count) image

-- ---- catalogues that shrink

-- the starts of all segments, without pages
abbrev pub starts_sum : PlainCatalogue → ℕ
starts_sum c = sum_by (λ (r : Run). r.start) (flat_map (λ (e : PlainEntry). runs_in_segments e.segments) c)

-- one segment fewer, or the same number with a lower sum of their starts
abbrev pub Shrinks : (old new : PlainCatalogue) → Type 0
Shrinks old new = (segment_count new + 1 ≡ segment_count old) ⊎ ((segment_count new ≡ segment_count old) × (starts_sum new < starts_sum old))

abbrev pub ShrinkInTurn : PlainCatalogue → List PlainCatalogue → Type 0
ShrinkInTurn c [] = Unit {0}
ShrinkInTurn c (d ∷ ds) = Shrinks c d × ShrinkInTurn d ds

abbrev pub AreOnDevice : ℕ → List PlainCatalogue → Type 0
AreOnDevice size cs = AllByRecursion (λ c. all_on_device size (runs_of c) ≡ true) cs
