-- How a change of a catalogue is carried out: the runs that it needs, and how it ends.
use Rattle.std.specs.Prelude.{◌≡◌, ◌<◌, ◌≤◌, ◌-◌, ◌^◌, ◌++◌, ◌||◌, ℕ, true, List, [], ◌∷◌, length, drop, Result, Ok, Err}
use Rattle.sector_dev.specs.Disk.{Disk, shown_image}
use Rattle.segments.specs.Sectors.{sector_count}
use Rattle.segments.specs.declared.run.Run.{Run}
use Rattle.catalogue.specs.declared.limits.TheConstants.{MAX_SEGMENTS}
use Rattle.catalogue.specs.declared.entry.Segment.{Segment}
use Rattle.catalogue.specs.Entries.{PlainCatalogue, segment_count}
use Rattle.commit.specs.declared.sector.Commit.{Commit}
use Rattle.commit.specs.declared.sector.FormatVersion.{FormatVersion}
use Rattle.commit.specs.Publishing.{next_commit}
use Rattle.commit.specs.Placing.{Takes, is_among, counts_of}
use Rattle.commit.specs.Standing.{rules, standing, used_runs}
use Rattle.tables.specs.declared.refusal.Refusal.{Refusal}
use Rattle.tables.specs.declared.refusal.Refusal.TheVariants as refusals
use Rattle.tables.specs.declared.refusal.Limit.TheVariants as limits
use Rattle.pages.specs.Stored.{stored_reading}
use Rattle.pages.specs.Paging.{kind_of, page_sizes, text_size, settled}
use Rattle.store_runs.specs.Changes.{PlainChange, version_after, digest_for, edited, placed_segments}

-- new segments whose places are not known yet
abbrev pub unplaced : FormatVersion → (streams : List (List ℕ)) → (counts : List ℕ) → List Segment
unplaced version [] counts = []
unplaced version (stream ∷ streams) [] = []
unplaced version (stream ∷ streams) (count ∷ counts) =
    record {
      place = record { run = record { start = 0; count = sector_count (length stream) }; bytes = length stream };
      rows = count;
      digest = digest_for version stream;
    }
    ∷ unplaced version streams counts

-- the catalogue after a change of one of this version, without the places of its new segments
abbrev pub outline : FormatVersion → PlainCatalogue → PlainChange → PlainCatalogue
outline version c change = edited c change.edit (unplaced version change.streams change.counts)

-- the numbers of sectors that are needed: for each stream in order, then for each page that is written, by name, and then for the catalogue's text
abbrev pub asked_sizes : FormatVersion → PlainCatalogue → PlainChange → List ℕ
asked_sizes version c change = counts_of change.streams (page_sizes (outline version c change)) (text_size (outline version c change))

-- the catalogue after the change, with its new segments in the first of these runs and its new pages in the others
abbrev pub placed : FormatVersion → PlainCatalogue → PlainChange → List Run → PlainCatalogue
placed version c change places =
    settled (edited c change.edit (placed_segments version places change.streams change.counts)) (drop (length change.streams) places)

-- the commit after the change, with the catalogue's text in this run
abbrev pub commit_placed : Commit → PlainCatalogue → PlainChange → Run → Commit
commit_placed k c change text = next_commit k (version_after change.edit k.version) (kind_of (outline k.version c change)) text (text_size (outline k.version c change))

-- an epoch after this one has 64 bits
abbrev pub HasNext : Commit → Type 0
HasNext k = k.epoch < 2 ^ 64 - 1

-- how a change of this catalogue ends while these runs are in use, and the commit and the catalogue after it; each refusal has one reason, tested in
-- order, and the device is written to only after these tests
abbrev pub IsCarried : (size : ℕ) → (used : Run → Type 0) → Commit → PlainCatalogue → PlainChange → Result (Unit {0}) Refusal → Commit → PlainCatalogue → Type 0
IsCarried size used k c change (Ok unit) k' c' =
    HasNext k × (segment_count (outline k.version c change) ≤ MAX_SEGMENTS)
    × ((places : List Run) × (text : Run) × Takes size used (asked_sizes k.version c change) (Ok (places ++ text ∷ []))
    × (c' ≡ placed k.version c change places) × (k' ≡ commit_placed k c change text))
IsCarried size used k c change (Err (refusals.TooMany limits.Epochs)) k' c' = k.epoch ≡ 2 ^ 64 - 1
IsCarried size used k c change (Err (refusals.TooMany limits.Segments)) k' c' = HasNext k × (MAX_SEGMENTS < segment_count (outline k.version c change))
IsCarried size used k c change (Err (refusals.NoRoom count)) k' c' =
    HasNext k × (segment_count (outline k.version c change) ≤ MAX_SEGMENTS) × Takes size used (asked_sizes k.version c change) (Err count)
IsCarried size used k c change (Err refusals.Device) k' c' =
    HasNext k × (segment_count (outline k.version c change) ≤ MAX_SEGMENTS) × ((runs : List Run) × Takes size used (asked_sizes k.version c change) (Ok runs))
IsCarried size used k c change (Err refusals.OutOfMemory) k' c' = Unit {0}
IsCarried size used k c change (Err _) k' c' = ⊥

-- a run is that of the catalogue's text, one that the catalogue names, or pinned by an open export
abbrev pub IsInUse : Commit → PlainCatalogue → (pinned : List Run) → Run → Type 0
IsInUse k c pinned run = (is_among (used_runs stored_reading k c) run || is_among pinned run) ≡ true

-- how a call ended that decided on a change, by what reads showed when it was called and after it: `Decides` holds for the commit, the catalogue and the change
pub record IsCarriedOut (size : ℕ) (pinned : List Run) (before after : Disk) (Decides : Commit → PlainCatalogue → PlainChange → Type 0)
    (result : Result (Unit {0}) Refusal) : Type 0 where
  pub commit : Commit
  pub catalogue : PlainCatalogue
  pub stood : standing stored_reading size (shown_image before) ≡ rules commit catalogue
  pub change : PlainChange
  pub decides : Decides commit catalogue change
  pub new_commit : Commit
  pub new_catalogue : PlainCatalogue
  pub stands : standing stored_reading size (shown_image after) ≡ rules new_commit new_catalogue
  pub carried : IsCarried size (IsInUse commit catalogue pinned) commit catalogue change result new_commit new_catalogue

-- a call that had nothing to change: `P` holds for the commit and the catalogue that reads showed when it was called
pub record HasNoChange (size : ℕ) (before : Disk) (P : Commit → PlainCatalogue → Type 0) : Type 0 where
  pub commit : Commit
  pub catalogue : PlainCatalogue
  pub stood : standing stored_reading size (shown_image before) ≡ rules commit catalogue
  pub is : P commit catalogue
