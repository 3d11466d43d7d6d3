-- A change to publish: its runs are taken, and its plan is made.
use Rattle.std.specs.Prelude.{◌≡◌, ◌≤◌, ◌+◌, ℕ, true, List, [], ◌∷◌, ◌++◌, length, Ok}
use Rattle.sector_dev.specs.Disk.{Image}
use Rattle.segments.specs.declared.errors.TakeError.{TakeError}
use Rattle.segments.specs.declared.errors.TakeError.TheVariants as takings
use Rattle.segments.specs.declared.run.Run.{Run}
use Rattle.segments.specs.Pieces.{PlainPiece, plain_pieces}
use Rattle.segments.specs.Runs.{OutOf}
use Rattle.segments.specs.Usages.{Space}
use Rattle.segments.specs.Writing.{runs_of, HoldsEach}
use Rattle.arrow_schema.specs.Limits.{IsWithinLimits}
use Rattle.catalogue.specs.declared.limits.TheConstants.{MAX_SEGMENTS}
use Rattle.catalogue.specs.declared.entry.Segment.{Segment}
use Rattle.catalogue.specs.Entries.{PlainEntry, PlainCatalogue, segment_count, has_form, runs_of as catalogue_runs}
use Rattle.catalogue.specs.View.{catalogue_of}
use Rattle.commit.specs.declared.sector.Commit.{Commit}
use Rattle.commit.specs.declared.sector.FormatVersion.{FormatVersion}
use Rattle.commit.specs.declared.publishing.Plan.{Plan}
use Rattle.commit.specs.Placing.{contents_of}
use Rattle.commit.specs.Publishing.{IsPlan}
use Rattle.commit.specs.Standing.{rules, standing, InSome}
use Rattle.commit.specs.laws.Taking.{TookAll}
use Rattle.tables.specs.declared.refusal.Refusal.{Refusal}
use Rattle.tables.specs.declared.refusal.Refusal.TheVariants as refusals
use Rattle.pages.specs.declared.stored.StoredCatalogue.{StoredCatalogue}
use Rattle.store_runs.specs.Changes.{PlainEdit, put, extend, move, remove, exchange, digest, rebuild, PlainChange, version_after, edited, given_up, placed_segments}
use Rattle.store_changes.specs.laws.EditedEach.{OneSchema}
use Rattle.store_runs.specs.Carrying.{HasNext, asked_sizes, unplaced, outline, commit_placed}
use Rattle.pages.specs.Stored.{stored_reading, form_of, by_kind}
use Rattle.pages.specs.Paging.{kind_of, text_size, ArePageRuns, settled, dropped_pages}

-- the catalogue with its new segments in these runs, and with new pages that have no runs yet
abbrev pub unpaged : FormatVersion → PlainCatalogue → PlainChange → List Run → PlainCatalogue
unpaged version c change places = edited c change.edit (placed_segments version places change.streams change.counts)

-- segments without places, in these runs, in order
abbrev pub in_runs : List Run → List Segment → List Segment
in_runs [] segments = []
in_runs (run ∷ runs) [] = []
in_runs (run ∷ runs) (s ∷ ss) = record { place = record { run = run; bytes = s.place.bytes }; rows = s.rows; digest = s.digest } ∷ in_runs runs ss

-- the condition of an edit on the entry that it changes
abbrev pub CanGive : PlainEdit → PlainEntry → Type 0
CanGive (put name schema) e = IsWithinLimits schema
CanGive (extend name) e = Unit {0}
CanGive (move from to) e = Unit {0}
CanGive (remove name) e = Unit {0}
CanGive (exchange name place count) e = place + count ≤ length e.segments
CanGive (digest digests) e = Unit {0}
CanGive (rebuild old from made gone) e = Unit {0}

-- the refusal of a command for which no run is taken
abbrev pub taking_refusal : TakeError → Refusal
taking_refusal (takings.NoRoom count) = refusals.NoRoom count
taking_refusal takings.OutOfMemory = refusals.OutOfMemory

-- an image that holds all pieces of a plan, and the old contents elsewhere, is read as the new catalogue, if the pages that remain were not written
abbrev pub ReadsAgain : (size : ℕ) → Commit → (version : FormatVersion) → PlainCatalogue → (made : PlainCatalogue) → (pages : List Run) → (text : List ℕ) → List PlainPiece → Type 0
ReadsAgain size k version c made pages text pieces =
    (before image : Image) → standing stored_reading size before ≡ rules k c → HoldsEach image pieces
    → ((n : ℕ) → 2 ≤ n → OutOf (runs_of pieces) n → image n ≡ before n) → ((n : ℕ) → InSome (catalogue_runs c) n → OutOf (runs_of pieces) n)
    → by_kind (kind_of made) (form_of version) size image text ≡ Ok (settled made pages)

-- runs were taken for the streams, the pages and the catalogue's text, and the plan has them as its pieces; `back` are the runs that become free after
-- it was published
pub record IsPrepared (old new : Space) (k : Commit) (c : PlainCatalogue) (change : PlainChange) (plan : Plan StoredCatalogue) (back : List Run) : Type 0 where
  pub next : HasNext k
  pub few : segment_count (outline k.version c change) ≤ MAX_SEGMENTS
  pub messages : OneSchema
  pub pieces : List PlainPiece
  pub pages : List PlainPiece
  pub run : Run
  pub text : List ℕ
  pub took : TookAll old new (asked_sizes k.version c change) (runs_of (pieces ++ pages) ++ run ∷ [])
  pub streams : contents_of pieces ≡ change.streams
  pub placed : ArePageRuns (unpaged k.version c change (runs_of pieces)) (runs_of pages)
  pub whole : plain_pieces plan.pieces.items ≡ (pieces ++ pages) ++ record { run = run; bytes = text } ∷ []
  pub runs : plan.runs.items ≡ runs_of (pieces ++ pages) ++ run ∷ []
  pub catalogue : catalogue_of plan.catalogue.list ≡ settled (unpaged k.version c change (runs_of pieces)) (runs_of pages)
  pub form : has_form (form_of k.version) c ≡ true → has_form (form_of (version_after change.edit k.version)) (catalogue_of plan.catalogue.list) ≡ true
  pub size : length text ≡ text_size (outline k.version c change)
  pub commit : plan.commit ≡ commit_placed k c change run
  pub gives : back ≡ given_up c change.edit (unplaced k.version change.streams change.counts) ++ (dropped_pages (outline k.version c change) ++ k.catalogue.run ∷ [])
  pub reads : ReadsAgain old.size k (version_after change.edit k.version) c (unpaged k.version c change (runs_of pieces)) (runs_of pages) text (plain_pieces plan.pieces.items)
  pub publishes : IsPlan old.size k plan.commit (plain_pieces plan.pieces.items)
