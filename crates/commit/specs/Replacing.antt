-- Replacing a store by another one, whatever a crash leaves.
use Rattle.std.specs.Prelude.{◌≡◌, ◌⊎◌, ◌≤◌, ℕ, true, List, [], ◌∷◌, length, None, Ok}
use Rattle.sector_dev.specs.Disk.{Disk, Image, Story, now, moment, synced_image, LeftSince}
use Rattle.sector_dev.specs.Time.{Grows}
use Rattle.segments.specs.Runs.{OutOf}
use Rattle.segments.specs.Writing.{runs_of, HoldsEach}
use Rattle.segments.specs.declared.run.Run.{Run}
use Rattle.segments.specs.Pieces.{PlainPiece, plain_pieces}
use Rattle.commit.specs.declared.sector.Commit.{Commit}
use Rattle.commit.specs.declared.recovery.Opened.{Opened}
use Rattle.commit.specs.declared.publishing.Plan.{Plan}
use Rattle.commit.specs.Agreeing.{commits_agree}
use Rattle.commit.specs.Standing.{Reading, rules, is_extent, used_runs, runs_fault, standing, Stands, InSome}
use Rattle.commit.specs.Publishing.{IsOldOrNew, IsPublishing, IsPublished}

-- the old commit and catalogue, the new ones, and the pieces that are written for them
pub record Change (C : Type 0) : Type 0 where
  pub old : Commit
  pub was : C
  pub new : Commit
  pub will : C
  pub pieces : List PlainPiece

-- the change that a plan makes to an open store
abbrev pub change_of : {A C : Type 0} → (A → C) → Opened A → Plan A → Change C
change_of plain_of store plan = record { old = store.commit; was = plain_of store.catalogue; new = plan.commit; will = plain_of plan.catalogue; pieces = plain_pieces plan.pieces.items }

-- these bytes are one of the pieces, in this run
abbrev pub IsPieceOf : List PlainPiece → Run → List ℕ → Type 0
IsPieceOf [] run bytes = ⊥
IsPieceOf (p ∷ ps) run bytes = ((p.run ≡ run) × (p.bytes ≡ bytes)) ⊎ IsPieceOf ps run bytes

-- the pieces make the new catalogue: its text is one of them, it can be read from each image that holds them and is otherwise unchanged, and its runs
-- can be in use
pub record IsMade {C : Type 0} (reading : Reading C) (size : ℕ) (before : Image) (change : Change C) : Type 0 where
  pub device : change.new.device_sectors ≡ size
  pub extent : is_extent size 4 change.new.catalogue ≡ true
  pub text : List ℕ
  pub whole : length text ≡ change.new.catalogue.bytes
  pub written : IsPieceOf change.pieces change.new.catalogue.run text
  pub read : (image : Image) → HoldsEach image change.pieces → ((n : ℕ) → 2 ≤ n → OutOf (runs_of change.pieces) n → image n ≡ before n) → reading.at size image change.new text ≡ Ok change.will
  pub fit : runs_fault size change.new.catalogue.run (reading.runs change.will) ≡ None

-- a store can be replaced: no piece lies over one of its runs, and the pieces make the new catalogue
pub record CanReplace {C : Type 0} (reading : Reading C) (size : ℕ) (before : Disk) (change : Change C) : Type 0 where
  pub stands : Stands reading size before change.old change.was
  pub free : (n : ℕ) → InSome (used_runs reading change.old change.was) n → OutOf (runs_of change.pieces) n
  pub made : IsMade reading size (synced_image before) change

-- opening the image finds this commit and this catalogue
abbrev pub StandsAs : {C : Type 0} → Reading C → ℕ → Commit → C → Image → Type 0
StandsAs reading size k c image = standing reading size image ≡ rules k c

-- the image opens as the old store, or as the new one with all of its pieces
abbrev pub StandsAsEither : {C : Type 0} → Reading C → ℕ → Change C → Disk → Image → Type 0
StandsAsEither reading size change before = IsOldOrNew before change.new change.pieces (StandsAs reading size change.old change.was) (StandsAs reading size change.new change.will)

-- at each moment
abbrev pub Replaces : {C : Type 0} → Reading C → ℕ → Change C → Story → Story → Type 0
Replaces reading size change before after =
    CanReplace reading size (now before) change
    → Grows (IsPublishing (now before) change.new change.pieces (StandsAs reading size change.old change.was) (StandsAs reading size change.new change.will)) before after

-- for each image that a crash may have left since the beginning
abbrev pub LeavesEither : {C : Type 0} → Reading C → ℕ → Change C → Story → Story → Type 0
LeavesEither reading size change before after = CanReplace reading size (now before) change → (image : Image) → LeftSince after (moment before) image → StandsAsEither reading size change (now before) image

-- if the commit sectors agreed before, they do so in each of those images
abbrev pub KeepsAgreement : {C : Type 0} → Reading C → ℕ → Change C → Story → Story → Type 0
KeepsAgreement reading size change before after =
    CanReplace reading size (now before) change
    → commits_agree (synced_image (now before)) ≡ true → (image : Image) → LeftSince after (moment before) image → commits_agree image ≡ true

-- and at its end, if it succeeded
abbrev pub EndsReplaced : {C : Type 0} → Reading C → ℕ → Change C → Story → Story → Type 0
EndsReplaced reading size change before after =
    CanReplace reading size (now before) change → IsPublished (now before) change.new change.pieces (StandsAs reading size change.new change.will) (now after)
