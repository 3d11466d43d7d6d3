-- The contents of the disk while a change or a command is carried out, and after it.
use Rattle.std.specs.Prelude.{◌≡◌, ◌≢◌, ◌⊎◌, ◌<◌, ◌+◌, ◌%◌, ◌++◌, ℕ, true, List, [], ◌∷◌, Ok}
use Rattle.sector_dev.specs.Disk.{Disk, Image, shown_image}
use Rattle.sector_dev.specs.Time.{LeavesOnly}
use Rattle.segments.specs.Runs.{OutOf}
use Rattle.segments.specs.declared.run.Run.{Run}
use Rattle.catalogue.specs.Entries.{PlainCatalogue}
use Rattle.commit.specs.declared.sector.Commit.{Commit}
use Rattle.commit.specs.Placing.{Takes}
use Rattle.commit.specs.Standing.{rules, standing, used_runs, InSome}
use Rattle.tables.specs.Commands.{PlainCommand}
use Rattle.pages.specs.Stored.{stored_reading}
use Rattle.store_runs.specs.Deciding.{IsDecided}
use Rattle.store_runs.specs.Changes.{PlainChange, placed_segments, HoldsStreams}
use Rattle.store_runs.specs.Carrying.{asked_sizes, placed, commit_placed}

-- on an image a change was carried out: the lowest free runs were taken besides those in use, the next commit rules with the edited catalogue, and its
-- new segments hold their streams
pub record HasCarried (size : ℕ) (used : Run → Type 0) (k : Commit) (c : PlainCatalogue) (change : PlainChange) (image : Image) : Type 0 where
  pub places : List Run
  pub text : Run
  pub takes : Takes size used (asked_sizes k.version c change) (Ok (places ++ text ∷ []))
  pub stands : standing stored_reading size image ≡ rules (commit_placed k c change text) (placed k.version c change places)
  pub holds : HoldsStreams image (placed_segments k.version places change.streams change.counts) change.streams change.counts

-- what a stop during it leaves: the old commit and catalogue, or the change carried out; and the runs of the old catalogue still have their contents
pub record IsOldOrCarried (size : ℕ) (used : Run → Type 0) (k : Commit) (c : PlainCatalogue) (before : Disk) (change : PlainChange) (image : Image) : Type 0 where
  pub which : (standing stored_reading size image ≡ rules k c) ⊎ HasCarried size used k c change image
  pub kept : (n : ℕ) → InSome (used_runs stored_reading k c) n → image n ≡ (before.at n).synced

-- runs were taken for it, and outside them only the sector of the next commit was written
pub record IsTaking (size : ℕ) (used : Run → Type 0) (k : Commit) (c : PlainCatalogue) (before : Disk) (change : PlainChange) (d : Disk) : Type 0 where
  pub runs : List Run
  pub takes : Takes size used (asked_sizes k.version c change) (Ok runs)
  pub outside : (n : ℕ) → OutOf runs n → n ≢ (k.epoch + 1) % 2 → d.at n ≡ before.at n

-- at a moment of it: the disk is as it was, or a write has begun
pub record IsCarrying (size : ℕ) (used : Run → Type 0) (k : Commit) (c : PlainCatalogue) (before : Disk) (change : PlainChange) (d : Disk) : Type 0 where
  pub touches : (d ≡ before) ⊎ IsTaking size used k c before change d
  pub begun : (d ≡ before) ⊎ (before.writes < d.writes)
  pub leaves : LeavesOnly (IsOldOrCarried size used k c before change) d

-- on an image a command was carried out: the lowest free runs were taken besides those in use, the next commit rules with the catalogue that was decided,
-- and its new segments hold their streams
pub record HasDone (size : ℕ) (used : Run → Type 0) (k : Commit) (c : PlainCatalogue) (before : Disk) (command : PlainCommand) (image : Image) : Type 0 where
  pub change : PlainChange
  pub decides : IsDecided true (shown_image before) c command (Ok change)
  pub places : List Run
  pub text : Run
  pub takes : Takes size used (asked_sizes k.version c change) (Ok (places ++ text ∷ []))
  pub stands : standing stored_reading size image ≡ rules (commit_placed k c change text) (placed k.version c change places)
  pub holds : HoldsStreams image (placed_segments k.version places change.streams change.counts) change.streams change.counts

-- what a stop during a command leaves: the old commit and catalogue, or the command carried out; and the runs of the old catalogue still have their
-- contents
pub record IsOldOrDone (size : ℕ) (used : Run → Type 0) (k : Commit) (c : PlainCatalogue) (before : Disk) (command : PlainCommand) (image : Image) : Type 0 where
  pub which : (standing stored_reading size image ≡ rules k c) ⊎ HasDone size used k c before command image
  pub kept : (n : ℕ) → InSome (used_runs stored_reading k c) n → image n ≡ (before.at n).synced

-- a command writes: runs were taken for its decided change, and outside them only the sector of the next commit was written
pub record IsWriting (size : ℕ) (used : Run → Type 0) (k : Commit) (c : PlainCatalogue) (before : Disk) (command : PlainCommand) (d : Disk) : Type 0 where
  pub change : PlainChange
  pub decides : IsDecided true (shown_image before) c command (Ok change)
  pub runs : List Run
  pub takes : Takes size used (asked_sizes k.version c change) (Ok runs)
  pub outside : (n : ℕ) → OutOf runs n → n ≢ (k.epoch + 1) % 2 → d.at n ≡ before.at n

-- at a moment of a command: the disk is as it was, or the command writes; and each image that a stop may leave is an old one or has the command applied
pub record IsApplying (size : ℕ) (used : Run → Type 0) (k : Commit) (c : PlainCatalogue) (before : Disk) (command : PlainCommand) (d : Disk) : Type 0 where
  pub touches : (d ≡ before) ⊎ IsWriting size used k c before command d
  pub leaves : LeavesOnly (IsOldOrDone size used k c before command) d
