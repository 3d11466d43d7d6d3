-- The possible contents of a disk while a commit is published.
use Rattle.std.specs.Prelude.{◌≡◌, ◌≢◌, ◌⊎◌, ◌<◌, ◌+◌, ◌%◌, ℕ, true, List, Option, Some, None}
use Rattle.sector_dev.specs.Disk.{Disk, Image, Story, now, synced_image}
use Rattle.sector_dev.specs.Time.{LeavesOnly, Grows}
use Rattle.segments.specs.Runs.{OutOf, AreApart, StartFrom}
use Rattle.segments.specs.Writing.{AllFit, runs_of, HoldsEach}
use Rattle.segments.specs.declared.run.Run.{Run}
use Rattle.segments.specs.Pieces.{PlainPiece}
use Rattle.commit.specs.declared.sector.CatalogueKind.{CatalogueKind}
use Rattle.commit.specs.declared.sector.FormatVersion.{FormatVersion}
use Rattle.commit.specs.declared.sector.Commit.{Commit}
use Rattle.commit.specs.Sector.{commit_text, IsCommit}
use Rattle.commit.specs.Ruling.{ruling, IsQuiet, Rests}
use Rattle.commit.specs.Standing.{is_size}

-- the commit after k, of this version and kind, whose catalogue has a text of `bytes` bytes in this run
abbrev pub next_commit : Commit → FormatVersion → CatalogueKind → Run → ℕ → Commit
next_commit k version kind run bytes = record {
  epoch = k.epoch + 1;
  catalogue = record { run = run; bytes = bytes };
  device_sectors = k.device_sectors;
  version = version;
  kind = kind;
}

-- what can be published on a device of this size: pieces that fit into their runs, which lie after the commit sectors and apart from one another, and
-- a commit of the next epoch
pub record IsPlan (size : ℕ) (old new : Commit) (pieces : List PlainPiece) : Type 0 where
  pub limits : is_size size ≡ true
  pub fit : AllFit size pieces
  pub apart : AreApart (runs_of pieces)
  pub above : StartFrom 2 (runs_of pieces)
  pub next : new.epoch ≡ old.epoch + 1
  pub writable : IsCommit new

-- the sector lies in no piece's run, and is not that of the new commit
abbrev pub IsOutside : Commit → List PlainPiece → ℕ → Type 0
IsOutside new pieces n = OutOf (runs_of pieces) n × (n ≢ new.epoch % 2)

-- the sector of the new commit holds its old content or the new commit, or can't be read
abbrev pub MayHoldCommit : Disk → Commit → Option (List ℕ) → Type 0
MayHoldCommit before new x = (x ≡ (before.at (new.epoch % 2)).synced) ⊎ (x ≡ Some (commit_text new)) ⊎ (x ≡ None)

-- for two predicates: the image is old, or it is new and each piece lies in its run; everywhere else it is unchanged
pub record IsOldOrNew (before : Disk) (new : Commit) (pieces : List PlainPiece) (Old New : Image → Type 0) (image : Image) : Type 0 where
  pub outside : (n : ℕ) → IsOutside new pieces n → image n ≡ (before.at n).synced
  pub commit : MayHoldCommit before new (image (new.epoch % 2))
  pub which : Old image ⊎ (New image × HoldsEach image pieces)

-- at a moment of publishing: no other sector was touched, the disk is unchanged or a write has begun, and each image that a crash may leave is old or
-- new
pub record IsPublishing (before : Disk) (new : Commit) (pieces : List PlainPiece) (Old New : Image → Type 0) (d : Disk) : Type 0 where
  pub touches : (n : ℕ) → IsOutside new pieces n → d.at n ≡ before.at n
  pub begun : (d ≡ before) ⊎ (before.writes < d.writes)
  pub leaves : LeavesOnly (IsOldOrNew before new pieces Old New) d

-- after publishing: everything is synced, the image is new, and each piece lies in its run
pub record IsPublished (before : Disk) (new : Commit) (pieces : List PlainPiece) (New : Image → Type 0) (d : Disk) : Type 0 where
  pub quiet : IsQuiet d
  pub stands : New (synced_image d)
  pub holds : HoldsEach (synced_image d) pieces
  pub touches : (n : ℕ) → IsOutside new pieces n → d.at n ≡ before.at n
  pub begun : before.writes < d.writes

-- this commit rules
abbrev pub IsRuledBy : Commit → Image → Type 0
IsRuledBy commit image = ruling image ≡ Some commit

-- publishing over a disk on which the old commit rests, at each moment
abbrev pub Publishes : Commit → Commit → List PlainPiece → Story → Story → Type 0
Publishes old new pieces before after = Rests (now before) old → Grows (IsPublishing (now before) new pieces (IsRuledBy old) (IsRuledBy new)) before after

-- and at its end, if it succeeded
abbrev pub EndsPublished : Commit → Commit → List PlainPiece → Story → Story → Type 0
EndsPublished old new pieces before after = Rests (now before) old → IsPublished (now before) new pieces (IsRuledBy new) (now after)
