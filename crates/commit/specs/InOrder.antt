-- Which calls of a device publishing and formatting make, and in which order.
use Rattle.std.specs.Prelude.{◌≡◌, ◌⊎◌, ◌++◌, ◌%◌, ℕ, List, [], ◌∷◌, map, Some}
use Rattle.sector_dev.specs.Disk.{Story, Puts, FailsToPut, Flushes, Passes}
use Rattle.sector_dev.specs.History.{zeros}
use Rattle.sector_dev.specs.Rows.{SectorWrite}
use Rattle.sector_dev.specs.Time.{OnlyReads}
use Rattle.segments.specs.Pieces.{PlainPiece}
use Rattle.segments.specs.Writing.{piece_writes}
use Rattle.commit.specs.declared.sector.FormatVersion.{FormatVersion}
use Rattle.commit.specs.declared.sector.Commit.{Commit}
use Rattle.commit.specs.Sector.{commit_text}
use Rattle.commit.specs.Formatting.{first_commit}

-- a call that changes a disk: a sector is written, or what was written is made safe
pub data DeviceCall : Type 0 where
  write : SectorWrite → DeviceCall
  sync : DeviceCall

-- these calls were done in order, and no other began
abbrev pub AreDone : List DeviceCall → Story → Story → Type 0
AreDone [] old new = new ≡ old
AreDone (write w ∷ calls) old new = (next : Story) × Puts old w.sector w.content (Some w.content) next × AreDone calls next new
AreDone (sync ∷ calls) old new = (next : Story) × Flushes old next × AreDone calls next new

-- one of these calls failed: those before it were done in order, and none after it began
abbrev pub OneFails : List DeviceCall → Story → Story → Type 0
OneFails [] old new = ⊥
OneFails (write w ∷ calls) old new = FailsToPut old w.sector w.content new ⊎ ((next : Story) × Puts old w.sector w.content (Some w.content) next × OneFails calls next new)
OneFails (sync ∷ calls) old new = Passes old new ⊎ ((next : Story) × Flushes old next × OneFails calls next new)

-- each of these sectors is written
abbrev pub all_written : List SectorWrite → List DeviceCall
all_written writes = map write writes

-- a commit is written into the sector of its epoch
abbrev pub commit_written : Commit → DeviceCall
commit_written new = write (record { sector = new.epoch % 2; content = commit_text new })

-- publishing: the pieces, sector by sector, are written and made safe, and then the commit
abbrev pub publishing_calls : Commit → List PlainPiece → List DeviceCall
publishing_calls new pieces = all_written (piece_writes pieces) ++ (sync ∷ commit_written new ∷ sync ∷ [])

-- sector 0, and sector 2 of the empty catalogue, are cleared
abbrev pub clearing_calls : List DeviceCall
clearing_calls = write (record { sector = 0; content = zeros }) ∷ write (record { sector = 2; content = zeros }) ∷ sync ∷ []

-- the first commit is written
abbrev pub beginning_calls : ℕ → FormatVersion → List DeviceCall
beginning_calls size version = commit_written (first_commit size version) ∷ sync ∷ []

-- formatting: before that, what reads show is made safe, so that no crash brings back an older commit
abbrev pub formatting_calls : ℕ → FormatVersion → List DeviceCall
formatting_calls size version = sync ∷ (clearing_calls ++ beginning_calls size version)

-- formatting reads the commit sectors before these calls
pub record FormatsInOrder (size : ℕ) (version : FormatVersion) (old new : Story) : Type 0 where
  pub read : Story
  pub reads : OnlyReads old read
  pub calls : AreDone (formatting_calls size version) read new

-- and it fails in a read, or in one of these calls
pub record FailsInOrder (size : ℕ) (version : FormatVersion) (old new : Story) : Type 0 where
  pub read : Story
  pub reads : OnlyReads old read
  pub calls : (new ≡ read) ⊎ OneFails (formatting_calls size version) read new
