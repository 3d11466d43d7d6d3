-- A disk on which only the first commit is missing.
use Rattle.std.specs.Prelude.{◌≡◌, ◌≢◌, ℕ, Some}
use Rattle.sector_dev.specs.Disk.{Disk, Story, Image, now, synced_image, shown_image}
use Rattle.sector_dev.specs.History.{zeros}
use Rattle.sector_dev.specs.Time.{Grows, LeavesOnly}
use Rattle.segments.specs.Sectors.{bytes_at}
use Rattle.commit.specs.declared.sector.FormatVersion.{FormatVersion}
use Rattle.commit.specs.Sector.{commit_text}
use Rattle.commit.specs.Ruling.{IsQuiet}
use Rattle.commit.specs.Formatting.{HoldsNoCommit, IsNoneOrEmpty, IsFormatting, IsFormatted, empty_text, first_commit}

-- everything is synced, there is no commit, and the empty catalogue lies in its sector
pub record IsPrepared (d : Disk) : Type 0 where
  pub quiet : IsQuiet d
  pub none : HoldsNoCommit (synced_image d)
  pub text : bytes_at (synced_image d) 2 4 ≡ Some empty_text

-- writing the first commit over such a disk: at each moment, and at the end
abbrev pub Begins : ℕ → FormatVersion → Story → Story → Type 0
Begins size version before after = IsPrepared (now before) → Grows (LeavesOnly (IsNoneOrEmpty size version)) before after

abbrev pub EndsBegun : ℕ → FormatVersion → Story → Story → Type 0
EndsBegun size version before after = IsPrepared (now before) → IsFormatted size version (now before) (now after)

-- formatting a disk on which reads return no commit: at each moment, and at the end
abbrev pub Clears : ℕ → FormatVersion → Story → Story → Type 0
Clears size version before after = HoldsNoCommit (shown_image (now before)) → Grows (IsFormatting size version (now before)) before after

abbrev pub EndsCleared : ℕ → FormatVersion → Story → Story → Type 0
EndsCleared size version before after = HoldsNoCommit (shown_image (now before)) → IsFormatted size version (now before) (now after)

-- what reads return after zeros were written into sectors 0 and 2
pub record HasZeros (before after : Image) : Type 0 where
  pub zeroth : after 0 ≡ Some zeros
  pub second : after 2 ≡ Some zeros
  pub others : (n : ℕ) → n ≢ 0 → n ≢ 2 → after n ≡ before n

-- and after the first commit was written
pub record HasFirst (size : ℕ) (version : FormatVersion) (before after : Image) : Type 0 where
  pub first : after 1 ≡ Some (commit_text (first_commit size version))
  pub others : (n : ℕ) → n ≢ 1 → after n ≡ before n
