-- The possible contents of a disk while it is formatted.
use Rattle.std.specs.Prelude.{◌≡◌, ◌⊎◌, ◌≤◌, ◌<◌, ◌+◌, ◌-◌, ◌^◌, ℕ, min, List, [], ◌∷◌, Some, None, Result, Ok, Err}
use Rattle.sector_dev.specs.Disk.{Disk, Image, synced_image}
use Rattle.sector_dev.specs.Time.{LeavesOnly}
use Rattle.sector_dev.specs.History.{zeros}
use Rattle.segments.specs.Sectors.{bytes_at}
use Rattle.commit.specs.declared.sector.CatalogueKind.TheVariants.{Whole}
use Rattle.commit.specs.declared.sector.FormatVersion.{FormatVersion}
use Rattle.commit.specs.declared.sector.Commit.{Commit}
use Rattle.commit.specs.declared.formatting.FormatError.{FormatError}
use Rattle.commit.specs.declared.formatting.FormatError.TheVariants.{AlreadyAStore, Damaged, Device, OutOfMemory}
use Rattle.commit.specs.Sector.{commit_at, commit_text}
use Rattle.commit.specs.Ruling.{ruling, Rests}

-- neither commit sector holds a commit
abbrev pub HoldsNoCommit : Image → Type 0
HoldsNoCommit image = (commit_at 0 (image 0) ≡ None) × (commit_at 1 (image 1) ≡ None)

-- no crash leaves a commit
abbrev pub HasNoCommit : Disk → Type 0
HasNoCommit d = LeavesOnly HoldsNoCommit d

-- the text of a catalogue without tables: their number, 0, in four bytes
abbrev pub empty_text : List ℕ
empty_text = 0 ∷ 0 ∷ 0 ∷ 0 ∷ []

-- the commit of an empty store of this version on a device of this size: epoch 1, its catalogue in sector 2
abbrev pub first_commit : ℕ → FormatVersion → Commit
first_commit size version = record {
  epoch = 1;
  catalogue = record { run = record { start = 2; count = 1 }; bytes = 4 };
  device_sectors = size;
  version = version;
  kind = Whole;
}

-- the empty store: its commit rules, and its catalogue has no tables
pub record IsEmptyStore (size : ℕ) (version : FormatVersion) (image : Image) : Type 0 where
  pub rules : ruling image ≡ Some (first_commit size version)
  pub text : bytes_at image 2 4 ≡ Some empty_text

-- no store, or the empty one
abbrev pub IsNoneOrEmpty : ℕ → FormatVersion → Image → Type 0
IsNoneOrEmpty size version image = HoldsNoCommit image ⊎ IsEmptyStore size version image

-- at a moment of formatting: the disk is unchanged, or each image that a crash may leave is no store or the empty one
abbrev pub IsFormatting : ℕ → FormatVersion → Disk → Disk → Type 0
IsFormatting size version before d = (d ≡ before) ⊎ LeavesOnly (IsNoneOrEmpty size version) d

-- after formatting: everything is synced, the store is the empty one, and a write has begun
pub record IsFormatted (size : ℕ) (version : FormatVersion) (before d : Disk) : Type 0 where
  pub rests : Rests d (first_commit size version)
  pub text : bytes_at (synced_image d) 2 4 ≡ Some empty_text
  pub begun : before.writes < d.writes

-- the effect of formatting on what reads return: zeros in sector 0, the first commit in sector 1, zeros in sector 2, which start with the empty text,
-- and no change elsewhere
pub record IsMadeEmpty (size : ℕ) (version : FormatVersion) (before after : Image) : Type 0 where
  pub zeroth : after 0 ≡ Some zeros
  pub first : after 1 ≡ Some (commit_text (first_commit size version))
  pub second : after 2 ≡ Some zeros
  pub others : (n : ℕ) → 3 ≤ n → after n ≡ before n

-- a failed call of the device is counted, up to the greatest number; no other result is
abbrev pub CountsFormat : {T : Type 0} → ℕ → ℕ → Result T FormatError → Type 0
CountsFormat before after (Ok x) = after ≡ before
CountsFormat before after (Err AlreadyAStore) = after ≡ before
CountsFormat before after (Err (Damaged cause)) = after ≡ before
CountsFormat before after (Err Device) = after ≡ min (before + 1) (2 ^ 64 - 1)
CountsFormat before after (Err OutOfMemory) = after ≡ before
