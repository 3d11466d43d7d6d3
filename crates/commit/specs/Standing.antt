-- What opening an image finds. How a catalogue is read is an argument here.
use Rattle.std.specs.Prelude.{◌≡◌, ◌≤◌, ◌<◌, ◌+◌, ◌⊎◌, ◌==◌, ◌&&◌, ◌||◌, ℕ, Bool, true, nat_le, if◌then◌else◌, List, [], ◌∷◌, Option, Some, None, Result, Ok, Err}
use Rattle.sector_dev.specs.Disk.{Disk, Image, synced_image}
use Rattle.sector_dev.specs.declared.file.TheConstants.{LEAST_SECTORS, MOST_SECTORS}
use Rattle.segments.specs.Sectors.{sector_count, bytes_at}
use Rattle.segments.specs.declared.run.Run.{Run}
use Rattle.segments.specs.declared.extent.Extent.{Extent}
use Rattle.commit.specs.declared.sector.Commit.{Commit}
use Rattle.commit.specs.declared.cause.Cause.{Cause}
use Rattle.commit.specs.declared.cause.Cause.TheVariants.{DeviceSize, CatalogueRange, CatalogueUnreadable, RunRange, RunOverlap}
use Rattle.commit.specs.Ruling.{ruling, IsQuiet}

-- the device of a store has 16 to 4,194,304 sectors
abbrev pub is_size : ℕ → Bool
is_size size = nat_le LEAST_SECTORS size && nat_le size MOST_SECTORS

-- the run has at least one sector, starts after the commit sectors and ends on the device
abbrev pub is_on_device : ℕ → Run → Bool
is_on_device size r = nat_le 2 r.start && (nat_le 1 r.count && nat_le (r.start + r.count) size)

-- the extent lies on the device, has at least `least` bytes, and exactly the sectors that they need
abbrev pub is_extent : ℕ → ℕ → Extent → Bool
is_extent size least e = nat_le least e.bytes && ((e.run.count == sector_count e.bytes) && is_on_device size e.run)

abbrev pub all_on_device : ℕ → List Run → Bool
all_on_device size [] = true
all_on_device size (r ∷ rs) = is_on_device size r && all_on_device size rs

-- the run ends before each of these starts, or starts after its end
abbrev pub is_apart : Run → List Run → Bool
is_apart r [] = true
is_apart r (s ∷ ss) = (nat_le (r.start + r.count) s.start || nat_le (s.start + s.count) r.start) && is_apart r ss

-- no two of these runs share a sector
abbrev pub are_apart : List Run → Bool
are_apart [] = true
are_apart (r ∷ rs) = is_apart r rs && are_apart rs

-- how a catalogue is read from the size of the device, the image, the commit, and the text that the commit names; and the runs that it names
pub record Reading (C : Type 0) : Type 0 where
  pub at : ℕ → Image → Commit → List ℕ → Result C Cause
  pub runs : C → List Run

-- no store, a damaged one, or one that is ruled by this commit with this catalogue
pub data Standing (C : Type 0) : Type 0 where
  no_store : Standing C
  damaged : Cause → Standing C
  rules : Commit → C → Standing C

-- the runs in use: that of the catalogue's text, and those that the catalogue names
abbrev pub used_runs : {C : Type 0} → Reading C → Commit → C → List Run
used_runs reading k c = k.catalogue.run ∷ reading.runs c

-- bytes, if they can be read
abbrev pub readable : Option (List ℕ) → Result (List ℕ) Cause
readable None = Err CatalogueUnreadable
readable (Some text) = Ok text

-- the bytes of an extent with at least `least` bytes, or why it has none
abbrev pub extent_at : ℕ → Image → (least : ℕ) → Extent → Result (List ℕ) Cause
extent_at size image least e = if is_extent size least e then readable (bytes_at image e.run.start e.bytes) else Err CatalogueRange

-- the text of the catalogue that a commit names, or why there is none
unfoldable pub text_at : ℕ → Image → Commit → Result (List ℕ) Cause
text_at size image k =
    if k.device_sectors == size
    then extent_at size image 4 k.catalogue
    else Err DeviceSize

-- why the runs that a catalogue names can't be in use together with that of its text, if they can't
unfoldable pub runs_fault : ℕ → Run → List Run → Option Cause
runs_fault size text runs = if all_on_device size runs then (if are_apart (text ∷ runs) then None else Some RunOverlap) else Some RunRange

-- the tests in order; the first that fails is the cause
abbrev pub by_runs : {C : Type 0} → Commit → C → Option Cause → Standing C
by_runs k c None = rules k c
by_runs k c (Some cause) = damaged cause

abbrev pub by_catalogue : {C : Type 0} → Reading C → ℕ → Commit → Result C Cause → Standing C
by_catalogue reading size k (Err cause) = damaged cause
by_catalogue reading size k (Ok c) = by_runs k c (runs_fault size k.catalogue.run (reading.runs c))

-- the catalogue of a text, if there is a text
abbrev pub spelled_by : {C : Type 0} → Reading C → ℕ → Image → Commit → Result (List ℕ) Cause → Result C Cause
spelled_by reading size image k (Err cause) = Err cause
spelled_by reading size image k (Ok text) = reading.at size image k text

-- the catalogue that a commit names, or why there is none
abbrev pub named_by : {C : Type 0} → Reading C → ℕ → Image → Commit → Result C Cause
named_by reading size image k = spelled_by reading size image k (text_at size image k)

abbrev pub by_commit : {C : Type 0} → Reading C → ℕ → Image → Option Commit → Standing C
by_commit reading size image None = no_store
by_commit reading size image (Some k) = by_catalogue reading size k (named_by reading size image k)

-- what opening finds
unfoldable pub standing : {C : Type 0} → Reading C → ℕ → Image → Standing C
standing reading size image = if is_size size then by_commit reading size image (ruling image) else damaged DeviceSize

-- everything is synced, and opening finds this commit and its catalogue
pub record Stands {C : Type 0} (reading : Reading C) (size : ℕ) (d : Disk) (k : Commit) (c : C) : Type 0 where
  pub quiet : IsQuiet d
  pub found : standing reading size (synced_image d) ≡ rules k c

-- the sector lies in one of these runs
abbrev pub InSome : List Run → ℕ → Type 0
InSome [] n = ⊥
InSome (r ∷ rs) n = ((r.start ≤ n) × (n < r.start + r.count)) ⊎ InSome rs n

-- reading depends only on the sectors of the catalogue's own runs
abbrev pub IsLocal : {C : Type 0} → Reading C → Type 0
IsLocal {C = C} reading =
    (size : ℕ) (a b : Image) (k : Commit) (text : List ℕ) (c : C) → reading.at size a k text ≡ Ok c
    → ((n : ℕ) → InSome (reading.runs c) n → b n ≡ a n) → reading.at size b k text ≡ Ok c
