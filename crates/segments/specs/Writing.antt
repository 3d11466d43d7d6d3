-- What writing runs may change, and the writes that it makes.
use Rattle.std.specs.Prelude.{◌≡◌, ◌⊎◌, ◌≤◌, ◌<◌, ◌+◌, ℕ, List, [], ◌∷◌, length, map}
use Rattle.std.specs.List.{flat_map}
use Rattle.sector_dev.specs.Disk.{Disk, Story, Image, now, moment, LeftSince, MayHold}
use Rattle.sector_dev.specs.Rows.{SectorWrite, writes_from}
use Rattle.sector_dev.specs.Time.{Grows}
use Rattle.segments.specs.declared.run.Run.{Run}
use Rattle.segments.specs.Pieces.{PlainPiece}
use Rattle.segments.specs.Runs.{OutOf}
use Rattle.segments.specs.Sectors.{sector_count, sector_of, Holds}

-- the run that these bytes occupy from a sector on
abbrev pub run_for : ℕ → List ℕ → Run
run_for start bytes = record { start = start; count = sector_count (length bytes) }

-- while these runs are written: no other sector has changed, and none at all before a write began
pub record WritesOnly (runs : List Run) (old d : Disk) : Type 0 where
  pub outside : (n : ℕ) → OutOf runs n → d.at n ≡ old.at n
  pub begun : (d ≡ old) ⊎ (old.writes < d.writes)

-- at each moment since then
abbrev pub OnlyWrites : List Run → Story → Story → Type 0
OnlyWrites runs old new = Grows (WritesOnly runs (now old)) old new

-- in a sector outside these runs, each image that a crash may have left since then holds what a crash could leave there before
abbrev pub LeavesOthers : List Run → Story → Story → Type 0
LeavesOthers runs old new = (image : Image) → LeftSince new (moment old) image → (n : ℕ) → OutOf runs n → MayHold ((now old).at n) (image n)

abbrev pub runs_of : List PlainPiece → List Run
runs_of pieces = map (λ (p : PlainPiece). p.run) pieces

-- each run lies on the device and has room for its bytes
abbrev pub AllFit : ℕ → List PlainPiece → Type 0
AllFit size [] = Unit {0}
AllFit size (p ∷ ps) = (p.run.start + p.run.count ≤ size) × (sector_count (length p.bytes) ≤ p.run.count) × AllFit size ps

-- each run holds its bytes
abbrev pub HoldsEach : Image → List PlainPiece → Type 0
HoldsEach image [] = Unit {0}
HoldsEach image (p ∷ ps) = Holds image p.run.start p.bytes × HoldsEach image ps

-- the writes of a run that is to hold these bytes
abbrev pub run_writes : ℕ → List ℕ → List SectorWrite
run_writes start bytes = writes_from start (sector_count (length bytes)) (sector_of bytes)

-- the writes of each piece in order
abbrev pub piece_writes : List PlainPiece → List SectorWrite
piece_writes pieces = flat_map (λ (p : PlainPiece). run_writes p.run.start p.bytes) pieces
