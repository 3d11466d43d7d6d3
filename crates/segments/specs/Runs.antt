-- Runs of sectors: which ones are free, and the lowest of them.
use Rattle.std.specs.Prelude.{◌≡◌, ◌⊎◌, ◌≤◌, ◌<◌, ◌+◌, ℕ, List, [], ◌∷◌, Option, Some, None}
use Rattle.segments.specs.declared.run.Run.{Run}

-- two runs share no sector
abbrev pub IsApart : Run → Run → Type 0
IsApart a b = (a.start + a.count ≤ b.start) ⊎ (b.start + b.count ≤ a.start)

-- the run lies on the device, after the two commit sectors
pub record IsOnDevice (size : ℕ) (run : Run) : Type 0 where
  pub above : 2 ≤ run.start
  pub some : 1 ≤ run.count
  pub within : run.start + run.count ≤ size

-- the run lies on the device, after the two commit sectors, and meets no used run
pub record IsFree (size : ℕ) (used : Run → Type 0) (run : Run) : Type 0 where
  pub above : 2 ≤ run.start
  pub within : run.start + run.count ≤ size
  pub apart : (other : Run) → used other → IsApart run other

-- the free run of `count` sectors that starts lowest, or that there is none
abbrev pub IsLowest : ℕ → (Run → Type 0) → ℕ → Option Run → Type 0
IsLowest size used count (Some run) = (run.count ≡ count) × IsFree size used run × ((other : Run) → other.count ≡ count → IsFree size used other → run.start ≤ other.start)
IsLowest size used count None = (run : Run) → run.count ≡ count → IsFree size used run → ⊥

-- the sector lies in none of these runs
abbrev pub OutOf : List Run → ℕ → Type 0
OutOf [] n = Unit {0}
OutOf (r ∷ rs) n = ((n < r.start) ⊎ (r.start + r.count ≤ n)) × OutOf rs n

-- the run shares no sector with any of these
abbrev pub ApartFrom : Run → List Run → Type 0
ApartFrom run [] = Unit {0}
ApartFrom run (r ∷ rs) = IsApart run r × ApartFrom run rs

-- no two of these runs share a sector
abbrev pub AreApart : List Run → Type 0
AreApart [] = Unit {0}
AreApart (r ∷ rs) = ApartFrom r rs × AreApart rs

-- each of these runs starts at this sector or later
abbrev pub StartFrom : ℕ → List Run → Type 0
StartFrom low [] = Unit {0}
StartFrom low (r ∷ rs) = (low ≤ r.start) × StartFrom low rs
