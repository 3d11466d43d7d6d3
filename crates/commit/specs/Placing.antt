-- Taking runs for what is to be written, each at the lowest place that is free.
use Rattle.std.specs.Prelude.{◌≡◌, ◌⊎◌, ◌≤◌, ◌<◌, ◌+◌, ◌^◌, ℕ, List, [], ◌∷◌, ◌++◌, length, take, map, Some, None, Result, Ok, Err, vec_len, vec_capacity}
use Rattle.std.specs.Global.{Vec}
use Rattle.std.specs.List.{AllByRecursion}
use Rattle.segments.specs.declared.run.Run.{Run}
use Rattle.segments.specs.declared.entries.Usage.{Usage}
use Rattle.segments.specs.declared.entries.UsageEntry.{UsageEntry}
use Rattle.segments.specs.declared.piece.PiecePart.{PiecePart}
use Rattle.segments.specs.Pieces.{PlainPiece, bytes_of_parts, plain_pieces}
use Rattle.segments.specs.Writing.{runs_of}
use Rattle.segments.specs.Runs.{IsLowest}
use Rattle.segments.specs.Sectors.{sector_count}
use Rattle.segments.specs.Usages.{usage_of}
pub use Rattle.segments.specs.Usages.{is_among, times_among}
use Rattle.commit.specs.declared.placing.Places.{Places}

-- the usage of a run if the first runs are those of the ruling catalogue, and the others are pinned, each as often as it is listed
abbrev pub usage_by : List Run → List Run → Run → Usage
usage_by ruling pinned run = record { taken = is_among ruling run; pins = times_among pinned run }

-- the entries are exactly those of these runs
abbrev pub Uses : List UsageEntry → List Run → List Run → Type 0
Uses entries ruling pinned = (run : Run) → usage_of entries run ≡ usage_by ruling pinned run

-- a run before those that were taken after it
abbrev pub in_front : Run → Result (List Run) ℕ → Result (List Run) ℕ
in_front run (Ok runs) = Ok (run ∷ runs)
in_front run (Err count) = Err count

-- runs of these numbers of sectors are taken in order, each at the lowest place that is then free; or no run of some number is free
abbrev pub Takes : ℕ → (Run → Type 0) → List ℕ → Result (List Run) ℕ → Type 0
Takes size used [] taken = taken ≡ Ok []
Takes size used (count ∷ counts) taken =
    (IsLowest size used count None × (taken ≡ Err count))
    ⊎ ((run : Run) × IsLowest size used count (Some run) × ((rest : Result (List Run) ℕ) × Takes size (λ other. used other ⊎ (other ≡ run)) counts rest × (taken ≡ in_front run rest)))

-- the bytes of pieces
abbrev pub contents_of : List PlainPiece → List (List ℕ)
contents_of pieces = map (λ (p : PlainPiece). p.bytes) pieces

-- the bytes of contents that are given in parts
abbrev pub plain_contents : List (Vec PiecePart) → List (List ℕ)
plain_contents contents = map (λ (parts : Vec PiecePart). bytes_of_parts parts.items) contents

-- the number of sectors that these bytes take
abbrev pub sectors_of : List ℕ → ℕ
sectors_of bytes = sector_count (length bytes)

-- the numbers of sectors of these contents, of pages with given sizes, and of a text of `bytes` bytes
abbrev pub counts_of : List (List ℕ) → (pages : List ℕ) → ℕ → List ℕ
counts_of contents pages bytes = (map sectors_of contents ++ map sector_count pages) ++ sector_count bytes ∷ []

-- each page has at least one byte
abbrev pub AreWritten : List ℕ → Type 0
AreWritten pages = AllByRecursion (λ (bytes : ℕ). 1 ≤ bytes) pages

-- none of the contents is empty
abbrev pub AreSome : List (List ℕ) → Type 0
AreSome contents = AllByRecursion (λ (bytes : List ℕ). 1 ≤ length bytes) contents

-- each of the contents has less than 2^64 bytes
abbrev pub AreShort : List (List ℕ) → Type 0
AreShort contents = AllByRecursion (λ (bytes : List ℕ). length bytes < 2 ^ 64) contents

-- the contents lie in the first runs; then there is one run for each of `pages` pages and one for the text, and room for their pieces
pub record HasRoom (pages : ℕ) (places : Places) : Type 0 where
  pub piece : vec_len places.pieces + pages < vec_capacity places.pieces
  pub count : vec_len places.runs ≡ vec_len places.pieces + pages + 1
  pub front : runs_of (plain_pieces places.pieces.items) ≡ take (vec_len places.pieces) places.runs.items
  pub last : places.runs.items ≡ take (vec_len places.pieces + pages) places.runs.items ++ places.text ∷ []
