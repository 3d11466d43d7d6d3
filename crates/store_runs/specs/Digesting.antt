-- An upgrade as a change of a catalogue: each segment of each table gets the digest of its bytes; or why this fails.
use Rattle.std.specs.Prelude.{◌≡◌, ◌<◌, ◌++◌, ℕ, Bool, List, [], ◌∷◌, slice_get, Some}
use Rattle.sha2.specs.Sha256.{sha256}
use Rattle.sector_dev.specs.Disk.{Image}
use Rattle.arrow_schema.specs.Column.{PlainSchema}
use Rattle.cells.specs.Cell.{Cell, PlainTable}
use Rattle.catalogue.specs.declared.entry.Segment.{Segment}
use Rattle.catalogue.specs.Entries.{PlainEntry, PlainCatalogue}
use Rattle.tables.specs.declared.refusal.Refusal.{Refusal}
use Rattle.store_runs.specs.Changes.{PlainChange, digest}
use Rattle.store_runs.specs.Deciding.{names_changed}
use Rattle.store_runs.specs.Reading.{HasRead, IsRead, Unreads}

-- the segments of a table were read, each once: the bytes that were read of each mean its part of these rows, and its digest is their SHA-256: of the bytes
-- alone, without the zeros after them in their last sector
abbrev pub AreDigested : (tells : Bool) → Image → PlainSchema → List Segment → List (List Cell) → (digests : List (List ℕ)) → Type 0
AreDigested tells image schema [] rows digests = (rows ≡ []) × (digests ≡ [])
AreDigested tells image schema (g ∷ gs) rows [] = ⊥
AreDigested tells image schema (g ∷ gs) rows (d ∷ ds) =
    (own others : List (List Cell)) × (read : HasRead tells image schema g own) × (d ≡ sha256 read.bytes)
    × AreDigested tells image schema gs others ds × (rows ≡ own ++ others)

-- a table was read, and these are the digests of its segments: of the very bytes that its rows come from
pub record IsDigested (tells : Bool) (image : Image) (e : PlainEntry) (digests : List (List ℕ)) : Type 0 where
  pub table : PlainTable
  pub read : IsRead tells image e table
  pub own : AreDigested tells image e.schema e.segments table.rows digests

-- all tables, one after another
abbrev pub AllDigested : (tells : Bool) → Image → PlainCatalogue → (digests : List (List ℕ)) → Type 0
AllDigested tells image [] digests = digests ≡ []
AllDigested tells image (e ∷ es) digests =
    (first others : List (List ℕ)) × IsDigested tells image e first × AllDigested tells image es others × (digests ≡ first ++ others)

-- the first tables were read, each as by a read of the table
abbrev pub AreRead : (tells : Bool) → Image → PlainCatalogue → (count : ℕ) → Type 0
AreRead tells image c count = (number : ℕ) (e : PlainEntry) → number < count → slice_get c number ≡ Some e → (table : PlainTable) × IsRead tells image e table

-- the change of an upgrade: all tables were read, and each segment gets the digest of the bytes that its rows come from; none is moved
pub record IsUpgrade (tells : Bool) (image : Image) (c : PlainCatalogue) (change : PlainChange) : Type 0 where
  pub digests : List (List ℕ)
  pub own : AllDigested tells image c digests
  pub is : change ≡ names_changed (digest digests)

-- the first table that can't be read ends it
pub record StopsReading (tells : Bool) (image : Image) (c : PlainCatalogue) (r : Refusal) : Type 0 where
  pub number : ℕ
  pub entry : PlainEntry
  pub at : slice_get c number ≡ Some entry
  pub before : AreRead tells image c number
  pub stops : Unreads tells image entry r
