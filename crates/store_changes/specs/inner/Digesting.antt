-- Digests of the segments of a table, as they are read one after another.
use Rattle.std.specs.Prelude.{◌≡◌, ℕ, Bool, List}
use Rattle.sha2.specs.Sha256.{sha256}
use Rattle.sector_dev.specs.Disk.{Image}
use Rattle.arrow_schema.specs.Column.{PlainSchema}
use Rattle.cells.specs.Cell.{Cell}
use Rattle.cells.specs.Weight.{table_weight}
use Rattle.catalogue.specs.declared.entry.Segment.{Segment}
use Rattle.store_runs.specs.Digesting.{AreDigested}
use Rattle.store_changes.specs.inner.ReadRows.{ReadsRows, ReadsNext}

-- what the rows of segments weigh that were read one after another, and the digests of the bytes that they come from
abbrev pub DigestsRows : (tells : Bool) → Image → PlainSchema → List Segment → ℕ → List (List ℕ) → Type 0
DigestsRows tells image schema segments weight digests =
    (rows : List (List Cell)) × ReadsRows tells image schema segments rows × (weight ≡ table_weight schema rows)
    × AreDigested tells image schema segments rows digests

-- the same with one segment more, whose rows go after these
abbrev pub DigestsNext : (tells : Bool) → Image → PlainSchema → List (List Cell) → Segment → ℕ → List ℕ → Type 0
DigestsNext tells image schema rows segment weight digest =
    (all : List (List Cell)) × (next : ReadsNext tells image schema rows segment all) × (weight ≡ table_weight schema all) × (digest ≡ sha256 next.read.bytes)
