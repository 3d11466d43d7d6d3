-- What a salvage of a table writes and leaves out, on any store.
use Rattle.std.specs.Prelude.{◌≡◌, ◌+◌, ℕ, Bool, true, false, List, [], ◌∷◌, map, Option, Some, None}
use Rattle.std.specs.Io.KnownBytes.{Appends}
use Rattle.sector_dev.specs.Disk.{Image}
use Rattle.arrow_schema.specs.Column.{PlainSchema}
use Rattle.cells.specs.Cell.{Cell}
use Rattle.table_cut.specs.CutRows.{joined}
use Rattle.ipc_canonical.specs.Canonical.{stream_parts}
use Rattle.catalogue.specs.declared.entry.Segment.{Segment}
use Rattle.catalogue.specs.Entries.{PlainEntry}
use Rattle.tables.specs.declared.refusal.Refusal.{Refusal}
use Rattle.tables.specs.declared.refusal.Refusal.TheVariants as refusals
use Rattle.store.specs.declared.salvaging.LeftOut.{LeftOut}
use Rattle.store_runs.specs.Held.{segment_rows}
use Rattle.store_runs.specs.Reading.{HasRead}

-- what reads of the device show of a segment: its rows, which the bytes that were read mean, or that it does not hold them
abbrev pub IsFound : (tells : Bool) → Image → PlainSchema → Segment → Option (List (List Cell)) → Type 0
IsFound tells image schema g None = tells ≡ true → segment_rows schema g image ≡ None
IsFound tells image schema g (Some rows) = HasRead tells image schema g rows

-- the same for each of these segments
abbrev pub AreFound : (tells : Bool) → Image → PlainSchema → List Segment → List (Option (List (List Cell))) → Type 0
AreFound tells image schema [] [] = Unit {0}
AreFound tells image schema (g ∷ gs) (f ∷ fs) = IsFound tells image schema g f × AreFound tells image schema gs fs
AreFound tells image schema [] (f ∷ fs) = ⊥
AreFound tells image schema (g ∷ gs) [] = ⊥

-- the rows of the segments that hold their rows, in order
abbrev pub rows_found : List (Option (List (List Cell))) → List (List (List Cell))
rows_found [] = []
rows_found (None ∷ found) = rows_found found
rows_found (Some rows ∷ found) = rows ∷ rows_found found

-- the other segments: the place of each, counted from this one on, and its number of rows in the catalogue
abbrev pub left_out : (place : ℕ) → List Segment → List (Option (List (List Cell))) → List (ℕ × ℕ)
left_out place (g ∷ gs) (None ∷ found) = (place, g.rows) ∷ left_out (place + 1) gs found
left_out place (g ∷ gs) (Some rows ∷ found) = left_out (place + 1) gs found
left_out place _ _ = []

-- the same, as the code lists them
abbrev pub plain_left : List LeftOut → List (ℕ × ℕ)
plain_left segments = map (λ (l : LeftOut). (l.place, l.rows)) segments

-- a successful salvage of a table: the stream of all rows that are found was written, and nothing else; the other segments are left out
pub record Salvages (tells : Bool) (image : Image) (e : PlainEntry) (written written' : Option (List ℕ)) (left : List (ℕ × ℕ)) : Type 0 where
  pub found : List (Option (List (List Cell)))
  pub shown : AreFound tells image e.schema e.segments found
  pub stream : Appends written written' (joined (stream_parts e.schema (rows_found found)))
  pub others : left ≡ left_out 0 e.segments found

-- the table of a name, with this entry if there is one, was salvaged
abbrev pub SalvagesAt : (halted tells : Bool) → Image → Option PlainEntry → (written written' : Option (List ℕ)) → (left : List (ℕ × ℕ)) → Type 0
SalvagesAt true tells image found written written' left = ⊥
SalvagesAt false tells image None written written' left = ⊥
SalvagesAt false tells image (Some e) written written' left = Salvages tells image e written written' left

-- why the salvage of an existing table ends early: a segment is never the reason
abbrev pub BreaksOff : Refusal → Type 0
BreaksOff refusals.Device = Unit {0}
BreaksOff refusals.OutOfMemory = Unit {0}
BreaksOff refusals.Write = Unit {0}
BreaksOff _ = ⊥

-- the refusals of a salvage of the table of a name, with this entry if there is one
abbrev pub RefusesSalvage : (halted : Bool) → Option PlainEntry → Refusal → Type 0
RefusesSalvage true found r = r ≡ refusals.Halted
RefusesSalvage false None r = r ≡ refusals.NoTable
RefusesSalvage false (Some e) r = BreaksOff r
