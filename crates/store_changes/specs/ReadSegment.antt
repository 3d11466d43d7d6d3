-- Reading a single segment.
use Rattle.std.specs.Prelude.{◌≡◌, ◌<◌, ◌+◌, ◌==◌, ℕ, Bool, true, false, nat_eq, List, length, Option, Some, None, Result, Ok, Err, if◌then◌else◌}
use Rattle.std.specs.List.{starts_with}
use Rattle.sector_dev.specs.Disk.{Image}
use Rattle.arrow_schema.specs.Column.{PlainSchema}
use Rattle.cells.specs.Cell.{Cell, PlainTable}
use Rattle.cells.specs.Weight.{table_weight}
use Rattle.cells.specs.declared.limits.TheConstants.{MAX_TABLE_WEIGHT}
use Rattle.ipc_message.specs.declared.fault.Fault.{Fault}
use Rattle.ipc_message.specs.Header.{supported_codes}
use Rattle.ipc_stream.specs.Meaning.{meaning}
use Rattle.catalogue.specs.declared.entry.Segment.{Segment}
use Rattle.tables.specs.declared.refusal.Refusal.{Refusal}
use Rattle.tables.specs.declared.refusal.Refusal.TheVariants as refusals
use Rattle.store_runs.specs.Held.{is_undamaged, bytes_of, segment_rows}
use Rattle.store_runs.specs.Reading.{IsCopy, ArePast}

-- ---- with any front

-- the table that a stream means, if it has n rows
abbrev pub table_where : ℕ → Result PlainTable Fault → Option PlainTable
table_where count (Err fault) = None
table_where count (Ok table) = if length table.rows == count then Some table else None

-- the table that some bytes hold: a stream that begins with this front and means n rows
abbrev pub table_in_bytes : (front : List ℕ) → ℕ → Option (List ℕ) → Option PlainTable
table_in_bytes front count None = None
table_in_bytes front count (Some bytes) = if starts_with nat_eq bytes front then table_where count (meaning supported_codes bytes) else None

-- a table that was read of a segment: the bytes that were read hold it
pub record HasReadTable (tells : Bool) (image : Image) (front : List ℕ) (segment : Segment) (table : PlainTable) : Type 0 where
  pub bytes : List ℕ
  pub copy : IsCopy tells image segment bytes
  pub means : table_in_bytes front segment.rows (Some bytes) ≡ Some table

-- there is no table, or its rows are too heavy together with others of this weight
abbrev pub IsPast : (before : ℕ) → Option PlainTable → Type 0
IsPast before None = Unit {0}
IsPast before (Some table) = MAX_TABLE_WEIGHT < before + table_weight table.schema table.rows

-- why no table of the segment at this place is read: its bytes have another digest, or they have the same digest, and P holds of the table in them
abbrev pub LacksTable : (P : Option PlainTable → Type 0) → (tells : Bool) → Image → (front : List ℕ) → Segment → (place : ℕ) → Refusal → Type 0
LacksTable P tells image front segment place refusals.Device = Unit {0}
LacksTable P tells image front segment place refusals.OutOfMemory = Unit {0}
LacksTable P tells image front segment place (refusals.SegmentUnread other) =
    (other ≡ place)
    × (tells ≡ true → (is_undamaged segment.digest (bytes_of segment image) ≡ true) × P (table_in_bytes front segment.rows (bytes_of segment image)))
LacksTable P tells image front segment place (refusals.SegmentDamaged other) =
    (other ≡ place) × (tells ≡ true → is_undamaged segment.digest (bytes_of segment image) ≡ false)
LacksTable P tells image front segment place _ = ⊥

-- ---- with the message of a schema as the front

-- why the rows of the segment at this place can't be appended to these rows
abbrev pub UnreadsSegment : (tells : Bool) → Image → PlainSchema → List (List Cell) → Segment → (place : ℕ) → Refusal → Type 0
UnreadsSegment tells image schema rows segment place refusals.Device = Unit {0}
UnreadsSegment tells image schema rows segment place refusals.OutOfMemory = Unit {0}
UnreadsSegment tells image schema rows segment place (refusals.SegmentUnread other) =
    (other ≡ place) × (tells ≡ true → (is_undamaged segment.digest (bytes_of segment image) ≡ true) × ArePast schema rows (segment_rows schema segment image))
UnreadsSegment tells image schema rows segment place (refusals.SegmentDamaged other) =
    (other ≡ place) × (tells ≡ true → is_undamaged segment.digest (bytes_of segment image) ≡ false)
UnreadsSegment tells image schema rows segment place _ = ⊥

-- a call that reads fails only by its device or for lack of memory
abbrev pub FailsReading : Refusal → Type 0
FailsReading refusals.Device = Unit {0}
FailsReading refusals.OutOfMemory = Unit {0}
FailsReading _ = ⊥
