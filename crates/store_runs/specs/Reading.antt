-- The answers to a read of a table, by what reads of the device show, and the device after it.
use Rattle.std.specs.Prelude.{◌≡◌, ◌≤◌, ◌<◌, ◌++◌, ℕ, Bool, true, false, List, [], ◌∷◌, length, take, slice_get, Option, Some, None, Result, Ok, Err}
use Rattle.sector_dev.specs.Disk.{Image, Story}
use Rattle.sector_dev.specs.Time.{OnlyReads}
use Rattle.arrow_schema.specs.Column.{PlainSchema}
use Rattle.cells.specs.Cell.{Cell, PlainTable}
use Rattle.cells.specs.Weight.{table_weight}
use Rattle.cells.specs.declared.limits.TheConstants.{MAX_TABLE_WEIGHT}
use Rattle.values.specs.Table.{IsTable}
use Rattle.catalogue.specs.declared.entry.Segment.{Segment}
use Rattle.catalogue.specs.Entries.{PlainEntry, row_count}
use Rattle.tables.specs.declared.refusal.Refusal.{Refusal}
use Rattle.tables.specs.declared.refusal.Refusal.TheVariants as refusals
use Rattle.store_runs.specs.Calls.{PlainReply, done, refused, counted}
use Rattle.store_runs.specs.Held.{is_undamaged, bytes_of, rows_in_bytes, segment_rows, rows_held, table_held}
use Rattle.ipc_canonical.specs.Canonical.{rows_messages}

-- ---- a segment

-- bytes that were read of a segment: as many as its entry says, with the digest of the entry if it has one; if the device tells its story, they are the
-- bytes in the segment
pub record IsCopy (tells : Bool) (image : Image) (g : Segment) (bytes : List ℕ) : Type 0 where
  pub count : length bytes ≡ g.place.bytes
  pub undamaged : is_undamaged g.digest (Some bytes) ≡ true
  pub held : tells ≡ true → bytes_of g image ≡ Some bytes

-- why the bytes of the segment at this place are not returned: a sector can't be read, or they have another digest. The reported place is its own
abbrev pub LacksBytes : (tells : Bool) → Image → Segment → (place : ℕ) → Refusal → Type 0
LacksBytes tells image g place refusals.Device = Unit {0}
LacksBytes tells image g place refusals.OutOfMemory = Unit {0}
LacksBytes tells image g place (refusals.SegmentUnread other) = (other ≡ place) × (tells ≡ true → bytes_of g image ≡ None)
LacksBytes tells image g place (refusals.SegmentDamaged other) = (other ≡ place) × (tells ≡ true → is_undamaged g.digest (bytes_of g image) ≡ false)
LacksBytes tells image g place _ = ⊥

-- rows that were read of a segment: the bytes that were read mean them
pub record HasRead (tells : Bool) (image : Image) (schema : PlainSchema) (g : Segment) (rows : List (List Cell)) : Type 0 where
  pub bytes : List ℕ
  pub copy : IsCopy tells image g bytes
  pub means : rows_in_bytes schema g.rows (Some bytes) ≡ Some rows

-- why the rows of the segment at this place are not returned: its bytes have another digest, or they have the same digest and mean no such rows
abbrev pub LacksRows : (tells : Bool) → Image → PlainSchema → Segment → (place : ℕ) → Refusal → Type 0
LacksRows tells image schema g place refusals.Device = Unit {0}
LacksRows tells image schema g place refusals.OutOfMemory = Unit {0}
LacksRows tells image schema g place (refusals.SegmentUnread other) =
    (other ≡ place) × (tells ≡ true → (is_undamaged g.digest (bytes_of g image) ≡ true) × (segment_rows schema g image ≡ None))
LacksRows tells image schema g place (refusals.SegmentDamaged other) = (other ≡ place) × (tells ≡ true → is_undamaged g.digest (bytes_of g image) ≡ false)
LacksRows tells image schema g place _ = ⊥

-- rows that were read of segments, one after another
abbrev pub HaveRead : (tells : Bool) → Image → PlainSchema → List Segment → List (List Cell) → Type 0
HaveRead tells image schema [] rows = rows ≡ []
HaveRead tells image schema (g ∷ gs) rows =
    (own others : List (List Cell)) × HasRead tells image schema g own × HaveRead tells image schema gs others × (rows ≡ own ++ others)

-- ---- a table

-- after these rows a segment has no rows that can be read, or rows that are too heavy together with these
abbrev pub ArePast : PlainSchema → List (List Cell) → Option (List (List Cell)) → Type 0
ArePast schema rows None = Unit {0}
ArePast schema rows (Some more) = MAX_TABLE_WEIGHT < table_weight schema (rows ++ more)

-- the segment at this place, counted from 0, is the first that does not hold its rows, or whose rows exceed the weight of a table; its bytes have the
-- digest of its entry, if there are both
pub record IsUnread (image : Image) (e : PlainEntry) (place : ℕ) : Type 0 where
  pub segment : Segment
  pub at : slice_get e.segments place ≡ Some segment
  pub rows : List (List Cell)
  pub before : rows_held e.schema (take place e.segments) image ≡ Some rows
  pub light : table_weight e.schema rows ≤ MAX_TABLE_WEIGHT
  pub undamaged : is_undamaged segment.digest (bytes_of segment image) ≡ true
  pub past : ArePast e.schema rows (segment_rows e.schema segment image)

-- the bytes of the segment at this place were read and have another digest than its entry; those before it hold their rows
pub record IsDamaged (image : Image) (e : PlainEntry) (place : ℕ) : Type 0 where
  pub segment : Segment
  pub at : slice_get e.segments place ≡ Some segment
  pub rows : List (List Cell)
  pub before : rows_held e.schema (take place e.segments) image ≡ Some rows
  pub light : table_weight e.schema rows ≤ MAX_TABLE_WEIGHT
  pub damaged : is_undamaged segment.digest (bytes_of segment image) ≡ false

-- why the table of an entry is not read; if the device does not tell its story, nothing is known about the image, but the segment is one of the entry's
abbrev pub Unreads : (tells : Bool) → Image → PlainEntry → Refusal → Type 0
Unreads tells image e refusals.Device = Unit {0}
Unreads tells image e refusals.OutOfMemory = Unit {0}
Unreads tells image e (refusals.SegmentUnread place) = (place < length e.segments) × (tells ≡ true → IsUnread image e place)
Unreads tells image e (refusals.SegmentDamaged place) = (place < length e.segments) × (tells ≡ true → IsDamaged image e place)
Unreads tells image e _ = ⊥

-- a table that was read for an entry: it has the entry's schema and as many rows as the entry says, and these come from bytes with the digests of its
-- segments; if the device tells its story, it is the table that the image holds
pub record IsRead (tells : Bool) (image : Image) (e : PlainEntry) (table : PlainTable) : Type 0 where
  pub kept : IsTable table
  pub schema : table.schema ≡ e.schema
  pub count : length table.rows ≡ row_count e
  pub read : HaveRead tells image e.schema e.segments table.rows
  pub held : tells ≡ true → table_held image e ≡ Some table

-- why the table of a name, with this entry if there is one, is not read
abbrev pub RefusesRead : (halted tells : Bool) → Image → Option PlainEntry → Refusal → Type 0
RefusesRead true tells image found r = r ≡ refusals.Halted
RefusesRead false tells image None r = r ≡ refusals.NoTable
RefusesRead false tells image (Some e) r = Unreads tells image e r

-- the entry of the table that was read: it has this table
abbrev pub ReadsTable : (halted tells : Bool) → Image → Option PlainEntry → PlainTable → Type 0
ReadsTable true tells image found table = ⊥
ReadsTable false tells image None table = ⊥
ReadsTable false tells image (Some e) table = IsRead tells image e table

-- how a call ended, as a reply, without the value that it returned
abbrev pub ended : {T : Type 0} → Result T Refusal → PlainReply
ended (Ok x) = done
ended (Err r) = refused r

-- calls of a device that only read: its size stays, and a failure is counted
pub record OnlyReadsDevice {D : Type 0} (size : D → ℕ) (story : D → Story) (failed : D → ℕ) (tells : Bool) (reply : PlainReply) (old new : D) : Type 0 where
  pub same : size new ≡ size old
  pub moments : tells ≡ true → OnlyReads (story old) (story new)
  pub count : failed new ≡ counted reply (failed old)

-- the messages of the rows that were read of a segment
abbrev pub HasRows : (tells : Bool) → Image → PlainSchema → Segment → Option (List ℕ) → Type 0
HasRows tells image schema g piece =
    (rows : List (List Cell)) × HasRead tells image schema g rows × (piece ≡ Some (rows_messages schema rows))
