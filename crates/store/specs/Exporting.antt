-- Exports that give their pieces one after another, on any store: the answers, and the store after each call.
use Rattle.std.specs.Prelude.{◌≡◌, ◌==◌, ◌||◌, ℕ, Bool, true, false, zero, suc, if◌then◌else◌, List, length, slice_get, Option, Some, None}
use Rattle.sector_dev.specs.Disk.{Image, Story}
use Rattle.sector_dev.specs.declared.device.SectorDevice.{Ghosts}
use Rattle.segments.specs.Usages.{PinsAll, UnpinsAll}
use Rattle.ipc_write.specs.Written.{schema_message, end_of_stream}
use Rattle.catalogue.specs.declared.entry.Segment.{Segment}
use Rattle.catalogue.specs.Entries.{PlainEntry, runs_in_segments}
use Rattle.export_book.specs.Book.{PlainExport, PlainBook, is_full, with_open, with_given, without}
use Rattle.tables.specs.declared.refusal.Limit.TheVariants as limits
use Rattle.tables.specs.declared.refusal.Refusal.{Refusal}
use Rattle.tables.specs.declared.refusal.Refusal.TheVariants as refusals
use Rattle.store.specs.declared.store.Store.{Store}
use Rattle.store_runs.specs.Calls.{PlainReply, is_device_reply}
use Rattle.store.specs.Fits.{commit_of, listed_in, book_of, is_halted}
use Rattle.store_runs.specs.Reading.{LacksRows, OnlyReadsDevice, HasRows}

-- ---- opening

-- the refusals of the opening of an export of the table with this name
abbrev pub RefusesRoom : (full : Bool) → Refusal → Type 0
RefusesRoom true r = r ≡ refusals.TooMany limits.Exports
RefusesRoom false r = r ≡ refusals.OutOfMemory

abbrev pub RefusesExport : (halted : Bool) → Option PlainEntry → PlainBook → Refusal → Type 0
RefusesExport true found book r = r ≡ refusals.Halted
RefusesExport false None book r = r ≡ refusals.NoTable
RefusesExport false (Some e) book r = RefusesRoom (is_full book) r

-- an export of a table: its entry goes into the book under the next id, and the run of each of its segments gets one pin. Nothing else changes
pub record OpensExport {D : Type 0} {g : Ghosts D} (old : Store D g) (e : PlainEntry) (id : ℕ) (new : Store D g) : Type 0 where
  pub room : is_full (book_of old) ≡ false
  pub next : id ≡ (book_of old).next
  pub opened : book_of new ≡ with_open e.schema e.segments (book_of old)
  pub pins : PinsAll old.opened.map new.opened.map (runs_in_segments e.segments)
  pub commit : commit_of new ≡ commit_of old
  pub listed : listed_in new ≡ listed_in old
  pub on : is_halted new ≡ false

abbrev pub OpensAt : {D : Type 0} {g : Ghosts D} → (halted : Bool) → Option PlainEntry → (old : Store D g) → (id : ℕ) → (new : Store D g) → Type 0
OpensAt true found old id new = ⊥
OpensAt false None old id new = ⊥
OpensAt false (Some e) old id new = OpensExport old e id new

-- ---- giving

-- a piece of a segment; after the segments the end of stream, and then none
abbrev pub OfSegment : (tells : Bool) → Image → PlainExport → Option Segment → (place : ℕ) → Option (List ℕ) → Type 0
OfSegment tells image e (Some g) place piece = HasRows tells image e.schema g piece
OfSegment tells image e None place piece = piece ≡ (if place == length e.segments then Some end_of_stream else None)

-- the piece of this number: the message of the schema is the first
abbrev pub PieceIs : (tells : Bool) → Image → PlainExport → (number : ℕ) → Option (List ℕ) → Type 0
PieceIs tells image e zero piece = piece ≡ Some (schema_message e.schema)
PieceIs tells image e (suc place) piece = OfSegment tells image e (slice_get e.segments place) place piece

-- the piece after those that were given
abbrev pub GivesPiece : (halted tells : Bool) → Image → Option PlainExport → Option (List ℕ) → Type 0
GivesPiece true tells image found piece = ⊥
GivesPiece false tells image None piece = ⊥
GivesPiece false tells image (Some e) piece = PieceIs tells image e e.given piece

-- a piece is counted; `None` is not
abbrev pub after_giving : Option (List ℕ) → ℕ → PlainBook → PlainBook
after_giving None id b = b
after_giving (Some piece) id b = with_given id b

-- the refusals of the next piece: the device is read only for a segment
abbrev pub RefusesSegment : (tells : Bool) → Image → PlainExport → Option Segment → (place : ℕ) → Refusal → Type 0
RefusesSegment tells image e (Some g) place r = LacksRows tells image e.schema g place r
RefusesSegment tells image e None place r = (place ≡ length e.segments) × (r ≡ refusals.OutOfMemory)

abbrev pub RefusesNumber : (tells : Bool) → Image → PlainExport → (number : ℕ) → Refusal → Type 0
RefusesNumber tells image e zero r = r ≡ refusals.OutOfMemory
RefusesNumber tells image e (suc place) r = RefusesSegment tells image e (slice_get e.segments place) place r

abbrev pub RefusesPiece : (halted tells : Bool) → Image → Option PlainExport → Refusal → Type 0
RefusesPiece true tells image found r = r ≡ refusals.Halted
RefusesPiece false tells image None r = r ≡ refusals.NoExport
RefusesPiece false tells image (Some e) r = RefusesNumber tells image e e.given r

-- a call that reads for an export: the store stays as it is except for the book, unless its device failed
pub record ReadsForExport {D : Type 0} {g : Ghosts D} (size : D → ℕ) (story : D → Story) (failed : D → ℕ) (tells : Bool) (reply : PlainReply) (old new : Store D g) : Type 0 where
  pub device : OnlyReadsDevice size story failed tells reply old.device new.device
  pub kept : new.opened ≡ old.opened
  pub halts : new.halted ≡ (old.halted || is_device_reply reply)

-- ---- closing

abbrev pub RefusesClosing : (halted : Bool) → Option PlainExport → Refusal → Type 0
RefusesClosing true found r = r ≡ refusals.Halted
RefusesClosing false None r = r ≡ refusals.NoExport
RefusesClosing false (Some e) r = ⊥

-- an export is closed: each of its runs loses one pin. Nothing else changes
pub record ClosesExport {D : Type 0} {g : Ghosts D} (old : Store D g) (id : ℕ) (e : PlainExport) (new : Store D g) : Type 0 where
  pub closed : book_of new ≡ without id (book_of old)
  pub pins : UnpinsAll old.opened.map new.opened.map (runs_in_segments e.segments)
  pub commit : commit_of new ≡ commit_of old
  pub listed : listed_in new ≡ listed_in old
  pub on : is_halted new ≡ false

abbrev pub ClosesAt : {D : Type 0} {g : Ghosts D} → (halted : Bool) → Option PlainExport → (old : Store D g) → (id : ℕ) → (new : Store D g) → Type 0
ClosesAt true found old id new = ⊥
ClosesAt false None old id new = ⊥
ClosesAt false (Some e) old id new = ClosesExport old id e new
