-- How a device or a store stands for a machine.
use Rattle.std.specs.Prelude.{◌≡◌, ◌⊎◌, ◌∷◌, ℕ, Bool, true, false, if◌then◌else◌, List, [], Some, None}
use Rattle.sector_dev.specs.Disk.{Story, Image, now, synced_image, shown_image, flushed}
use Rattle.sector_dev.specs.Time.{Grows, LeavesOnly}
use Rattle.sector_dev.specs.declared.device.SectorDevice.{Ghosts}
use Rattle.commit.specs.Standing.{is_size, used_runs, rules, Stands}
use Rattle.commit.specs.Opening.{IsOpening, standing_shown}
use Rattle.commit.specs.Placing.{Uses}
use Rattle.commit.specs.Ruling.{ruling}
use Rattle.commit.specs.Formatting.{first_commit, IsFormatting, IsFormatted, IsMadeEmpty}
use Rattle.commit.specs.declared.sector.Commit.{Commit}
use Rattle.commit.specs.declared.sector.FormatVersion.{FormatVersion}
use Rattle.catalogue.specs.Entries.{PlainCatalogue}
use Rattle.catalogue.specs.View.{catalogue_of}
use Rattle.export_book.specs.View as books
use Rattle.export_book.specs.Book.{PlainExport, PlainBook, no_exports, runs_kept}
use Rattle.catalogue.specs.Entries.{runs_in_segments}
use Rattle.tables.specs.Tables.{Tables, no_tables}
use Rattle.tables.specs.Commands.{PlainCommand}
use Rattle.tables.specs.Verdict.{after}
use Rattle.store.specs.declared.store.Store.{Store}
use Rattle.commit.specs.declared.opening_refusal.OpeningRefusal.{OpeningRefusal}
use Rattle.store_runs.specs.Calls.{PlainCall, done, shut_by}
use Rattle.store_runs.specs.Machine.{Export, no_store, holds, Setting, Machine, shut, running, halted, shut_down, Allows}
use Rattle.store_runs.specs.Runs.{Goes}
use Rattle.store_runs.specs.Held.{pieces_held, tables_held, held_by}
use Rattle.pages.specs.Stored.{stored_reading}

-- how a run on a device of this size is judged
abbrev pub setting_of : ℕ → Tables → Setting
setting_of size base = record { size = size; held = held_by size; base = base }

-- nothing was done yet
pub record IsFresh (base : Tables) (m : Machine) : Type 0 where
  pub settled : m.settled ≡ []
  pub doubt : m.doubt ≡ None
  pub began : base ≡ no_tables

-- each image that a stop may leave of the device is one that the machine allows
pub record DeviceFits {D : Type 0} (size : D → ℕ) (story : D → Story) (base : Tables) (m : Machine) (device : D) : Type 0 where
  pub in_limits : is_size (size device) ≡ true
  pub allows : LeavesOnly (Allows (setting_of (size device) base) m) (now (story device))
  pub fresh : m.started ≡ false → IsFresh base m

-- the device of a store
abbrev pub device_of : {D : Type 0} {g : Ghosts D} → Store D g → D
device_of store = store.device

-- the commit of a store
abbrev pub commit_of : {D : Type 0} {g : Ghosts D} → Store D g → Commit
commit_of store = store.opened.commit

-- the catalogue of a store
abbrev pub listed_in : {D : Type 0} {g : Ghosts D} → Store D g → PlainCatalogue
listed_in store = catalogue_of store.opened.catalogue.list

-- a store lies on its disk: its commit and its catalogue are found there, and everything is synced
abbrev pub IsOnDisk : {D : Type 0} {g : Ghosts D} → (size : D → ℕ) → (story : D → Story) → Store D g → Type 0
IsOnDisk size story store = Stands stored_reading (size (device_of store)) (now (story (device_of store))) (commit_of store) (listed_in store)

-- the exports that are open
abbrev pub book_of : {D : Type 0} {g : Ghosts D} → Store D g → PlainBook
book_of store = books.book_of store.book

-- its device failed, so it must be closed
abbrev pub is_halted : {D : Type 0} {g : Ghosts D} → Store D g → Bool
is_halted store = store.halted

-- an export of the book stands for one of the machine: it keeps the runs of its segments, and these hold the pieces
pub record ExportFits (image : Image) (b : PlainExport) (e : Export) : Type 0 where
  pub id : e.id ≡ b.id
  pub runs : e.runs ≡ runs_in_segments b.segments
  pub pieces : pieces_held b.schema b.segments image ≡ Some e.pieces
  pub given : e.given ≡ b.given

-- the same for two lists of equal length, element by element
abbrev pub ExportsFit : Image → List PlainExport → List Export → Type 0
ExportsFit image [] [] = Unit {0}
ExportsFit image (b ∷ bs) (e ∷ es) = ExportFits image b e × ExportsFit image bs es
ExportsFit image [] (e ∷ es) = ⊥
ExportsFit image (b ∷ bs) [] = ⊥

-- an open store: everything is on the disk, its tables are those of the settled commands, and its exports are those of the machine
pub record IsSound {D : Type 0} {g : Ghosts D} (size : D → ℕ) (story : D → Story) (base : Tables) (m : Machine) (store : Store D g) : Type 0 where
  pub stands : IsOnDisk size story store
  pub tables : tables_held (synced_image (now (story store.device))) (listed_in store) ≡ Some (after base m.settled)
  pub uses : Uses store.opened.map.entries (used_runs stored_reading store.opened.commit (listed_in store)) (runs_kept (book_of store).exports)
  pub none : m.doubt ≡ None
  pub exports : ExportsFit (synced_image (now (story store.device))) (book_of store).exports m.exports
  pub next : (book_of store).next ≡ m.next_id

pub record StoreFits {D : Type 0} {g : Ghosts D} (size : D → ℕ) (story : D → Story) (base : Tables) (m : Machine) (store : Store D g) : Type 0 where
  pub phase : m.phase ≡ (if store.halted then halted else running)
  pub started : m.started ≡ true
  pub device : DeviceFits size story base m store.device
  pub sound : m.phase ≡ running → IsSound size story base m store

-- a successful opening of any device: it found what reads showed, and synced it without a write, so the store lies on its disk; and the store is not
-- halted
pub record FindsStore {D : Type 0} {g : Ghosts D} (size : D → ℕ) (story : D → Story) (device : D) (store : Store D g) : Type 0 where
  pub found : standing_shown stored_reading (size device) (story device) ≡ rules store.opened.commit (listed_in store)
  pub moments : Grows (IsOpening (now (story device))) (story device) (story (device_of store))
  pub synced : now (story (device_of store)) ≡ flushed (now (story device))
  pub stands : IsOnDisk size story store
  pub uses : Uses store.opened.map.entries (used_runs stored_reading store.opened.commit (listed_in store)) []
  pub none_open : book_of store ≡ no_exports
  pub on : store.halted ≡ false

-- a successful formatting of any device: reads showed no store; the empty store is synced, and a stop during the formatting leaves the old content, no
-- store or the empty store
pub record FormatsStore {D : Type 0} {g : Ghosts D} (size : D → ℕ) (story : D → Story) (version : FormatVersion) (device : D) (store : Store D g) : Type 0 where
  pub none_before : ruling (shown_image (now (story device))) ≡ None
  pub moments : Grows (IsFormatting (size device) version (now (story device))) (story device) (story (device_of store))
  pub formatted : IsFormatted (size device) version (now (story device)) (now (story (device_of store)))
  pub stands : IsOnDisk size story store
  pub made : IsMadeEmpty (size device) version (shown_image (now (story device))) (shown_image (now (story (device_of store))))

-- the store that a formatting of a device of this size makes in this version: without tables, and not halted
pub record IsNewStore {D : Type 0} {g : Ghosts D} (size : ℕ) (version : FormatVersion) (store : Store D g) : Type 0 where
  pub empty : listed_in store ≡ []
  pub commit : commit_of store ≡ first_commit size version
  pub uses : Uses store.opened.map.entries (used_runs stored_reading (commit_of store) (listed_in store)) []
  pub none_open : book_of store ≡ no_exports
  pub on : store.halted ≡ false

-- a successful opening or formatting of a device: the machine continues as another one, and the store stands for that one
pub record Opens {D : Type 0} {g : Ghosts D} (size : D → ℕ) (story : D → Story) (failed : D → ℕ) (base : Tables) (m : Machine) (call : PlainCall) (device : D) (store : Store D g) : Type 0 where
  pub next : Machine
  pub same : size (device_of store) ≡ size device
  pub goes : Goes (setting_of (size device) base) m call done (story device) (story (device_of store)) (failed device) (failed (device_of store)) next
  pub fits : StoreFits size story base next store

-- a refused one: the place is shut, and the device stands for the machine
pub record Shuts {D : Type 0} (size : D → ℕ) (story : D → Story) (failed : D → ℕ) (base : Tables) (m : Machine) (call : PlainCall) (device : D) (refusal : OpeningRefusal) (back : D) : Type 0 where
  pub same : size back ≡ size device
  pub goes : Goes (setting_of (size device) base) m call (shut_by refusal) (story device) (story back) (failed device) (failed back) (shut_down m)
  pub fits : DeviceFits size story base (shut_down m) back

-- a run that begins with a device without a store, and one that begins with a store on it
abbrev pub fresh : Machine
fresh = record { started = false; phase = shut; settled = []; doubt = None; exports = []; next_id = 0 }

abbrev pub resumed : Machine
resumed = record { started = true; phase = shut; settled = []; doubt = None; exports = []; next_id = 0 }

-- one that begins after a command whose device failed once it had begun to write: the command may have been applied
abbrev pub doubting : PlainCommand → Machine
doubting c = record { started = true; phase = shut; settled = []; doubt = Some c; exports = []; next_id = 0 }

-- what a stop leaves after a formatting that failed: no store, or one without tables
abbrev pub HoldsNoneOrEmpty : ℕ → Image → Type 0
HoldsNoneOrEmpty size image = (held_by size image ≡ no_store) ⊎ (held_by size image ≡ holds no_tables)

-- and after a command whose device failed: these tables, or those after the command
abbrev pub HoldsWithOrWithout : ℕ → Tables → PlainCommand → Image → Type 0
HoldsWithOrWithout size t c image = (held_by size image ≡ holds t) ⊎ (held_by size image ≡ holds (after t (c ∷ [])))
