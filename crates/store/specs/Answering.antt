-- The reply to each call and the place after it, on any device and any place, even one that stands for no machine, such as one with a damaged store.
use Rattle.std.specs.Prelude.{◌≡◌, ◌≢◌, ◌⊎◌, ◌↔◌, ℕ, Bool, true, false, List, [], ◌∷◌, Option, Some, None, option_map, Result, Ok, Err, IfSome, IfOk, IfErr, OnOk}
use Rattle.sector_dev.specs.Disk.{Story, Image, now, shown_image}
use Rattle.sector_dev.specs.Time.{Grows, OnlyReads}
use Rattle.sector_dev.specs.declared.device.SectorDevice.{Ghosts}
use Rattle.cells.specs.Cell.{PlainTable}
use Rattle.ipc_canonical.specs.Canonical.{canonical}
use Rattle.catalogue.specs.Entries.{PlainEntry, PlainCatalogue}
use Rattle.catalogue.specs.Edits.{entry_of, tables_of}
use Rattle.commit.specs.Standing.{is_size}
use Rattle.commit.specs.Opening.{IsOpening, standing_shown}
use Rattle.commit.specs.Ruling.{ruling}
use Rattle.commit.specs.declared.sector.FormatVersion.{FormatVersion}
use Rattle.commit.specs.declared.sector.FormatVersion.TheVariants.{Two}
use Rattle.commit.specs.Formatting.{IsFormatting}
use Rattle.commit.specs.declared.cause.Cause.TheVariants.{DeviceSize}
use Rattle.tables.specs.declared.refusal.Refusal.{Refusal}
use Rattle.tables.specs.declared.refusal.Refusal.TheVariants as refusals
use Rattle.tables.specs.Tables.{Tables}
use Rattle.tables.specs.Commands.{PlainCommand, all_of, commands_of}
use Rattle.store.specs.declared.store.Store.{Store}
use Rattle.store.specs.declared.call.Call.{Call}
use Rattle.store.specs.declared.call.StoreOrDevice.{StoreOrDevice}
use Rattle.store.specs.declared.call.StoreOrDevice.TheVariants as places
use Rattle.commit.specs.declared.opening_refusal.OpeningRefusal.{OpeningRefusal}
use Rattle.commit.specs.declared.opening_refusal.OpeningRefusal.TheVariants as openings
use Rattle.store_runs.specs.Calls.{PlainCall, apply_call, format_call, open_call, close_call, tables_call, schema_call, read_call, export_call, stream_call, open_export_call, export_next_call, close_export_call, compact_call, upgrade_call, PlainReply, done, counts, schema_is, table_is, bytes_are, export_is, piece_is, nothing, refused, refused_at, shut_by, counted}
use Rattle.store.specs.Opening.{TellsOpening, TellsFormatting, IsOfFormatting}
use Rattle.pages.specs.Stored.{stored_reading}
use Rattle.store_runs.specs.Machine.{Machine}
use Rattle.store.specs.Fits.{StoreFits, book_of, device_of, commit_of, listed_in, is_halted, IsOnDisk, FindsStore, FormatsStore, IsNewStore}
use Rattle.store_runs.specs.Deciding.{reads_device}
use Rattle.store_runs.specs.Held.{each_listed}
use Rattle.store_changes.specs.Verdicts.{IsRefusedAt}
use Rattle.store.specs.Applying.{GoesOn, IsApplied, IsKept, IsApplyingAtEachMoment, IsDoneOnDisk, KeepsEachTable}
use Rattle.store.specs.Listing.{RefusesTables, RefusesSchema}
use Rattle.store_runs.specs.Reading.{RefusesRead, ReadsTable, ended}
use Rattle.store.specs.Reading.{OnlyReadsStore}
use Rattle.store_runs.specs.declared.compacting.Compaction.{Compaction}
use Rattle.store_runs.specs.declared.compacting.Compaction.TheVariants as compactions
use Rattle.store_changes.specs.Exchanging.{Shrinks}
use Rattle.store.specs.Compacting.{step_reply, HasStepped, RefusesStep, IsSteppingAtEachMoment, HasSteppedOnDisk}
use Rattle.store.specs.declared.upgrading.Upgraded.{Upgraded}
use Rattle.store.specs.declared.upgrading.Upgraded.TheVariants as upgradeds
use Rattle.store.specs.Upgrading.{upgrade_ended, HasUpgraded, RefusesUpgrade, IsUpgradingAtEachMoment, HasUpgradedOnDisk}
use Rattle.export_book.specs.Book.{no_exports, open_at}
use Rattle.store.specs.Exporting.{RefusesExport, OpensAt, GivesPiece, after_giving, RefusesPiece, ReadsForExport, RefusesClosing, ClosesAt}
use Rattle.store.specs.Places.{IsCallOf, AreCallsOf, device_in, PlaceFits, PlaceGoes, PlaceRuns}

-- ---- the place after a call

abbrev pub IsOpenWith : {D : Type 0} {g : Ghosts D} → (Store D g → Type 0) → StoreOrDevice D g → Type 0
IsOpenWith P (places.Open store) = P store
IsOpenWith P (places.Shut device) = ⊥

abbrev pub IsShutWith : {D : Type 0} {g : Ghosts D} → (D → Type 0) → StoreOrDevice D g → Type 0
IsShutWith P (places.Open store) = ⊥
IsShutWith P (places.Shut device) = P device

-- ---- calls of a device

-- a refusal by the size of a device, before any call of it
abbrev pub RefusesSize : {D : Type 0} → (size : D → ℕ) → (story : D → Story) → D → OpeningRefusal → D → Type 0
RefusesSize size story device refusal back = is_size (size device) ≡ false → (refusal ≡ openings.Damaged DeviceSize) × (story back ≡ story device)

-- a device that was not opened: what is reported about it is true, and no moment has a write
pub record LeavesUnopened {D : Type 0} (size : D → ℕ) (story : D → Story) (tells : Bool) (device : D) (refusal : OpeningRefusal) (back : D) : Type 0 where
  pub told : tells ≡ true → TellsOpening refusal (standing_shown stored_reading (size device) (story device))
  pub not_already : refusal ≢ openings.AlreadyAStore
  pub quiet : refusal ≢ openings.Device → tells ≡ true → now (story back) ≡ now (story device)
  pub moments : tells ≡ true → Grows (IsOpening (now (story device))) (story device) (story back)
  pub limits : RefusesSize size story device refusal back

-- and one that was not formatted in this version
pub record LeavesUnformatted {D : Type 0} (size : D → ℕ) (story : D → Story) (tells : Bool) (version : FormatVersion) (device : D) (refusal : OpeningRefusal) (back : D) : Type 0 where
  pub told : tells ≡ true → TellsFormatting refusal (size device) (ruling (shown_image (now (story device))))
  pub reason : IsOfFormatting (size device) refusal
  pub untouched : tells ≡ true → ruling (shown_image (now (story device))) ≢ None → OnlyReads (story device) (story back)
  pub quiet : refusal ≢ openings.Device → tells ≡ true → now (story back) ≡ now (story device)
  pub moments : tells ≡ true → Grows (IsFormatting (size device) version (now (story device))) (story device) (story back)
  pub limits : RefusesSize size story device refusal back

abbrev pub AnswersOpening : {D : Type 0} {g : Ghosts D} → (size : D → ℕ) → (story : D → Story) → (tells : Bool) → D → PlainReply → StoreOrDevice D g → Type 0
AnswersOpening size story tells device done new =
    (is_size (size device) ≡ true)
    × IsOpenWith (λ store. (is_halted store ≡ false) × (book_of store ≡ no_exports) × (tells ≡ true → FindsStore size story device store)) new
AnswersOpening size story tells device (shut_by refusal) new = IsShutWith (λ back. LeavesUnopened size story tells device refusal back) new
AnswersOpening size story tells device _ new = ⊥

-- a formatting makes a store of version 2
abbrev pub AnswersFormatting : {D : Type 0} {g : Ghosts D} → (size : D → ℕ) → (story : D → Story) → (tells : Bool) → D → PlainReply → StoreOrDevice D g → Type 0
AnswersFormatting size story tells device done new =
    (is_size (size device) ≡ true) × IsOpenWith (λ store. IsNewStore (size device) Two store × (tells ≡ true → FormatsStore size story Two device store)) new
AnswersFormatting size story tells device (shut_by refusal) new = IsShutWith (λ back. LeavesUnformatted size story tells Two device refusal back) new
AnswersFormatting size story tells device _ new = ⊥

-- ---- calls of an open store

-- a command: its effect or its refusal, and the state at each moment and at the end; the open exports stay as they are
pub record Applies {D : Type 0} {g : Ghosts D} (size : D → ℕ) (story : D → Story) (tells : Bool) (old : Store D g) (command : PlainCommand) (result : Result (Unit {0}) Refusal) (new : Store D g) : Type 0 where
  pub applied : is_halted old ≡ false → IsApplied size story tells old command result new
  pub refused : IfErr result (λ e. IsKept old new)
  pub quiet : IfErr result (λ e. e ≢ refusals.Device → reads_device command ≡ false → story (device_of new) ≡ story (device_of old))
  pub reads : IfErr result (λ e. e ≢ refusals.Device → tells ≡ true → OnlyReads (story (device_of old)) (story (device_of new)))
  pub halted : (result ≡ Err refusals.Halted) ↔ (is_halted old ≡ true)
  pub still : is_halted old ≡ true → new ≡ old
  pub halts : is_halted old ≡ false → (is_halted new ≡ true) ↔ (result ≡ Err refusals.Device)
  pub writes : is_halted old ≡ false → tells ≡ true → IsOnDisk size story old → IsApplyingAtEachMoment size story old command new
  pub written : OnOk result (tells ≡ true → IsOnDisk size story old → IsDoneOnDisk size story old command new)
  pub book : book_of new ≡ book_of old

-- a list of commands is refused for the one at this place
abbrev pub IsLineRefused : (tells : Bool) → Image → PlainCatalogue → PlainCommand → (place : ℕ) → Refusal → Type 0
IsLineRefused tells image c command place r = (commands : List PlainCommand) × (command ≡ all_of (commands_of commands)) × IsRefusedAt tells image c commands place r

abbrev pub AnswersCommand : {D : Type 0} {g : Ghosts D} → (size : D → ℕ) → (story : D → Story) → (tells : Bool) → Store D g → PlainCommand → PlainReply → Store D g → Type 0
AnswersCommand size story tells old command done new = Applies size story tells old command (Ok tt) new
AnswersCommand size story tells old command (refused r) new = Applies size story tells old command (Err r) new
AnswersCommand size story tells old command (refused_at place r) new = Applies size story tells old command (Err r) new × IsLineRefused tells (shown_image (now (story (device_of old)))) (listed_in old) command place r
AnswersCommand size story tells old command _ new = ⊥

-- a command whose bytes come from a reader: it is answered as that command, or a read failed, and nothing is changed
abbrev pub TakesStream : {D : Type 0} {g : Ghosts D} → (size : D → ℕ) → (story : D → Story) → (tells : Bool) → Store D g → PlainCommand → Result (Unit {0}) Refusal → Store D g → Type 0
TakesStream size story tells old command result new = Applies size story tells old command result new ⊎ ((result ≡ Err refusals.Read) × (is_halted old ≡ false) × (new ≡ old))

abbrev pub AnswersStream : {D : Type 0} {g : Ghosts D} → (size : D → ℕ) → (story : D → Story) → (tells : Bool) → Store D g → PlainCommand → PlainReply → Store D g → Type 0
AnswersStream size story tells old command done new = TakesStream size story tells old command (Ok tt) new
AnswersStream size story tells old command (refused r) new = TakesStream size story tells old command (Err r) new
AnswersStream size story tells old command _ new = ⊥

-- a command with all that a reader had left, if that is known: its effect on a store that stands for a machine, and on any store
pub record TakesInput {D : Type 0} {g : Ghosts D} (size : D → ℕ) (story : D → Story) (failed : D → ℕ) (tells : Bool) (input : Option (List ℕ)) (command : List ℕ → PlainCommand) (old : Store D g)
    (result : Result (Unit {0}) Refusal) (new : Store D g) : Type 0 where
  pub bytes : List ℕ
  pub all : IfSome input (λ all. bytes ≡ all)
  pub goes : tells ≡ true → (base : Tables) (m : Machine) → StoreFits size story base m old
      → GoesOn size story failed base m (stream_call (command bytes)) (ended result) old new
  pub takes : TakesStream size story tells old (command bytes) result new

-- the names of the tables: those of the catalogue
abbrev pub AnswersTables : {D : Type 0} {g : Ghosts D} → Store D g → PlainReply → Type 0
AnswersTables old (counts ns) = (is_halted old ≡ false) × (ns ≡ tables_of (listed_in old))
AnswersTables old (refused r) = RefusesTables (is_halted old) r
AnswersTables old _ = ⊥

-- a schema: that of the catalogue's entry
abbrev pub AnswersSchema : {D : Type 0} {g : Ghosts D} → Store D g → List ℕ → PlainReply → Type 0
AnswersSchema old name (schema_is schema) = (is_halted old ≡ false) × (option_map (λ (e : PlainEntry). e.schema) (entry_of (listed_in old) name) ≡ Some schema)
AnswersSchema old name (refused r) = RefusesSchema (is_halted old) (entry_of (listed_in old) name) r
AnswersSchema old name _ = ⊥

-- a table: what reads show of the catalogue's entry
abbrev pub AnswersRead : (halted tells : Bool) → Image → Option PlainEntry → PlainReply → Type 0
AnswersRead halted tells image found (table_is table) = ReadsTable halted tells image found table
AnswersRead halted tells image found (refused r) = RefusesRead halted tells image found r
AnswersRead halted tells image found _ = ⊥

-- its stream
abbrev pub AnswersExport : (halted tells : Bool) → Image → Option PlainEntry → PlainReply → Type 0
AnswersExport halted tells image found (bytes_are bytes) = (t : PlainTable) × ReadsTable halted tells image found t × (bytes ≡ canonical t)
AnswersExport halted tells image found (refused r) = RefusesRead halted tells image found r
AnswersExport halted tells image found _ = ⊥

-- an export that is opened, on a device that is not called
abbrev pub AnswersOpenExport : {D : Type 0} {g : Ghosts D} → (size : D → ℕ) → (story : D → Story) → (failed : D → ℕ) → (tells : Bool) → Store D g → List ℕ → PlainReply → Store D g → Type 0
AnswersOpenExport size story failed tells old name (export_is id) new = OpensAt (is_halted old) (entry_of (listed_in old) name) old id new × (device_of new ≡ device_of old)
AnswersOpenExport size story failed tells old name (refused r) new =
    RefusesExport (is_halted old) (entry_of (listed_in old) name) (book_of old) r × OnlyReadsStore size story failed tells (refused r) old new × (device_of new ≡ device_of old)
AnswersOpenExport size story failed tells old name _ new = ⊥

-- its next piece
abbrev pub AnswersNext : {D : Type 0} {g : Ghosts D} → (size : D → ℕ) → (story : D → Story) → (failed : D → ℕ) → (tells : Bool) → Store D g → ℕ → PlainReply → Store D g → Type 0
AnswersNext size story failed tells old id (piece_is piece) new =
    GivesPiece (is_halted old) tells (shown_image (now (story (device_of old)))) (open_at (book_of old) id) piece
    × (book_of new ≡ after_giving piece id (book_of old)) × ReadsForExport size story failed tells done old new
AnswersNext size story failed tells old id (refused r) new =
    RefusesPiece (is_halted old) tells (shown_image (now (story (device_of old)))) (open_at (book_of old) id) r
    × (book_of new ≡ book_of old) × ReadsForExport size story failed tells (refused r) old new
AnswersNext size story failed tells old id _ new = ⊥

-- and its closing
abbrev pub AnswersCloseExport : {D : Type 0} {g : Ghosts D} → (size : D → ℕ) → (story : D → Story) → (failed : D → ℕ) → (tells : Bool) → Store D g → ℕ → PlainReply → Store D g → Type 0
AnswersCloseExport size story failed tells old id done new = ClosesAt (is_halted old) (open_at (book_of old) id) old id new × (device_of new ≡ device_of old)
AnswersCloseExport size story failed tells old id (refused r) new =
    RefusesClosing (is_halted old) (open_at (book_of old) id) r × OnlyReadsStore size story failed tells (refused r) old new × (device_of new ≡ device_of old)
AnswersCloseExport size story failed tells old id _ new = ⊥

-- a step of a compaction: its effect or its refusal, and the state at each moment and at the end
pub record Compacts {D : Type 0} {g : Ghosts D} (size : D → ℕ) (story : D → Story) (failed : D → ℕ) (tells : Bool) (old : Store D g) (result : Result Compaction Refusal) (new : Store D g) : Type 0 where
  pub step : IfOk result (λ done. HasStepped size story tells old done new)
  pub told : IfErr result (λ e. RefusesStep size story tells (is_halted old) old e new)
  pub shrinks : IfOk result (λ done. done ≢ compactions.Nothing → Shrinks (listed_in old) (listed_in new))
  pub idle : result ≡ Ok compactions.Nothing → OnlyReadsStore size story failed tells nothing old new
  pub kept : IfErr result (λ e. IsKept old new)
  pub reads : IfErr result (λ e. e ≢ refusals.Device → tells ≡ true → OnlyReads (story (device_of old)) (story (device_of new)))
  pub halted : (result ≡ Err refusals.Halted) ↔ (is_halted old ≡ true)
  pub still : is_halted old ≡ true → new ≡ old
  pub halts : is_halted old ≡ false → (is_halted new ≡ true) ↔ (result ≡ Err refusals.Device)
  pub writes : tells ≡ true → IsOnDisk size story old → IsSteppingAtEachMoment size story tells old new
  pub written : IfOk result (λ done. done ≢ compactions.Nothing → tells ≡ true → IsOnDisk size story old → HasSteppedOnDisk size story tells old done new)
  pub each_table : tells ≡ true → IsOnDisk size story old → KeepsEachTable size story old new
  pub listed : each_listed (listed_in new) ≡ each_listed (listed_in old)
  pub book : book_of new ≡ book_of old

abbrev pub AnswersCompact : {D : Type 0} {g : Ghosts D} → (size : D → ℕ) → (story : D → Story) → (failed : D → ℕ) → (tells : Bool) → Store D g → PlainReply → Store D g → Type 0
AnswersCompact size story failed tells old reply new = (result : Result Compaction Refusal) × (reply ≡ step_reply result) × Compacts size story failed tells old result new

-- an upgrade, in the same words
pub record Upgrades {D : Type 0} {g : Ghosts D} (size : D → ℕ) (story : D → Story) (tells : Bool) (old : Store D g) (result : Result Upgraded Refusal) (new : Store D g) : Type 0 where
  pub upgraded : IfOk result (λ upgraded. HasUpgraded size story tells old upgraded new)
  pub told : IfErr result (λ e. RefusesUpgrade size story tells (is_halted old) old e new)
  pub already : is_halted old ≡ false → (commit_of old).version ≡ Two → result ≡ Ok upgradeds.Already
  pub kept : IfErr result (λ e. IsKept old new)
  pub reads : IfErr result (λ e. e ≢ refusals.Device → tells ≡ true → OnlyReads (story (device_of old)) (story (device_of new)))
  pub halted : (result ≡ Err refusals.Halted) ↔ (is_halted old ≡ true)
  pub still : is_halted old ≡ true → new ≡ old
  pub halts : is_halted old ≡ false → (is_halted new ≡ true) ↔ (result ≡ Err refusals.Device)
  pub writes : tells ≡ true → IsOnDisk size story old → IsUpgradingAtEachMoment size story tells old new
  pub written : IfOk result (λ upgraded. upgraded ≡ upgradeds.Done → tells ≡ true → IsOnDisk size story old → HasUpgradedOnDisk size story tells old new)
  pub each_table : tells ≡ true → IsOnDisk size story old → KeepsEachTable size story old new
  pub listed : each_listed (listed_in new) ≡ each_listed (listed_in old)
  pub book : book_of new ≡ book_of old

abbrev pub AnswersUpgrade : {D : Type 0} {g : Ghosts D} → (size : D → ℕ) → (story : D → Story) → (tells : Bool) → Store D g → PlainReply → Store D g → Type 0
AnswersUpgrade size story tells old reply new = (result : Result Upgraded Refusal) × (reply ≡ upgrade_ended result) × Upgrades size story tells old result new

abbrev pub AnswersOpen : {D : Type 0} {g : Ghosts D} → (size : D → ℕ) → (story : D → Story) → (failed : D → ℕ) → (tells : Bool) → Store D g → PlainCall → PlainReply → StoreOrDevice D g → Type 0
AnswersOpen size story failed tells old (apply_call c) reply new = IsOpenWith (λ store. AnswersCommand size story tells old c reply store) new
AnswersOpen size story failed tells old format_call reply new = AnswersFormatting size story tells (device_of old) reply new
AnswersOpen size story failed tells old open_call reply new = AnswersOpening size story tells (device_of old) reply new
AnswersOpen size story failed tells old close_call reply new = (reply ≡ done) × (new ≡ places.Shut (device_of old))
AnswersOpen size story failed tells old tables_call reply new = AnswersTables old reply × (new ≡ places.Open old)
AnswersOpen size story failed tells old (schema_call name) reply new = AnswersSchema old name reply × (new ≡ places.Open old)
AnswersOpen size story failed tells old (read_call name) reply new =
    AnswersRead (is_halted old) tells (shown_image (now (story (device_of old)))) (entry_of (listed_in old) name) reply
    × IsOpenWith (λ store. OnlyReadsStore size story failed tells reply old store) new
AnswersOpen size story failed tells old (export_call name) reply new =
    AnswersExport (is_halted old) tells (shown_image (now (story (device_of old)))) (entry_of (listed_in old) name) reply
    × IsOpenWith (λ store. OnlyReadsStore size story failed tells reply old store) new
AnswersOpen size story failed tells old (stream_call c) reply new = IsOpenWith (λ store. AnswersStream size story tells old c reply store) new
AnswersOpen size story failed tells old (open_export_call name) reply new = IsOpenWith (λ store. AnswersOpenExport size story failed tells old name reply store) new
AnswersOpen size story failed tells old (export_next_call id) reply new = IsOpenWith (λ store. AnswersNext size story failed tells old id reply store) new
AnswersOpen size story failed tells old (close_export_call id) reply new = IsOpenWith (λ store. AnswersCloseExport size story failed tells old id reply store) new
AnswersOpen size story failed tells old compact_call reply new = IsOpenWith (λ store. AnswersCompact size story failed tells old reply store) new
AnswersOpen size story failed tells old upgrade_call reply new = IsOpenWith (λ store. AnswersUpgrade size story tells old reply store) new

-- ---- calls of a place

-- if no store is open, a call that needs one is refused, and nothing happens
abbrev pub AnswersShut : {D : Type 0} {g : Ghosts D} → (size : D → ℕ) → (story : D → Story) → (tells : Bool) → D → PlainCall → PlainReply → StoreOrDevice D g → Type 0
AnswersShut size story tells device format_call reply new = AnswersFormatting size story tells device reply new
AnswersShut size story tells device open_call reply new = AnswersOpening size story tells device reply new
AnswersShut size story tells device _ reply new = (reply ≡ refused refusals.Halted) × (new ≡ places.Shut device)

abbrev pub AnswersPlace : {D : Type 0} {g : Ghosts D} → (size : D → ℕ) → (story : D → Story) → (failed : D → ℕ) → (tells : Bool) → StoreOrDevice D g → PlainCall → PlainReply → StoreOrDevice D g → Type 0
AnswersPlace size story failed tells (places.Open store) call reply new = AnswersOpen size story failed tells store call reply new
AnswersPlace size story failed tells (places.Shut device) call reply new = AnswersShut size story tells device call reply new

-- one call: its device keeps its size, and counts a failure if the reply reports one
pub record Answers {D : Type 0} {g : Ghosts D} (size : D → ℕ) (story : D → Story) (failed : D → ℕ) (tells : Bool) (old : StoreOrDevice D g) (call : PlainCall) (reply : PlainReply) (new : StoreOrDevice D g) : Type 0 where
  pub answers : AnswersPlace size story failed tells old call reply new
  pub same : size (device_in new) ≡ size (device_in old)
  pub count : failed (device_in new) ≡ counted reply (failed (device_in old))

-- a call, and then P of the place after it
pub record AnswersThen {D : Type 0} {g : Ghosts D} (size : D → ℕ) (story : D → Story) (failed : D → ℕ) (tells : Bool) (old : StoreOrDevice D g) (call : PlainCall) (reply : PlainReply) (P : StoreOrDevice D g → Type 0) : Type 0 where
  pub next : StoreOrDevice D g
  pub one : Answers size story failed tells old call reply next
  pub others : P next

-- and calls one after another
unfoldable pub AnswersEach : {D : Type 0} {g : Ghosts D} → (size : D → ℕ) → (story : D → Story) → (failed : D → ℕ) → (tells : Bool) → StoreOrDevice D g → List PlainCall → List PlainReply → StoreOrDevice D g → Type 0
AnswersEach size story failed tells old [] [] new = new ≡ old
AnswersEach size story failed tells old (call ∷ calls) (reply ∷ replies) new =
    AnswersThen size story failed tells old call reply (λ next. AnswersEach size story failed tells next calls replies new)
AnswersEach size story failed tells old [] (reply ∷ replies) new = ⊥
AnswersEach size story failed tells old (call ∷ calls) [] new = ⊥

-- ---- calls of the code

-- one call, as plain data: its effect on a place that stands for a machine, and on any place
pub record AnswersAs {D : Type 0} {g : Ghosts D} (size : D → ℕ) (story : D → Story) (failed : D → ℕ) (tells : Bool) (Is : PlainCall → Type 0) (old : StoreOrDevice D g) (reply : PlainReply) (new : StoreOrDevice D g) : Type 0 where
  pub plain : PlainCall
  pub is : Is plain
  pub goes : tells ≡ true → (base : Tables) (m : Machine) → PlaceFits size story base m old → PlaceGoes size story failed base m plain reply (device_in old) new
  pub answers : Answers size story failed tells old plain reply new

abbrev pub AnswersCall : {D : Type 0} {g : Ghosts D} {R : Type 0} → (size : D → ℕ) → (story : D → Story) → (failed : D → ℕ) → (tells : Bool) → (remaining : R → Option (List ℕ)) → StoreOrDevice D g → Call R → PlainReply → StoreOrDevice D g
    → Type 0
AnswersCall size story failed tells remaining old call reply new = AnswersAs size story failed tells (IsCallOf remaining call) old reply new

-- and calls one after another
pub record AnswersCalls {D : Type 0} {g : Ghosts D} {R : Type 0} (size : D → ℕ) (story : D → Story) (failed : D → ℕ) (tells : Bool) (remaining : R → Option (List ℕ)) (old : StoreOrDevice D g) (calls : List (Call R)) (replies : List PlainReply)
    (new : StoreOrDevice D g) : Type 0 where
  pub plains : List PlainCall
  pub are : AreCallsOf remaining calls plains
  pub answers : AnswersEach size story failed tells old plains replies new
  pub runs : tells ≡ true → (base : Tables) (m : Machine) → PlaceFits size story base m old → PlaceRuns size story failed base m plains replies (device_in old) new
