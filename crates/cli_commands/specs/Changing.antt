-- What the program answers to commands that change the tables of a store.
use Rattle.std.specs.Prelude.{◌≡◌, ◌≢◌, ◌↔◌, ◌⊎◌, ◌&&◌, ℕ, Bool, true, false, not, List, [], Option, Some, IsSome, IsErrAnd, Result, Ok, Err, IfErr, OnOk}
use Rattle.sector_dev.specs.Disk.{Story}
use Rattle.sector_dev.specs.Time.{OnlyReads}
use Rattle.sector_dev.specs.declared.device.SectorDevice.{Ghosts}
use Rattle.arrow_schema.specs.Column.{PlainSchema}
use Rattle.field_texts.specs.Reported.{IsReported}
use Rattle.catalogue.specs.Entries.{PlainCatalogue, PlainEntry}
use Rattle.tables.specs.declared.refusal.Refusal as tables
use Rattle.tables.specs.declared.refusal.Refusal.TheVariants as refusals
use Rattle.tables.specs.Commands.{PlainCommand}
use Rattle.store.specs.declared.store.Store as stores
use Rattle.store_runs.specs.Calls.{counted}
use Rattle.store_runs.specs.Deciding.{has_entry, reads_device}
use Rattle.store_runs.specs.Reading.{ended}
use Rattle.store.specs.Applying.{IsApplied, IsKept, IsApplyingAtEachMoment, IsDoneOnDisk}
use Rattle.store.specs.Answering.{TakesInput}
use Rattle.store.specs.Fits.{device_of, is_halted, book_of, IsOnDisk}
use Rattle.store.specs.Input.{ReadsFrom}
use Rattle.store.specs.Listing.{RefusesSchema}
use Rattle.cli_reports.specs.declared.refusal.Refusal.{Refusal}
use Rattle.cli_reports.specs.declared.refusal.Refusal.TheVariants.{Io, Fields, Store, OutOfMemory}
use Rattle.cli_reports.specs.declared.refusal.Side.TheVariants.{Output}
use Rattle.cli_commands.specs.Given.{RefusesInput}

-- the program's answer follows the store's: what is done is reported as done, unless the output fails, and a refusal is the store's
abbrev pub Follows : Result (Unit {0}) tables.Refusal → Result (Unit {0}) Refusal → Type 0
Follows (Ok done) (Ok unit) = Unit {0}
Follows (Ok done) (Err refusal) = refusal ≡ Io Output
Follows (Err e) (Ok unit) = ⊥
Follows (Err e) (Err refusal) = refusal ≡ Store e

-- the store gave an answer for which this holds, and the program's answer follows it
abbrev pub Answered : (Result (Unit {0}) tables.Refusal → Type 0) → Result (Unit {0}) Refusal → Type 0
Answered P result = (answer : Result (Unit {0}) tables.Refusal) × P answer × Follows answer result

-- how a store answers a command: what `Store::apply` promises of every store and every device
pub record AnswersCommand {D : Type 0} {g : Ghosts D} (size : D → ℕ) (story : D → Story) (failed : D → ℕ) (tells : Bool) (command : PlainCommand)
    (answer : Result (Unit {0}) tables.Refusal) (old new : stores.Store D g) : Type 0 where
  -- what is decided of the command is carried out or reported
  pub applied : is_halted old ≡ false → IsApplied size story tells old command answer new
  -- a refusal keeps the commit, the catalogue and the runs, and has only read, unless the device failed; only some commands read
  pub kept : IfErr answer (λ e. IsKept old new)
  pub quiet : IfErr answer (λ e. e ≢ refusals.Device → reads_device command ≡ false → story (device_of new) ≡ story (device_of old))
  pub reads : IfErr answer (λ e. e ≢ refusals.Device → tells ≡ true → OnlyReads (story (device_of old)) (story (device_of new)))
  -- a halted store reports that it is halted, and a store halts if its device fails
  pub halted : (answer ≡ Err refusals.Halted) ↔ (is_halted old ≡ true)
  pub still : is_halted old ≡ true → new ≡ old
  pub halts : is_halted old ≡ false → (is_halted new ≡ true) ↔ (answer ≡ Err refusals.Device)
  -- on a store that lies on its disk each stop leaves the old tables or the command done; once it is answered, it is done
  pub writes : is_halted old ≡ false → tells ≡ true → IsOnDisk size story old → IsApplyingAtEachMoment size story old command new
  pub written : OnOk answer (tells ≡ true → IsOnDisk size story old → IsDoneOnDisk size story old command new)
  -- the device keeps its size, its failure is counted, and the open exports stay as they are
  pub size_kept : size (device_of new) ≡ size (device_of old)
  pub count : failed (device_of new) ≡ counted (ended answer) (failed (device_of old))
  pub book : book_of new ≡ book_of old

-- how a store answers a command that has a whole input: what `Store::import_from` and `Store::append_from` promise of every store and every device;
-- `passes` is the test before anything is read, and `why` is reported if it fails
pub record AnswersInput {D : Type 0} {g : Ghosts D} {R : Type 0} (size : D → ℕ) (story : D → Story) (failed : D → ℕ) (tells : Bool)
    (remaining : R → Option (List ℕ))
    (command : List ℕ → PlainCommand) (passes : Bool) (why : tables.Refusal) (input left : R) (answer : Result (Unit {0}) tables.Refusal)
    (old new : stores.Store D g) : Type 0 where
  pub takes : TakesInput size story failed tells (remaining input) command old answer new
  pub reads : ReadsFrom remaining (is_halted old) passes why input left (new ≡ old) answer

-- a store that is not halted has a table of this name
abbrev pub is_listed : (halted : Bool) → PlainCatalogue → (name : List ℕ) → Bool
is_listed halted c name = not halted && has_entry c name

-- why a table that must be new is refused if one has its name: for that, or memory was refused
abbrev pub RefusesTaken : Refusal → Type 0
RefusesTaken refusal = (refusal ≡ Store refusals.NameTaken) ⊎ (refusal ≡ Store refusals.OutOfMemory)

-- the schema of a table that is there was handed on, with an answer of the store; or there is a reason why not
abbrev pub HandsSchema : Option PlainEntry → (PlainSchema → Result (Unit {0}) tables.Refusal → Type 0) → (Refusal → Type 0) → Result (Unit {0}) Refusal → Type 0
HandsSchema found P Q result = IsErrAnd result Q ⊎ ((e : PlainEntry) × (found ≡ Some e) × Answered (P e.schema) result)

-- why the schema of a table with this entry is not handed on: the store does not give it, or memory was refused after that
abbrev pub RefusesHanding : (halted : Bool) → Option PlainEntry → Refusal → Type 0
RefusesHanding halted found (Store refusal) = RefusesSchema halted found refusal
RefusesHanding halted found OutOfMemory = (halted ≡ false) × IsSome found
RefusesHanding halted found _ = ⊥

-- the store does not give the schema of a table of this name, with this entry if there is one, and nothing was read; or the input is refused
abbrev pub RefusesAppend : {R : Type 0} → (remaining : R → Option (List ℕ)) → (halted : Bool) → (found : Option PlainEntry) → (old new : R) → Refusal → Type 0
RefusesAppend remaining halted found old new (Store refusal) = RefusesSchema halted found refusal × (new ≡ old)
RefusesAppend remaining halted found old new refusal = (halted ≡ false) × IsSome found × RefusesInput (remaining old) (remaining new) refusal

-- the schema that field texts state
abbrev pub StateSchema : List (List ℕ) → PlainSchema → Type 0
StateSchema texts s = IsReported texts (Ok s.columns) × (s.pairs ≡ [])

-- why no table is made of field texts: the first that is refused
abbrev pub RefusesFields : List (List ℕ) → Refusal → Type 0
RefusesFields texts (Fields error) = IsReported texts (Err error)
RefusesFields texts OutOfMemory = Unit {0}
RefusesFields texts _ = ⊥
