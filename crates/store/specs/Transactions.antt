-- Commands that an open store accepts one by one before anything is written, and how they are refused or carried out as one.
use Rattle.std.specs.Prelude.{◌≡◌, ◌++◌, ◌∷◌, ℕ, Bool, true, false, List, [], length, Err}
use Rattle.std.specs.List.{AllByRecursion}
use Rattle.sector_dev.specs.Disk.{Story, now, shown_image}
use Rattle.sector_dev.specs.Time.{OnlyReads}
use Rattle.sector_dev.specs.declared.device.SectorDevice.{Ghosts}
use Rattle.catalogue.specs.Entries.{PlainCatalogue, runs_of}
use Rattle.catalogue.specs.View.{catalogue_of}
use Rattle.tables.specs.declared.refusal.Refusal.{Refusal}
use Rattle.tables.specs.Tables.{Tables}
use Rattle.tables.specs.Commands.{PlainCommand, all_of, commands_of, BringsTables}
use Rattle.store_runs.specs.Calls.{apply_call, done, counted}
use Rattle.store_runs.specs.Deciding.{AreBefore, any_reads_device}
use Rattle.store_runs.specs.Machine.{Machine}
use Rattle.store_runs.specs.Steps.{IsNoList}
use Rattle.store_changes.specs.Draft.{laid, streams_of, IsDraft}
use Rattle.store_changes.specs.Verdicts.{LeadsThrough, IsRefusedAt}
use Rattle.store.specs.declared.applying_all.ListRefusal.{ListRefusal}
use Rattle.store.specs.declared.store.Store.{Store}
use Rattle.store.specs.declared.transacting.Transaction.{Transaction}
use Rattle.store.specs.Answering.{Applies}
use Rattle.store.specs.Applying.{GoesOn}
use Rattle.store.specs.Drafted.{KnowsWeight}
use Rattle.store.specs.Fits.{StoreFits, device_of, listed_in, is_halted}
use Rattle.store.specs.Lists.{refusal_of, ended_by, refusal_at, NamesLine}
use Rattle.store.specs.Reading.{OnlyReadsStore}

-- the catalogue as the accepted commands leave it
abbrev pub drafted : Transaction → PlainCatalogue
drafted transaction = catalogue_of transaction.draft.made

-- a transaction was begun on the first store, these commands were accepted in it one after another, on what reads of that store showed, and since then the
-- store was only read
pub record Drafts {D : Type 0} {g : Ghosts D} (size : D → ℕ) (story : D → Story) (failed : D → ℕ) (tells : Bool) (first store : Store D g)
    (transaction : Transaction) (commands : List PlainCommand) : Type 0 where
  pub on : is_halted first ≡ false
  pub before : AreBefore (size (device_of first)) (runs_of (listed_in first))
  pub reads : OnlyReadsStore size story failed tells done first store
  pub still : any_reads_device (commands_of commands) ≡ false → story (device_of store) ≡ story (device_of first)
  pub single : AllByRecursion IsNoList commands
  pub brings : BringsTables (all_of (commands_of commands))
  pub draft : IsDraft transaction.draft
  pub from : transaction.draft.from ≡ size (device_of first)
  pub old : catalogue_of transaction.draft.old ≡ listed_in first
  pub leads : LeadsThrough tells (size (device_of first)) (shown_image (now (story (device_of first)))) (listed_in first) commands transaction.draft.next
      (laid transaction.draft.from (streams_of transaction.draft) (shown_image (now (story (device_of first))))) (drafted transaction)
  pub weighed : KnowsWeight tells (shown_image (now (story (device_of first)))) transaction.draft transaction.weighed

-- it was begun on some store, which was only read since then: on this one
pub record IsBegun {D : Type 0} {g : Ghosts D} (size : D → ℕ) (story : D → Story) (failed : D → ℕ) (tells : Bool) (store : Store D g)
    (transaction : Transaction) : Type 0 where
  pub first : Store D g
  pub commands : List PlainCommand
  pub drafts : Drafts size story failed tells first store transaction commands

-- this holds of the store that it was begun on, and of the commands that were accepted since then
abbrev pub WhereBegun : {D : Type 0} {g : Ghosts D} → (size : D → ℕ) → (story : D → Story) → (failed : D → ℕ) → (tells : Bool) → Store D g
    → Transaction → (Store D g → List PlainCommand → Type 0) → Type 0
WhereBegun {D} {g} size story failed tells store transaction P =
    (first : Store D g) (commands : List PlainCommand) → Drafts size story failed tells first store transaction commands → P first commands

-- these commands as one are refused so on this store, before anything is written: what `Store::apply_all` promises of such a refusal
pub record RefusesAsOne {D : Type 0} {g : Ghosts D} (size : D → ℕ) (story : D → Story) (failed : D → ℕ) (tells : Bool) (old : Store D g)
    (commands : List PlainCommand) (refusal : ListRefusal) (new : Store D g) : Type 0 where
  pub goes : tells ≡ true → (base : Tables) (m : Machine) → StoreFits size story base m old
      → GoesOn size story failed base m (apply_call (all_of (commands_of commands))) (ended_by refusal) old new
  pub applies : Applies size story tells old (all_of (commands_of commands)) (Err (refusal_of refusal)) new
  pub line : NamesLine tells (shown_image (now (story (device_of old)))) (listed_in old) commands refusal
  pub unwritten : tells ≡ true → OnlyReads (story (device_of old)) (story (device_of new))
  pub same : size (device_of new) ≡ size (device_of old)
  pub count : failed (device_of new) ≡ counted (ended_by refusal) (failed (device_of old))

-- the commands so far and one more are a list that ends at its last place
abbrev pub EndsBehind : {D : Type 0} {g : Ghosts D} → (story : D → Story) → (tells : Bool) → (first : Store D g) → (commands : List PlainCommand)
    → PlainCommand → Refusal → Type 0
EndsBehind story tells first commands command r =
    IsRefusedAt tells (shown_image (now (story (device_of first)))) (listed_in first) (commands ++ command ∷ []) (length commands) r

-- and they are refused so as one
abbrev pub RefusesNext : {D : Type 0} {g : Ghosts D} → (size : D → ℕ) → (story : D → Story) → (failed : D → ℕ) → (tells : Bool)
    → (first : Store D g) → (commands : List PlainCommand) → PlainCommand → Refusal → (new : Store D g) → Type 0
RefusesNext size story failed tells first commands command r new =
    RefusesAsOne size story failed tells first (commands ++ command ∷ []) (refusal_at (length commands) r) new
