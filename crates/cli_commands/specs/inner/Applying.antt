-- One line of a list whose commands are added one by one.
use Rattle.std.specs.Prelude.{◌≡◌, ◌++◌, ◌∷◌, ℕ, Bool, true, List, []}
use Rattle.sector_dev.specs.Disk.{Story}
use Rattle.sector_dev.specs.declared.device.SectorDevice.{Ghosts}
use Rattle.catalogue.specs.Entries.{PlainCatalogue}
use Rattle.tables.specs.Commands.{PlainCommand}
use Rattle.tables.specs.Tables.{Tables}
use Rattle.tables.specs.declared.refusal.Refusal as tables
use Rattle.tables.specs.declared.refusal.Refusal.TheVariants as reasons
use Rattle.store_runs.specs.Calls.{done}
use Rattle.store_runs.specs.Machine.{Machine}
use Rattle.store.specs.declared.store.Store as stores
use Rattle.store.specs.declared.transacting.Transaction.{Transaction}
use Rattle.store.specs.Fits.{StoreFits}
use Rattle.store.specs.Reading.{OnlyReadsStore}
use Rattle.store.specs.Transactions.{Drafts, RefusesNext}
use Rattle.cli_reports.specs.declared.refusal.Refusal.{Refusal}
use Rattle.cli_reports.specs.declared.refusal.Refusal.TheVariants.{Text, TextLine, Line, Store, OutOfMemory}
use Rattle.cli_commands.specs.declared.applying.ListedCommand.{ListedCommand}
use Rattle.cli_commands.specs.Applying.{IsOfLine, TextIsRefused}

-- a refusal with the number of its line; where memory was refused or the device failed, no line is to blame
abbrev pub at_line : (number : ℕ) → Refusal → Refusal
at_line number (Store reasons.Device) = Store reasons.Device
at_line number (Store reasons.OutOfMemory) = Store reasons.OutOfMemory
at_line number (Store r) = Line number r
at_line number (Text refused) = TextLine number refused
at_line number refusal = refusal

-- a store that was only read stands for the same machine
pub record HasOnlyRead {D : Type 0} {g : Ghosts D} (size : D → ℕ) (story : D → Story) (failed : D → ℕ) (tells : Bool)
    (first new : stores.Store D g) : Type 0 where
  pub reads : OnlyReadsStore size story failed tells done first new
  pub fits : tells ≡ true → (base : Tables) (m : Machine) → StoreFits size story base m first → StoreFits size story base m new

-- the command of a line was added
pub record AddsLine {D : Type 0} {g : Ghosts D} (size : D → ℕ) (story : D → Story) (failed : D → ℕ) (tells : Bool) (c : PlainCatalogue)
    (line : ListedCommand) (first : stores.Store D g) (commands : List PlainCommand) (next : Transaction) (new : stores.Store D g) : Type 0 where
  pub command : PlainCommand
  pub is : IsOfLine c line command
  pub drafts : Drafts size story failed tells first new next (commands ++ command ∷ [])

-- the store refuses the command of a line
pub record RefusesLine {D : Type 0} {g : Ghosts D} (size : D → ℕ) (story : D → Story) (failed : D → ℕ) (tells : Bool) (c : PlainCatalogue)
    (line : ListedCommand) (first : stores.Store D g) (commands : List PlainCommand) (r : tables.Refusal) (new : stores.Store D g) : Type 0 where
  pub command : PlainCommand
  pub is : IsOfLine c line command
  pub refuses : RefusesNext size story failed tells first commands command r new

-- why it was not added: the store refuses its command; or its text is refused or memory is, and the store was only read
abbrev pub EndsLine : {D : Type 0} {g : Ghosts D} → (size : D → ℕ) → (story : D → Story) → (failed : D → ℕ) → (tells : Bool) → PlainCatalogue
    → ListedCommand → (first : stores.Store D g) → (commands : List PlainCommand) → Refusal → (new : stores.Store D g) → Type 0
EndsLine size story failed tells c line first commands (Store r) new = RefusesLine size story failed tells c line first commands r new
EndsLine size story failed tells c line first commands (Text refused) new = TextIsRefused c line refused × HasOnlyRead size story failed tells first new
EndsLine size story failed tells c line first commands OutOfMemory new = HasOnlyRead size story failed tells first new
EndsLine size story failed tells c line first commands _ new = ⊥
