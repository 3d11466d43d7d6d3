-- Why a command that reads the input is refused before it is read.
use Rattle.std.specs.Prelude.{◌≡◌, ◌⊎◌, ◌&&◌, ℕ, Bool, true, false, List}
use Rattle.catalogue.specs.Entries.{PlainCatalogue, is_name}
use Rattle.tables.specs.declared.refusal.Refusal as tables
use Rattle.tables.specs.declared.refusal.Refusal.TheVariants as refusals
use Rattle.store_runs.specs.Deciding.{has_entry}
use Rattle.cli_reports.specs.declared.refusal.Refusal.{Refusal}
use Rattle.cli_reports.specs.declared.refusal.Refusal.TheVariants.{Store}
use Rattle.cli_commands.specs.Changing.{RefusesTaken, is_listed}

-- a table has the name, and must not
abbrev pub is_taken : (is_new halted : Bool) → PlainCatalogue → (name : List ℕ) → Bool
is_taken is_new halted c name = is_new && is_listed halted c name

-- the list of tables is not looked at: the store is halted, or memory was refused
abbrev pub RefusesLooking : (halted : Bool) → Refusal → Type 0
RefusesLooking halted (Store refusals.Halted) = halted ≡ true
RefusesLooking halted (Store refusals.OutOfMemory) = halted ≡ false
RefusesLooking halted _ = ⊥

-- the store is halted; or its first test fails, or memory was refused
abbrev pub RefusesUnread : (halted passes : Bool) → (why : tables.Refusal) → Refusal → Type 0
RefusesUnread halted passes why (Store refusal) = ((halted ≡ true) × (refusal ≡ refusals.Halted))
    ⊎ ((halted ≡ false) × (((passes ≡ false) × (refusal ≡ why)) ⊎ (refusal ≡ refusals.OutOfMemory)))
RefusesUnread halted passes why _ = ⊥

-- an import: a table has the name and must not; or else the store is halted, or no table may have the name
abbrev pub RefusesImport : (is_new halted : Bool) → PlainCatalogue → (name : List ℕ) → Refusal → Type 0
RefusesImport is_new halted c name refusal = ((is_taken is_new halted c name ≡ true) × RefusesTaken refusal)
    ⊎ ((is_taken is_new halted c name ≡ false) × RefusesUnread halted (is_name name) refusals.BadName refusal)

-- an append: the store is halted, or no table has the name
abbrev pub RefusesAppending : (halted : Bool) → PlainCatalogue → (name : List ℕ) → Refusal → Type 0
RefusesAppending halted c name refusal = RefusesUnread halted (has_entry c name) refusals.NoTable refusal

-- neither is the case
abbrev pub PassesImport : (is_new halted : Bool) → PlainCatalogue → (name : List ℕ) → Type 0
PassesImport is_new halted c name = (is_taken is_new halted c name ≡ false) × (halted ≡ false) × (is_name name ≡ true)

abbrev pub PassesAppending : (halted : Bool) → PlainCatalogue → (name : List ℕ) → Type 0
PassesAppending halted c name = (halted ≡ false) × (has_entry c name ≡ true)
