-- What copying one table, and the first tables, leaves.
use Rattle.std.specs.Prelude.{◌≡◌, ◌++◌, ℕ, true, List, map, Some, Ok}
use Rattle.std.specs.List.{AllByRecursion}
use Rattle.sector_dev.specs.declared.device.SectorDevice.{Ghosts}
use Rattle.cells.specs.Cell.{PlainTable}
use Rattle.ipc_message.specs.Header.{supported_codes}
use Rattle.ipc_stream.specs.Meaning.{meaning}
use Rattle.tables.specs.Commands.{PlainCommand, import_stream}
use Rattle.tables.specs.Tables.{Tables, no_tables, table_at}
use Rattle.tables.specs.Verdict.{after}
use Rattle.store.specs.declared.store.Store.{Store}
use Rattle.store.specs.Applying.{GoesOn}
use Rattle.store_runs.specs.Calls.{apply_call, done}
use Rattle.store.specs.Fits.{StoreFits, setting_of, device_of}
use Rattle.store_runs.specs.Machine.{Machine}
use Rattle.store_runs.specs.Runs.{Run}

-- the table of a name was read, and the other store has imported a stream that means it
pub record TableCopied {D E : Type 0} {g : Ghosts D} {h : Ghosts E} (a : Tables) (m : Machine) (b : Tables) (n : Machine) (name : List ℕ) (from' : Store D g) (to to' : Store E h) : Type 0 where
  pub table : PlainTable
  pub at : table_at (after a m.settled) name ≡ Some table
  pub bytes : List ℕ
  pub means : meaning supported_codes bytes ≡ Ok table
  pub from_fits : StoreFits g.size g.story a m from'
  pub goes : GoesOn h.size h.story h.failed b n (apply_call (import_stream name bytes)) done to to'

abbrev pub CopiesTable : {D E : Type 0} {g : Ghosts D} {h : Ghosts E} → (name : List ℕ) → (from from' : Store D g) → (to to' : Store E h) → Type 0
CopiesTable {g = g} {h = h} name from from' to to' =
    g.tells ≡ true → h.tells ≡ true → (a b : Tables) (m n : Machine) → StoreFits g.size g.story a m from → StoreFits h.size h.story b n to → TableCopied a m b n name from' to to'

-- of the tables t exactly the listed ones were imported, one after another
pub record HasTaken {E : Type 0} {h : Ghosts E} (t : Tables) (b : Tables) (n : Machine) (listed : List (List ℕ × ℕ)) (to to' : Store E h) : Type 0 where
  pub next : Machine
  pub commands : List PlainCommand
  pub settled : next.settled ≡ n.settled ++ commands
  pub same : h.size (device_of to') ≡ h.size (device_of to)
  pub run : Run (setting_of (h.size (device_of to)) b) (map apply_call commands) (map (λ c. done) commands) n (h.story (device_of to)) (h.failed (device_of to)) next (h.story (device_of to')) (h.failed (device_of to'))
  pub fits : StoreFits h.size h.story b next to'
  pub has : AllByRecursion (λ (x : List ℕ × ℕ). table_at (after b next.settled) x.0 ≡ table_at t x.0) listed
  pub only : (name : List ℕ) (table : PlainTable) → table_at (after b next.settled) name ≡ Some table → table_at t name ≡ Some table

abbrev pub HasListed : {D E : Type 0} {g : Ghosts D} {h : Ghosts E} → (listed : List (List ℕ × ℕ)) → (from : Store D g) → (to to' : Store E h) → Type 0
HasListed {g = g} {h = h} listed from to to' =
    g.tells ≡ true → h.tells ≡ true → (a b : Tables) (m n : Machine) → StoreFits g.size g.story a m from → StoreFits h.size h.story b n to → after b n.settled ≡ no_tables
    → HasTaken (after a m.settled) b n listed to to'
