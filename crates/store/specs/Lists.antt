-- How several commands as one end.
use Rattle.std.specs.Prelude.{◌≡◌, ◌≢◌, ◌⊎◌, ℕ, Bool, List, Result, Ok, Err}
use Rattle.sector_dev.specs.Disk.{Image}
use Rattle.catalogue.specs.Entries.{PlainCatalogue}
use Rattle.tables.specs.declared.refusal.Refusal.{Refusal}
use Rattle.tables.specs.declared.refusal.Refusal.TheVariants.{Device, OutOfMemory}
use Rattle.tables.specs.Commands.{PlainCommand}
use Rattle.store_runs.specs.Calls.{PlainReply, done, refused, refused_at}
use Rattle.store_changes.specs.Verdicts.{IsRefusedAt}
use Rattle.store.specs.declared.applying_all.ListRefusal.{ListRefusal}
use Rattle.store.specs.declared.applying_all.ListRefusal.TheVariants.{At, Whole}

abbrev pub refusal_of : ListRefusal → Refusal
refusal_of (At place r) = r
refusal_of (Whole r) = r

-- the refusal of a list that ends at this place: where memory was refused or the device failed, no command is to blame
abbrev pub refusal_at : (place : ℕ) → Refusal → ListRefusal
refusal_at place Device = Whole Device
refusal_at place OutOfMemory = Whole OutOfMemory
refusal_at place r = At place r

-- without the place of the refused command
abbrev pub as_one : {T : Type 0} → Result T ListRefusal → Result T Refusal
as_one (Ok x) = Ok x
as_one (Err e) = Err (refusal_of e)

-- as a reply
abbrev pub ended_by : ListRefusal → PlainReply
ended_by (At place r) = refused_at place r
ended_by (Whole r) = refused r

abbrev pub ended_list : {T : Type 0} → Result T ListRefusal → PlainReply
ended_list (Ok x) = done
ended_list (Err e) = ended_by e

-- why they are refused before anything is written: one of them is, or while one was decided the device failed or memory was refused
abbrev pub RefusesList : (tells : Bool) → Image → PlainCatalogue → List PlainCommand → ListRefusal → Type 0
RefusesList tells image c commands (At place r) = (r ≢ Device) × (r ≢ OutOfMemory) × IsRefusedAt tells image c commands place r
RefusesList tells image c commands (Whole r) = (r ≡ OutOfMemory) ⊎ ((r ≡ Device) × ((place : ℕ) × IsRefusedAt tells image c commands place r))

-- a refusal that names a place names that of a refused command
abbrev pub NamesLine : (tells : Bool) → Image → PlainCatalogue → List PlainCommand → ListRefusal → Type 0
NamesLine tells image c commands (At place r) = IsRefusedAt tells image c commands place r
NamesLine tells image c commands (Whole r) = Unit {0}
