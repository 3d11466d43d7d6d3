-- What a whole compaction makes of a store, and what is printed of it.
use Rattle.std.specs.Prelude.{◌≡◌, ◌≢◌, ◌≤◌, ◌↔◌, ◌++◌, ℕ, Bool, true, false, nat_lt, List, [], ◌∷◌, codes, length, map, Option, Some, None, Result, Ok, Err, OnOk}
use Rattle.std.specs.Prelude.{IfSome}
use Rattle.std.specs.Fmt.{decimal}
use Rattle.std.specs.Io.KnownBytes.{Appends}
use Rattle.sector_dev.specs.Disk.{Image}
use Rattle.sector_dev.specs.Time.{Grows, LeavesOnly, OnlyReads}
use Rattle.sector_dev.specs.declared.device.SectorDevice.{Ghosts}
use Rattle.tables.specs.Tables.{Tables}
use Rattle.tables.specs.Verdict.{after}
use Rattle.tables.specs.declared.refusal.Refusal as tables
use Rattle.tables.specs.declared.refusal.Refusal.TheVariants as refusals
use Rattle.store_runs.specs.declared.compacting.Compaction.{Compaction}
use Rattle.store_runs.specs.declared.compacting.Compaction.TheVariants.{Nothing}
use Rattle.store.specs.declared.store.Store.{Store}
use Rattle.store.specs.Applying.{IsKept, KeepsEachTable}
use Rattle.store_runs.specs.Calls.{PlainCall, compact_call, PlainReply, nothing, refused, counted}
use Rattle.store.specs.Compacting.{reply_of, HasStepped, RefusesStep, IsSteppingAtEachMoment, HasSteppedOnDisk}
use Rattle.store_changes.specs.Exchanging.{Shrinks}
use Rattle.store.specs.Fits.{StoreFits, setting_of, book_of, device_of, is_halted, listed_in, IsOnDisk}
use Rattle.store_runs.specs.Held.{held_by, each_listed}
use Rattle.store_runs.specs.Machine.{Machine, holds}
use Rattle.store.specs.Reading.{OnlyReadsStore}
use Rattle.store_runs.specs.Runs.{Run}
use Rattle.cli_reports.specs.declared.refusal.Refusal.{Refusal}
use Rattle.cli_commands.specs.Changing.{Follows}

-- the word `steps` and their number
abbrev pub steps_text : ℕ → List ℕ
steps_text count = codes "steps " ++ decimal count ++ codes "\n"

-- a step that did something: two segments became one, or one moved forward
pub record Steps {D : Type 0} {g : Ghosts D} (old : Store D g) (taken : Compaction) (new : Store D g) : Type 0 where
  pub did : taken ≢ Nothing
  pub stepped : HasStepped g.size g.story g.tells old taken new
  pub shrinks : Shrinks (listed_in old) (listed_in new)
  pub size : g.size (device_of new) ≡ g.size (device_of old)
  -- on a store that lies on its disk each stop leaves the old state or the step's change carried out, and each table as it was; in the end it is carried out
  pub writes : g.tells ≡ true → IsOnDisk g.size g.story old → IsSteppingAtEachMoment g.size g.story g.tells old new
  pub written : g.tells ≡ true → IsOnDisk g.size g.story old → HasSteppedOnDisk g.size g.story g.tells old taken new
  pub each_table : g.tells ≡ true → IsOnDisk g.size g.story old → KeepsEachTable g.size g.story old new
  -- on any device the catalogue lists each table as before
  pub listed : each_listed (listed_in new) ≡ each_listed (listed_in old)

-- such steps, one after another
abbrev pub StepsTo : {D : Type 0} {g : Ghosts D} → (old : Store D g) → List Compaction → (new : Store D g) → Type 0
StepsTo old [] new = new ≡ old
StepsTo {D} {g} old (taken ∷ others) new = (mid : Store D g) × Steps old taken mid × StepsTo mid others new

-- a step that was refused: its reason, and what it left
pub record StopsBy {D : Type 0} {g : Ghosts D} (old : Store D g) (r : tables.Refusal) (new : Store D g) : Type 0 where
  pub told : RefusesStep g.size g.story g.tells (is_halted old) old r new
  pub kept : IsKept old new
  pub reads : r ≢ refusals.Device → g.tells ≡ true → OnlyReads (g.story (device_of old)) (g.story (device_of new))
  pub writes : g.tells ≡ true → IsOnDisk g.size g.story old → IsSteppingAtEachMoment g.size g.story g.tells old new
  pub each_table : g.tells ≡ true → IsOnDisk g.size g.story old → KeepsEachTable g.size g.story old new

-- the last step: nothing was left to do, and the store was only read; or it was refused
abbrev pub EndsSteps : {D : Type 0} {g : Ghosts D} → (old : Store D g) → Result (Unit {0}) tables.Refusal → (new : Store D g) → Type 0
EndsSteps {g = g} old (Ok unit) new = HasStepped g.size g.story g.tells old Nothing new × OnlyReadsStore g.size g.story g.failed g.tells nothing old new
EndsSteps old (Err r) new = StopsBy old r new

-- whether a call was made after these steps: always, but after as many steps as were asked for
abbrev pub is_called : (limit : Option ℕ) → List Compaction → Bool
is_called None taken = true
is_called (Some most) taken = nat_lt (length taken) most

-- how the steps ended: without another call, or with one
abbrev pub EndsAfter : {D : Type 0} {g : Ghosts D} → (called : Bool) → (old : Store D g) → Result (Unit {0}) tables.Refusal → (new : Store D g) → Type 0
EndsAfter false old answer new = (answer ≡ Ok tt) × (new ≡ old)
EndsAfter true old answer new = EndsSteps old answer new

-- ---- as calls of the store

abbrev pub last_reply : Result (Unit {0}) tables.Refusal → PlainReply
last_reply (Ok unit) = nothing
last_reply (Err r) = refused r

-- a call for each step that did something
abbrev pub step_calls : List Compaction → List PlainCall
step_calls taken = map (λ done. compact_call) taken

-- and one more, if it was made
abbrev pub calls_of : (called : Bool) → List Compaction → List PlainCall
calls_of false taken = step_calls taken
calls_of true taken = step_calls taken ++ compact_call ∷ []

abbrev pub replies_of : (called : Bool) → List Compaction → Result (Unit {0}) tables.Refusal → List PlainReply
replies_of false taken answer = map reply_of taken
replies_of true taken answer = map reply_of taken ++ last_reply answer ∷ []

-- calls of an open store, one after another: some machine goes on with the commands that were settled, and the store stands for it
pub record RunsOn {D : Type 0} {g : Ghosts D} (base : Tables) (m : Machine) (calls : List PlainCall) (replies : List PlainReply)
    (old new : Store D g) : Type 0 where
  pub next : Machine
  pub settled : next.settled ≡ m.settled
  pub run : Run (setting_of (g.size (device_of old)) base) calls replies m (g.story (device_of old)) (g.failed (device_of old)) next
      (g.story (device_of new)) (g.failed (device_of new))
  pub fits : StoreFits g.size g.story base next new

-- at each moment between these two states of a store a stop leaves a store with these tables
abbrev pub StaysWith : {D : Type 0} {g : Ghosts D} → Tables → (old new : Store D g) → Type 0
StaysWith {g = g} t old new =
    Grows (LeavesOnly (λ (image : Image). held_by (g.size (device_of old)) image ≡ holds t)) (g.story (device_of old)) (g.story (device_of new))

-- ---- a whole compaction

-- these steps did something, and the call after them, if one was made, was answered so
pub record CompactedSo {D : Type 0} {g : Ghosts D} (called : Bool) (taken : List Compaction) (answer : Result (Unit {0}) tables.Refusal) (old new : Store D g) : Type 0 where
  pub mid : Store D g
  pub steps : StepsTo old taken mid
  pub ends : EndsAfter called mid answer new
  pub size : g.size (device_of new) ≡ g.size (device_of old)
  pub count : g.failed (device_of new) ≡ counted (last_reply answer) (g.failed (device_of old))
  pub book : book_of new ≡ book_of old
  -- a halted store stays as it is, and a store halts if its device fails
  pub still : is_halted old ≡ true → (called ≡ true → answer ≡ Err refusals.Halted) × (new ≡ old)
  pub halts : is_halted old ≡ false → (is_halted new ≡ true) ↔ (answer ≡ Err refusals.Device)
  -- on a store that stands for a machine the steps are calls that change no table
  pub goes : g.tells ≡ true → (base : Tables) (m : Machine) → StoreFits g.size g.story base m old
      → RunsOn base m (calls_of called taken) (replies_of called taken answer) old new
  -- and a stop at any moment leaves the tables of before
  pub stays : g.tells ≡ true → (base : Tables) (m : Machine) → StoreFits g.size g.story base m old → is_halted old ≡ false
      → StaysWith (after base m.settled) old new
  -- on a store that lies on its disk, whatever its segments hold, a stop at any moment leaves each table with all its rows
  pub each_table : g.tells ≡ true → IsOnDisk g.size g.story old → KeepsEachTable g.size g.story old new
  -- on any device the catalogue lists each table as before
  pub listed : each_listed (listed_in new) ≡ each_listed (listed_in old)

-- as many steps as this limit allows, if there is one
abbrev pub Compacted : {D : Type 0} {g : Ghosts D} → (limit : Option ℕ) → (taken : List Compaction) → (answer : Result (Unit {0}) tables.Refusal)
    → (old new : Store D g) → Type 0
Compacted limit taken answer old new = IfSome limit (λ most. length taken ≤ most) × CompactedSo (is_called limit taken) taken answer old new

-- a compaction that the program answered: once nothing is left to do, or the limit is reached, the number of steps that did something is written; a refusal
-- is the store's
pub record Compacts {D : Type 0} {g : Ghosts D} {W : Type 0} (contents : W → Option (List ℕ)) (limit : Option ℕ) (old new : Store D g) (output output' : W)
    (result : Result (Unit {0}) Refusal) : Type 0 where
  pub taken : List Compaction
  pub answer : Result (Unit {0}) tables.Refusal
  pub compacted : Compacted limit taken answer old new
  pub follows : Follows answer result
  pub written : OnOk result (Appends (contents output) (contents output') (steps_text (length taken)))
