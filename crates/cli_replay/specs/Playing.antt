-- Calls that are played one after another on a device that may stop.
use Rattle.std.specs.Prelude.{◌≡◌, ◌+◌, ◌-◌, ◌^◌, ◌++◌, ℕ, min, Bool, true, false, List, [], ◌∷◌, length, take, codes, Option, Some, None}
use Rattle.sector_dev.specs.declared.device.SectorDevice.{Ghosts}
use Rattle.tables.specs.Tables.{Tables}
use Rattle.tables.specs.declared.refusal.Refusal.TheVariants.{OutOfMemory}
use Rattle.store.specs.declared.call.Call.{Call}
use Rattle.store.specs.declared.call.StoreOrDevice.{StoreOrDevice}
use Rattle.store.specs.declared.call.Reply.{Reply}
use Rattle.store_runs.specs.Calls.{PlainCall, PlainReply, done, counts, refused, refused_at, shut_by}
use Rattle.store_runs.specs.Machine.{Machine}
use Rattle.store.specs.Places.{AreCallsOf, device_in, reply_in, PlaceRuns}
use Rattle.store.specs.Answering.{AnswersCall}
use Rattle.cli_reports.specs.declared.refusal.Refusal.{Refusal}
use Rattle.cli_reports.specs.declared.refusal.Refusal.TheVariants.{Line, Opening, Store}
use Rattle.cli_reports.specs.Refusals.{refusal_text}
use Rattle.cli_commands.specs.Printed.{tables_text}

-- the call of the first line is answered, and P holds of the place after it and of the replies to the other lines
pub record IsPlayed {D : Type 0} (g : Ghosts D) {R : Type 0} (remaining : R → Option (List ℕ)) (old : StoreOrDevice D g) (call : Call R) (replies : List PlainReply)
    (P : StoreOrDevice D g → List PlainReply → Type 0) : Type 0 where
  pub reply : PlainReply
  pub others : List PlainReply
  pub are : replies ≡ reply ∷ others
  pub next : StoreOrDevice D g
  pub one : AnswersCall g.size g.story g.failed g.tells remaining old call reply next
  pub rest : P next others

-- no line is played any more
abbrev pub EndsAt : {D : Type 0} {g : Ghosts D} → StoreOrDevice D g → List PlainReply → StoreOrDevice D g → Type 0
EndsAt old replies new = (replies ≡ []) × (new ≡ old)

-- a line is played unless its device has stopped
abbrev pub PlaysLine : {D : Type 0} → (g : Ghosts D) → {R : Type 0} → (over : Bool) → (remaining : R → Option (List ℕ)) → StoreOrDevice D g → Call R
    → List PlainReply → StoreOrDevice D g
    → (StoreOrDevice D g → List PlainReply → Type 0) → Type 0
PlaysLine g true remaining old call replies new P = EndsAt old replies new
PlaysLine g false remaining old call replies new P = IsPlayed g remaining old call replies P

-- lines are played one after another, each answered as a call of the place, until the device has stopped
unfoldable pub Plays : {D : Type 0} → (g : Ghosts D) → {R : Type 0} → (is_over : D → Bool) → (remaining : R → Option (List ℕ)) → StoreOrDevice D g → List (Call R)
    → List PlainReply → StoreOrDevice D g → Type 0
Plays g is_over remaining old [] replies new = EndsAt old replies new
Plays g is_over remaining old (call ∷ calls) replies new =
    PlaysLine g (is_over (device_in old)) remaining old call replies new (λ next others. Plays g is_over remaining next calls others new)

-- one line as the code plays it: it has no reply if the device has stopped
abbrev pub IsPlayedLine : {D : Type 0} → (g : Ghosts D) → {R : Type 0} → (is_over : D → Bool) → (remaining : R → Option (List ℕ)) → StoreOrDevice D g → Call R
    → Option Reply → StoreOrDevice D g → Type 0
IsPlayedLine g is_over remaining old call None new = (is_over (device_in old) ≡ true) × (new ≡ old)
IsPlayedLine g is_over remaining old call (Some reply) new =
    (is_over (device_in old) ≡ false) × AnswersCall g.size g.story g.failed g.tells remaining old call (reply_in reply) new

-- the lines that were played are a run of calls
pub record ArePlayedAsRun {D : Type 0} (g : Ghosts D) {R : Type 0} (remaining : R → Option (List ℕ)) (base : Tables) (m : Machine) (calls : List (Call R))
    (replies : List PlainReply)
    (old new : StoreOrDevice D g) : Type 0 where
  pub plains : List PlainCall
  pub are : AreCallsOf remaining (take (length replies) calls) plains
  pub runs : PlaceRuns g.size g.story g.failed base m plains replies (device_in old) new

-- ---- what is printed

-- a refusal as a line
abbrev pub refused_text : Refusal → List ℕ
refused_text refusal = codes "refused " ++ refusal_text refusal ++ codes "\n"

-- the number of a line in a list, by its place there, which counts from 0, and the number of the list's `begin`. No script has so many lines that a number
-- would have more than 64 bits
abbrev pub line_number : (begun place : ℕ) → ℕ
line_number begun place = min (begun + place + 1) (2 ^ 64 - 1)

-- for an item whose first line has this number: that it was done, or why not
abbrev pub reply_text : ℕ → PlainReply → List ℕ
reply_text number (refused refusal) = refused_text (Store refusal)
reply_text number (refused_at place refusal) = refused_text (Line (line_number number place) refusal)
reply_text number (shut_by refusal) = refused_text (Opening refusal)
reply_text number _ = codes "ok\n"

-- for each item that was answered
abbrev pub replies_text : List ℕ → List PlainReply → List ℕ
replies_text [] replies = []
replies_text (number ∷ numbers) [] = []
replies_text (number ∷ numbers) (reply ∷ replies) = reply_text number reply ++ replies_text numbers replies

abbrev pub stop_text : Bool → List ℕ
stop_text true = codes "stopped\n"
stop_text false = []

-- the replies that an opening has
abbrev pub IsOfOpening : PlainReply → Type 0
IsOfOpening done = Unit {0}
IsOfOpening (shut_by refusal) = Unit {0}
IsOfOpening _ = ⊥

-- the replies that a list of the tables of an open store has: it fails only if memory is refused
abbrev pub IsOfListing : PlainReply → Type 0
IsOfListing (counts tables) = Unit {0}
IsOfListing (refused refusal) = refusal ≡ OutOfMemory
IsOfListing _ = ⊥

-- the replies to an opening and to the list of tables after it
abbrev pub AreOfListing : PlainReply → PlainReply → Type 0
AreOfListing done listing = IsOfListing listing
AreOfListing (shut_by refusal) listing = Unit {0}
AreOfListing _ listing = ⊥

-- of an opening and the list of tables after it: that list, or why the store was not opened
abbrev pub FoundText : PlainReply → PlainReply → List ℕ → Type 0
FoundText done (counts tables) text = text ≡ tables_text tables
FoundText (shut_by refusal) listing text = text ≡ refused_text (Opening refusal)
FoundText _ _ text = ⊥
