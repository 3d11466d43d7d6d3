-- Why the store of a device is not opened on which an empty one stands.
use Rattle.std.proofs.Common.{◌≡◌, Bool, true, false, inl, inr, refl, subst, sym}
use Rattle.commit.specs.declared.opening_refusal.OpeningRefusal.{OpeningRefusal}
use Rattle.commit.specs.declared.opening_refusal.OpeningRefusal.TheVariants as openings
use Rattle.cli_reports.specs.declared.refusal.Refusal.{Refusal}
use Rattle.cli_reports.specs.declared.refusal.Refusal.TheVariants.{NoEnd, TooManyBytes, Io, Opening, OutOfMemory}
use Rattle.cli_reports.specs.declared.refusal.Side.TheVariants.{File}
use Rattle.sector_dev.specs.declared.device.SectorDevice.{Ghosts}
use Rattle.tables.specs.Tables.{no_tables}
use Rattle.store.specs.declared.call.Call.TheVariants as calls_in
use Rattle.store.specs.declared.call.StoreOrDevice.{StoreOrDevice}
use Rattle.store.specs.declared.call.StoreOrDevice.TheVariants as places
use Rattle.store.specs.Answering.{AnswersCall}
use Rattle.store_runs.specs.Calls.{PlainCall, open_call, shut_by}
use Rattle.store.specs.Fits.{is_halted, setting_of, resumed}
use Rattle.store_runs.specs.Machine.{Setting, Machine}
use Rattle.store.specs.Places.{ShutFits, reply_in}
use Rattle.store.specs.declared.call.Reply.{Reply}
use Rattle.store.specs.declared.call.Reply.TheVariants as replies_in
use Rattle.commit.specs.Standing.{is_size}
use Rattle.store_runs.specs.Steps.{Step, StepOpen}
use Rattle.std.specs.Prelude.{◌⊎◌, ℕ, List, Option}
use Rattle.cli_replay.specs.Replay.{IsOfPlaying, IsOfReading, IsOfStreams, RefusesReplay}
use Rattle.cli_replay.specs.Playing.{AreOfListing, IsOfListing, IsOfOpening}
use Rattle.sector_dev.specs.Disk.{Story}
use Rattle.sector_dev.specs.declared.model.ModelDevice.{ModelDevice}
use Rattle.sector_dev.specs.contracts.model.calls.ModelDeviceSectorDevice.TheImpl.{ghosts}
use Rattle.std.specs.declared.io.impls.Empty.{Empty}
use Rattle.std.specs.Prelude.{[], Some}
use Rattle.tables.specs.declared.refusal.Refusal as tables
use Rattle.tables.specs.declared.refusal.Refusal.TheVariants as tables_in
use Rattle.store.specs.declared.store.Store.{Store}
use Rattle.store.specs.Listing.{RefusesTables}
use Rattle.store.specs.Answering.{AnswersOpening, AnswersPlace}
use Rattle.store_runs.specs.Calls.{PlainReply, tables_call, done, counts, refused}

by_memory : (s : Setting) (r : OpeningRefusal) (wrote : Bool) (next : Machine) → StepOpen s resumed (shut_by r) wrote next → IsOfPlaying (Opening r)
by_memory s openings.NotAStore wrote next step = let never : true ≡ false = step.0 in absurd (cc never)
by_memory s openings.AlreadyAStore wrote next step = absurd step
by_memory s (openings.Damaged cause) wrote next step = absurd step
by_memory s openings.Device wrote next step = tt
by_memory s openings.OutOfMemory wrote next step = tt

refused_by_memory : (s : Setting) (plain : PlainCall) (r : OpeningRefusal) (wrote : Bool) (next : Machine) → plain ≡ open_call → Step s resumed plain (shut_by r) wrote next → IsOfPlaying (Opening r)
unfolding Step
refused_by_memory s plain r wrote next is step = by_memory s r wrote next (subst (λ (p : PlainCall). Step s resumed p (shut_by r) wrote next) is step)

pub opening_refused : {D : Type 0} (g : Ghosts D) {R : Type 0} (remaining : R → Option (List ℕ)) → g.tells ≡ true → (device : D) → ShutFits g.size g.story no_tables resumed device → (r : OpeningRefusal)
    (place : StoreOrDevice D g) → AnswersCall g.size g.story g.failed g.tells remaining (places.Shut device) calls_in.Open (shut_by r) place → IsOfPlaying (Opening r)
opening_refused g remaining tells device stands r place answered =
    let goes = answered.goes tells no_tables resumed stands in
    refused_by_memory (setting_of (g.size device) no_tables) answered.plain r _ goes.next answered.is goes.goes.step

pub opening_told : {D : Type 0} (g : Ghosts D) {R : Type 0} (remaining : R → Option (List ℕ)) → g.tells ≡ true → (device : D) → ShutFits g.size g.story no_tables resumed device → (reply : Reply)
    (r : OpeningRefusal) (place : StoreOrDevice D g) → AnswersCall g.size g.story g.failed g.tells remaining (places.Shut device) calls_in.Open (reply_in reply) place → reply ≡ replies_in.NotOpened r
    → IsOfPlaying (Opening r)
opening_told g remaining tells device stands reply r place answered is =
    opening_refused g remaining tells device stands r place
    (subst (λ (x : Reply). AnswersCall g.size g.story g.failed g.tells remaining (places.Shut device) calls_in.Open (reply_in x) place) is answered)

-- and why lines that can be played are not
pub playing_refused : {F : Type 0} (remaining : F → Option (List ℕ)) (sectors : ℕ) (r : Refusal) → is_size sectors ≡ true → IsOfPlaying r → RefusesReplay remaining sectors r
playing_refused remaining sectors (Opening openings.Device) within why = tt
playing_refused remaining sectors (Opening openings.OutOfMemory) within why = tt
playing_refused remaining sectors OutOfMemory within why = tt
playing_refused remaining sectors _ within why = absurd why

-- a file can't be read, or memory is refused
pub reading_refused : {F : Type 0} (remaining : F → Option (List ℕ)) (sectors : ℕ) (r : Refusal) → is_size sectors ≡ true → IsOfReading r → RefusesReplay remaining sectors r
reading_refused remaining sectors (Io File) within why = within
reading_refused remaining sectors OutOfMemory within why = tt
reading_refused remaining sectors _ within why = absurd why

-- a file can't be read, or lacks the end that it is to have, or memory is refused
pub streams_refused : {F : Type 0} (remaining : F → Option (List ℕ)) (sectors : ℕ) (r : Refusal) → is_size sectors ≡ true → IsOfStreams r
    → RefusesReplay remaining sectors r
streams_refused remaining sectors NoEnd within why = within
streams_refused remaining sectors (Io File) within why = within
streams_refused remaining sectors OutOfMemory within why = tt
streams_refused remaining sectors _ within why = absurd why

-- a script is too long, or can't be read
pub script_unread : {F : Type 0} (remaining : F → Option (List ℕ)) (sectors : ℕ) (r : Refusal) → is_size sectors ≡ true → (r ≡ TooManyBytes) ⊎ IsOfReading r → RefusesReplay remaining sectors r
script_unread remaining sectors r within (inl many) = subst (RefusesReplay remaining sectors) (sym many) within
script_unread remaining sectors r within (inr why) = reading_refused remaining sectors r within why

-- ---- which replies there are

opening_is : {D : Type 0} {g : Ghosts D} (size : D → ℕ) (story : D → Story) (tells : Bool) (device : D) (reply : PlainReply) (place : StoreOrDevice D g)
    → AnswersOpening size story tells device reply place → IsOfOpening reply
opening_is size story tells device done place why = tt
opening_is size story tells device (shut_by refusal) place why = tt
opening_is size story tells device _ place why = absurd why

-- an opening has no other reply
pub opening_answers : (device : ModelDevice) (reply : Reply) (place : StoreOrDevice ModelDevice ghosts)
    → AnswersCall ghosts.size ghosts.story ghosts.failed ghosts.tells (λ (reader : Empty). Some []) (places.Shut device) calls_in.Open (reply_in reply) place
    → IsOfOpening (reply_in reply)
opening_answers device reply place answered =
    opening_is ghosts.size ghosts.story ghosts.tells device (reply_in reply) place
    (subst (λ (p : PlainCall). AnswersPlace ghosts.size ghosts.story ghosts.failed ghosts.tells (places.Shut device) p (reply_in reply) place)
    answered.is answered.answers.answers)

only_memory : (r : tables.Refusal) → RefusesTables false r → r ≡ tables_in.OutOfMemory
only_memory tables_in.Halted why = let never : false ≡ true = why in absurd (cc never)
only_memory tables_in.OutOfMemory why = refl
only_memory _ why = absurd why

listing_is : {D : Type 0} {g : Ghosts D} (size : D → ℕ) (story : D → Story) (failed : D → ℕ) (tells : Bool) (store : Store D g) (reply : PlainReply)
    (after : StoreOrDevice D g) → is_halted store ≡ false → AnswersPlace size story failed tells (places.Open store) tables_call reply after → IsOfListing reply
listing_is size story failed tells store (counts tables) after on why = tt
listing_is size story failed tells store (refused refusal) after on why = only_memory refusal (subst (λ (halted : Bool). RefusesTables halted refusal) on why.0)
listing_is size story failed tells store _ after on why = absurd why.0

listed_after : {D : Type 0} {g : Ghosts D} (size : D → ℕ) (story : D → Story) (failed : D → ℕ) (tells : Bool) (device : D) (opened : PlainReply)
    (place : StoreOrDevice D g) → AnswersOpening size story tells device opened place → (listing : PlainReply) (after : StoreOrDevice D g)
    → AnswersPlace size story failed tells place tables_call listing after → AreOfListing opened listing
listed_after size story failed tells device done (places.Open store) why listing after lists = listing_is size story failed tells store listing after why.1.0 lists
listed_after size story failed tells device done (places.Shut back) why listing after lists = absurd why.1
listed_after size story failed tells device (shut_by refusal) place why listing after lists = tt
listed_after size story failed tells device _ place why listing after lists = absurd why

-- and the list of the tables after it
pub listing_answers : (device : ModelDevice) (opened : Reply) (place : StoreOrDevice ModelDevice ghosts)
    → AnswersCall ghosts.size ghosts.story ghosts.failed ghosts.tells (λ (reader : Empty). Some []) (places.Shut device) calls_in.Open (reply_in opened) place
    → (listing : Reply) (after : StoreOrDevice ModelDevice ghosts)
    → AnswersCall ghosts.size ghosts.story ghosts.failed ghosts.tells (λ (reader : Empty). Some []) place calls_in.Tables (reply_in listing) after
    → AreOfListing (reply_in opened) (reply_in listing)
listing_answers device opened place opens listing after lists =
    listed_after ghosts.size ghosts.story ghosts.failed ghosts.tells device (reply_in opened) place
    (subst (λ (p : PlainCall). AnswersPlace ghosts.size ghosts.story ghosts.failed ghosts.tells (places.Shut device) p (reply_in opened) place)
    opens.is opens.answers.answers)
    (reply_in listing) after
    (subst (λ (p : PlainCall). AnswersPlace ghosts.size ghosts.story ghosts.failed ghosts.tells place p (reply_in listing) after) lists.is lists.answers.answers)
