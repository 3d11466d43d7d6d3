-- What each call answers of any place, from what the calls of a store promise.
use Rattle.std.proofs.Common.{◌≡◌, ◌++◌, ◌∷◌, [], ℕ, Bool, true, List, Result, Ok, Err, refl, subst}
use Rattle.std.specs.Prelude.{Option}
use Rattle.sector_dev.specs.Disk.{Story}
use Rattle.sector_dev.specs.declared.device.SectorDevice.{Ghosts}
use Rattle.catalogue.specs.Entries.{PlainEntry}
use Rattle.tables.specs.Commands.{PlainCommand}
use Rattle.tables.specs.declared.refusal.Refusal.{Refusal}
use Rattle.tables.specs.declared.refusal.Refusal.TheVariants as refusals
use Rattle.store.specs.declared.store.Store.{Store}
use Rattle.store.specs.declared.call.Call.{Call}
use Rattle.store.specs.declared.call.StoreOrDevice.{StoreOrDevice}
use Rattle.store.specs.declared.call.StoreOrDevice.TheVariants as places
use Rattle.store_runs.specs.Calls.{PlainCall, needs_store, format_call, open_call, stream_call, PlainReply, done, refused, is_device_reply, counted}
use Rattle.store.specs.Listing.{RefusesTables, RefusesSchema}
use Rattle.store.specs.Reading.{OnlyReadsStore}
use Rattle.store_runs.specs.Reading.{ended}
use Rattle.store.specs.Places.{IsStreamOf, device_in}
use Rattle.store.specs.Answering.{Answers, AnswersEach, TakesInput, AnswersAs, AnswersCall, AnswersCalls}
use Rattle.store.proofs.Answered.{are_more, runs_more, runs_none, stays_open}

pub list_counts : (halted : Bool) (r : Refusal) (failed : ℕ) → RefusesTables halted r → failed ≡ counted (refused r) failed
list_counts halted refusals.Halted failed told = refl
list_counts halted refusals.OutOfMemory failed told = refl
list_counts halted _ failed told = absurd told

pub schema_counts : (halted : Bool) (found : Option PlainEntry) (r : Refusal) (failed : ℕ) → RefusesSchema halted found r → failed ≡ counted (refused r) failed
schema_counts halted found refusals.Halted failed told = refl
schema_counts halted found refusals.NoTable failed told = refl
schema_counts halted found refusals.OutOfMemory failed told = refl
schema_counts halted found _ failed told = absurd told

module _ {D : Type 0} {g : Ghosts D} (size : D → ℕ) (story : D → Story) (failed : D → ℕ) (tells : Bool) where
  -- a reading that was done, by the reply that gives what was read
  pub read_done : (reply : PlainReply) (old new : Store D g) → counted done (failed old.device) ≡ counted reply (failed old.device) → is_device_reply done ≡ is_device_reply reply
      → OnlyReadsStore size story failed tells done old new → OnlyReadsStore size story failed tells reply old new
  read_done reply old new counts quiet reads =
      record {
        device = record { same = reads.device.same; moments = reads.device.moments; count = cc (reads.device.count, counts) };
        kept = reads.kept;
        book = reads.book;
        halts = cc (reads.halts, quiet);
      }

  -- what needs a store is refused where none is open
  pub refuses_shut : (device : D) (call : PlainCall) → needs_store call ≡ true → Answers {g = g} size story failed tells (places.Shut device) call (refused refusals.Halted) (places.Shut device)
  refuses_shut device format_call needs = absurd (cc needs)
  refuses_shut device open_call needs = absurd (cc needs)
  refuses_shut device _ needs = record { answers = (refl, refl); same = refl; count = refl }

  -- one call more
  pub answers_more : (calls : List PlainCall) (replies : List PlainReply) (call : PlainCall) (reply : PlainReply) (first old new : StoreOrDevice D g)
      → AnswersEach size story failed tells first calls replies old → Answers size story failed tells old call reply new
      → AnswersEach size story failed tells first (calls ++ call ∷ []) (replies ++ reply ∷ []) new
  unfolding AnswersEach
  answers_more [] [] call reply first old new each one = record { next = new; one = subst (λ (p : StoreOrDevice D g). Answers size story failed tells p call reply new) each one; others = refl }
  answers_more (c ∷ calls) (r ∷ replies) call reply first old new each one =
      record { next = each.next; one = each.one; others = answers_more calls replies call reply each.next old new each.others one }
  answers_more [] (r ∷ replies) call reply first old new each one = absurd each
  answers_more (c ∷ calls) [] call reply first old new each one = absurd each

  pub answers_none : (first : StoreOrDevice D g) → AnswersEach size story failed tells first [] [] first
  unfolding AnswersEach
  answers_none first = refl

  -- ---- calls of the code

  -- a command whose bytes come from a reader
  pub stream_answers : (input : Option (List ℕ)) (command : List ℕ → PlainCommand) (old new : Store D g) (result : Result (Unit {0}) Refusal) → TakesInput size story failed tells input command old result new
      → size new.device ≡ size old.device → failed new.device ≡ counted (ended result) (failed old.device)
      → AnswersAs size story failed tells (IsStreamOf input command) (places.Open old) (ended result) (places.Open new)
  stream_answers input command old new (Ok unit) takes same count = record {
    plain = stream_call (command takes.bytes);
    is = (takes.bytes, takes.all, refl);
    goes = λ told base m fits. stays_open size story failed base m (stream_call (command takes.bytes)) done old new (takes.goes told base m fits);
    answers = record { answers = takes.takes; same = same; count = count };
  }
  stream_answers input command old new (Err r) takes same count = record {
    plain = stream_call (command takes.bytes);
    is = (takes.bytes, takes.all, refl);
    goes = λ told base m fits. stays_open size story failed base m (stream_call (command takes.bytes)) (refused r) old new (takes.goes told base m fits);
    answers = record { answers = takes.takes; same = same; count = count };
  }

  pub calls_none : {R : Type 0} (remaining : R → Option (List ℕ)) (place : StoreOrDevice D g) → AnswersCalls size story failed tells remaining place [] [] place
  calls_none remaining place = record { plains = []; are = refl; answers = answers_none place; runs = λ told base m fits. runs_none size story failed base m place fits }

  pub calls_more : {R : Type 0} (remaining : R → Option (List ℕ)) (calls : List (Call R)) (replies : List PlainReply) (call : Call R) (reply : PlainReply) (first old new : StoreOrDevice D g)
      → AnswersCalls size story failed tells remaining first calls replies old → AnswersCall size story failed tells remaining old call reply new
      → AnswersCalls size story failed tells remaining first (calls ++ call ∷ []) (replies ++ reply ∷ []) new
  calls_more remaining calls replies call reply first old new all one = record {
    plains = all.plains ++ one.plain ∷ [];
    are = are_more remaining calls all.plains call one.plain all.are one.is;
    answers = answers_more all.plains replies one.plain reply first old new all.answers one.answers;
    runs = λ told base m fits.
        let so_far = all.runs told base m fits in
        runs_more size story failed base m all.plains replies one.plain reply (device_in first) old new so_far (one.goes told base so_far.next so_far.fits);
  }
