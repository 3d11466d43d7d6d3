-- Runs one after another.
use Rattle.std.specs.Prelude.{ℕ, List, [], ◌∷◌, ◌++◌, refl}
use Rattle.std.proofs.Common.{sym, subst}
use Rattle.sector_dev.specs.Disk.{Story}
use Rattle.sector_dev.specs.Time.{Grows}
use Rattle.sector_dev.specs.laws.Time.{stays, goes_on, weaken}
use Rattle.store_runs.specs.Calls.{PlainCall, PlainReply}
use Rattle.store_runs.specs.Machine.{Setting, Machine}
use Rattle.store_runs.specs.Runs.{Goes, Run}

-- a run goes on with another one
pub runs_joined : (s : Setting) (calls more : List PlainCall) (replies others : List PlainReply) (m mid m' : Machine) (old between new : Story) (failed failures failed' : ℕ)
    → Run s calls replies m old failed mid between failures → Run s more others mid between failures m' new failed' → Run s (calls ++ more) (replies ++ others) m old failed m' new failed'
unfolding Run
runs_joined s [] more [] others m mid m' old between new failed failures failed' first second =
    subst (λ (k : Machine). Run s more others k old failed m' new failed') first.machine
    (subst (λ (t : Story). Run s more others mid t failed m' new failed') first.same
    (subst (λ (f : ℕ). Run s more others mid between f m' new failed') first.failures second))
runs_joined s (call ∷ calls) more (reply ∷ replies) others m mid m' old between new failed failures failed' first second =
    record {
      machine = first.machine;
      story = first.story;
      failures = first.failures;
      goes = first.goes;
      others = runs_joined s calls more replies others first.machine mid m' first.story between new first.failures failures failed' first.others second;
    }
runs_joined s [] more (reply ∷ replies) others m mid m' old between new failed failures failed' first second = absurd first
runs_joined s (call ∷ calls) more [] others m mid m' old between new failed failures failed' first second = absurd first

-- a run of no call, and of one
pub no_run : (s : Setting) (m : Machine) (story : Story) (failed : ℕ) → Run s [] [] m story failed m story failed
unfolding Run
no_run s m story failed = record { machine = refl; same = refl; failures = refl }

pub run_of_one : (s : Setting) (call : PlainCall) (reply : PlainReply) (m next : Machine) (old new : Story) (failed failed' : ℕ)
    → Goes s m call reply old new failed failed' next → Run s (call ∷ []) (reply ∷ []) m old failed next new failed'
unfolding Run
run_of_one s call reply m next old new failed failed' goes =
    record { machine = next; story = new; failures = failed'; goes = goes; others = record { machine = refl; same = refl; failures = refl } }

-- time passes in a run
pub run_grows : (s : Setting) (calls : List PlainCall) (replies : List PlainReply) (m : Machine) (old : Story) (failed : ℕ) (m' : Machine) (new : Story) (failed' : ℕ)
    → Run s calls replies m old failed m' new failed' → Grows (λ d. Unit {0}) old new
unfolding Run
run_grows s [] [] m old failed m' new failed' run = subst (λ (t : Story). Grows (λ d. Unit {0}) old t) (sym run.same) (stays (λ d. Unit {0}) old)
run_grows s (call ∷ calls) (reply ∷ replies) m old failed m' new failed' run =
    goes_on (weaken {Q = λ d. Unit {0}} (λ d allows. tt) run.goes.moments) (run_grows s calls replies run.machine run.story run.failures m' new failed' run.others)
run_grows s [] (reply ∷ replies) m old failed m' new failed' run = absurd run
run_grows s (call ∷ calls) [] m old failed m' new failed' run = absurd run
