-- A run that is cut before one of its calls.
use Rattle.std.specs.Prelude.{◌≡◌, ℕ, zero, suc, true, List, [], ◌∷◌, take, drop}
use Rattle.std.proofs.Common.{subst}
use Rattle.sector_dev.specs.Disk.{Story, now}
use Rattle.store_runs.specs.Calls.{PlainCall, open_export_call, PlainReply, export_is}
use Rattle.store_runs.specs.Machine.{Setting, Machine, has_written}
use Rattle.store_runs.specs.Runs.{Run}
use Rattle.store_runs.specs.Snapshots.{given, has_ended, stays_open}
use Rattle.store_runs.specs.Reached.{IsReached, IsReplied, GivesSnapshot}
use Rattle.store_runs.specs.laws.Going.{no_run}
use Rattle.store_runs.specs.laws.Settled.{run_settles, run_settles_all}
use Rattle.store_runs.specs.laws.Snapshots.{run_snapshot}

-- the calls before, and the others
record IsCut (s : Setting) (m : Machine) (old : Story) (failed : ℕ) (m' : Machine) (new : Story) (failed' : ℕ) (before : List PlainCall) (told : List PlainReply) (call : PlainCall) (more : List PlainCall) (reply : PlainReply)
    (others : List PlainReply) : Type 0 where
  machine : Machine
  story : Story
  failures : ℕ
  front : Run s before told m old failed machine story failures
  rest : Run s (call ∷ more) (reply ∷ others) machine story failures m' new failed'

cut_at : (s : Setting) (calls : List PlainCall) (replies : List PlainReply) (m : Machine) (old : Story) (failed : ℕ) (m' : Machine) (new : Story) (failed' : ℕ)
    → Run s calls replies m old failed m' new failed' → (i : ℕ) (call : PlainCall) (more : List PlainCall) (reply : PlainReply) (others : List PlainReply)
    → drop i calls ≡ call ∷ more → drop i replies ≡ reply ∷ others → IsCut s m old failed m' new failed' (take i calls) (take i replies) call more reply others
unfolding Run
cut_at s [] replies m old failed m' new failed' run zero call more reply others c r = absurd (cc c)
cut_at s [] replies m old failed m' new failed' run (suc i) call more reply others c r = absurd (cc c)
cut_at s (x ∷ xs) [] m old failed m' new failed' run i call more reply others c r = absurd run
cut_at s (x ∷ xs) (y ∷ ys) m old failed m' new failed' run zero call more reply others c r = record {
  machine = m;
  story = old;
  failures = failed;
  front = no_run s m old failed;
  rest = subst (λ (cs : List PlainCall). Run s cs (reply ∷ others) m old failed m' new failed') c (subst (λ (rs : List PlainReply). Run s (x ∷ xs) rs m old failed m' new failed') r run);
}
cut_at s (x ∷ xs) (y ∷ ys) m old failed m' new failed' run (suc i) call more reply others c r =
    let later = cut_at s xs ys run.machine run.story run.failures m' new failed' run.others i call more reply others c r in
    record {
      machine = later.machine;
      story = later.story;
      failures = later.failures;
      front = record { machine = run.machine; story = run.story; failures = run.failures; goes = run.goes; others = later.front };
      rest = later.rest;
    }

-- the first calls of a run are a run
record IsFront (s : Setting) (calls : List PlainCall) (replies : List PlainReply) (m : Machine) (old : Story) (failed : ℕ) : Type 0 where
  machine : Machine
  story : Story
  failures : ℕ
  run : Run s calls replies m old failed machine story failures

front_of : (s : Setting) (calls : List PlainCall) (replies : List PlainReply) (m : Machine) (old : Story) (failed : ℕ) (m' : Machine) (new : Story) (failed' : ℕ)
    → Run s calls replies m old failed m' new failed' → (k : ℕ) → IsFront s (take k calls) (take k replies) m old failed
unfolding Run
front_of s [] [] m old failed m' new failed' run zero = record { machine = m; story = old; failures = failed; run = no_run s m old failed }
front_of s [] [] m old failed m' new failed' run (suc k) = record { machine = m; story = old; failures = failed; run = no_run s m old failed }
front_of s [] (y ∷ ys) m old failed m' new failed' run k = absurd run
front_of s (x ∷ xs) [] m old failed m' new failed' run k = absurd run
front_of s (x ∷ xs) (y ∷ ys) m old failed m' new failed' run zero = record { machine = m; story = old; failures = failed; run = no_run s m old failed }
front_of s (x ∷ xs) (y ∷ ys) m old failed m' new failed' run (suc k) =
    let rest = front_of s xs ys run.machine run.story run.failures m' new failed' run.others k in
    record {
      machine = rest.machine;
      story = rest.story;
      failures = rest.failures;
      run = record { machine = run.machine; story = run.story; failures = run.failures; goes = run.goes; others = rest.run };
    }

reached_by : (s : Setting) (calls : List PlainCall) (replies : List PlainReply) (m : Machine) (old : Story) (failed : ℕ) (m' : Machine) (new : Story) (failed' : ℕ)
    → Run s calls replies m old failed m' new failed' → IsReached m calls replies m'
reached_by s calls replies m old failed m' new failed' run = record {
  settles = run_settles s calls replies m old failed m' new failed' run;
  all_settled = λ none on quiet. run_settles_all s calls replies m old failed m' new failed' run none on quiet;
}

module _ (s : Setting) (calls : List PlainCall) (replies : List PlainReply) (m : Machine) (old : Story) (failed : ℕ) (m' : Machine) (new : Story) (failed' : ℕ)
    (run : Run s calls replies m old failed m' new failed') (i : ℕ) where
  pub replied_at : (call : PlainCall) (more : List PlainCall) (reply : PlainReply) (others : List PlainReply) → drop i calls ≡ call ∷ more → drop i replies ≡ reply ∷ others
      → IsReplied s m (take i calls) (take i replies) call reply
  unfolding Run
  replied_at call more reply others c r =
      let cut = cut_at s calls replies m old failed m' new failed' run i call more reply others c r in
      record {
        machine = cut.machine;
        reached = reached_by s (take i calls) (take i replies) m old failed cut.machine cut.story cut.failures cut.front;
        wrote = has_written (now cut.story) (now cut.rest.story);
        next = cut.rest.machine;
        step = cut.rest.goes.step;
      }

  pub snapshot_at : (k : ℕ) (name : List ℕ) (id : ℕ) (more : List PlainCall) (others : List PlainReply) → drop i calls ≡ open_export_call name ∷ more → drop i replies ≡ export_is id ∷ others
      → stays_open id (take k more) (take k others) ≡ true → has_ended id (take k more) (take k others) ≡ true
      → GivesSnapshot s m (take i calls) (take i replies) name (given id (take k more) (take k others))
  snapshot_at k name id more others c r stays ended =
      let cut = cut_at s calls replies m old failed m' new failed' run i (open_export_call name) more (export_is id) others c r in
      let front = front_of s (open_export_call name ∷ more) (export_is id ∷ others) cut.machine cut.story cut.failures m' new failed' cut.rest (suc k) in
      record {
        machine = cut.machine;
        reached = reached_by s (take i calls) (take i replies) m old failed cut.machine cut.story cut.failures cut.front;
        gives = run_snapshot s name id (take k more) (take k others) cut.machine cut.story cut.failures front.machine front.story front.failures front.run stays ended;
      }
