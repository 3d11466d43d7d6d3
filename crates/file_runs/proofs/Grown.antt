-- The story at the end of a run is that at one of its calls, and what came after it.
use Rattle.std.specs.Prelude.{ℕ, zero, suc, List, [], ◌∷◌}
use Rattle.sector_dev.specs.Disk.{Story}
use Rattle.sector_dev.specs.Time.{Grows}
use Rattle.store_runs.specs.Calls.{PlainCall, PlainReply}
use Rattle.store_runs.specs.Machine.{Setting, Machine}
use Rattle.store_runs.specs.Runs.{Run}
use Rattle.store_runs.specs.Since.{story_at}
use Rattle.store_runs.specs.laws.Going.{run_grows}

pub grows_from : (s : Setting) (calls : List PlainCall) (replies : List PlainReply) (m : Machine) (old : Story) (failed : ℕ) (m' : Machine) (new : Story) (failed' : ℕ)
    (run : Run s calls replies m old failed m' new failed') (i : ℕ) → Grows (λ d. Unit {0}) (story_at s calls replies m old failed m' new failed' run i) new
unfolding Run story_at
grows_from s [] [] m old failed m' new failed' run i = run_grows s [] [] m old failed m' new failed' run
grows_from s (call ∷ calls) (reply ∷ replies) m old failed m' new failed' run zero = run_grows s (call ∷ calls) (reply ∷ replies) m old failed m' new failed' run
grows_from s (call ∷ calls) (reply ∷ replies) m old failed m' new failed' run (suc i) = grows_from s calls replies run.machine run.story run.failures m' new failed' run.others i
grows_from s [] (reply ∷ replies) m old failed m' new failed' run i = absurd run
grows_from s (call ∷ calls) [] m old failed m' new failed' run i = absurd run
