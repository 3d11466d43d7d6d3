-- What a stop at some moment of a run may leave, by the machines, the stories and the moments of the calls of that run.
use Rattle.std.specs.Prelude.{◌⊎◌, ℕ, zero, suc, List, [], ◌∷◌}
use Rattle.sector_dev.specs.Disk.{Disk, Story, Image, now, MayLeave, Somewhere}
use Rattle.store_runs.specs.Calls.{PlainCall, PlainReply}
use Rattle.store_runs.specs.Machine.{Setting, Machine, Allows, AllowsAt}
use Rattle.store_runs.specs.Runs.{Run}

-- between two calls: the machine allows the image
pub record IsBetween (s : Setting) (m : Machine) (story : Story) (image : Image) : Type 0 where
  pub left : MayLeave (now story) image
  pub allowed : Allows s m image

-- a disk that may leave the image, which is allowed at that moment of this call
pub record IsWithin (s : Setting) (call : PlainCall) (reply : PlainReply) (m : Machine) (before d : Disk) (image : Image) : Type 0 where
  pub left : MayLeave d image
  pub allowed : AllowsAt s call reply m before d image

-- a stop left the image before the first of these calls, at a moment of one of them, or after one of them
unfoldable pub IsLeftIn : (s : Setting) (calls : List PlainCall) (replies : List PlainReply) (m : Machine) (old : Story) (failed : ℕ) (m' : Machine) (new : Story) (failed' : ℕ)
    → Run s calls replies m old failed m' new failed' → Image → Type 0
unfolding Run
IsLeftIn s [] [] m old failed m' new failed' run image = IsBetween s m old image
IsLeftIn s (call ∷ calls) (reply ∷ replies) m old failed m' new failed' run image =
    IsBetween s m old image
    ⊎ Somewhere (λ d. IsWithin s call reply m (now old) d image) run.goes.moments.fresh
    ⊎ IsLeftIn s calls replies run.machine run.story run.failures m' new failed' run.others image
IsLeftIn s [] (reply ∷ replies) m old failed m' new failed' run image = ⊥
IsLeftIn s (call ∷ calls) [] m old failed m' new failed' run image = ⊥

-- the story when the call with this number began, counted from 0; after the last call the story at the end
unfoldable pub story_at : (s : Setting) (calls : List PlainCall) (replies : List PlainReply) (m : Machine) (old : Story) (failed : ℕ) (m' : Machine) (new : Story) (failed' : ℕ)
    → Run s calls replies m old failed m' new failed' → ℕ → Story
unfolding Run
story_at s [] [] m old failed m' new failed' run i = old
story_at s (call ∷ calls) (reply ∷ replies) m old failed m' new failed' run zero = old
story_at s (call ∷ calls) (reply ∷ replies) m old failed m' new failed' run (suc i) = story_at s calls replies run.machine run.story run.failures m' new failed' run.others i
story_at s [] (reply ∷ replies) m old failed m' new failed' run i = absurd run
story_at s (call ∷ calls) [] m old failed m' new failed' run i = absurd run

-- a stop left the image when the call with this number began or later
unfoldable pub IsLeftFrom : (s : Setting) (calls : List PlainCall) (replies : List PlainReply) (m : Machine) (old : Story) (failed : ℕ) (m' : Machine) (new : Story) (failed' : ℕ)
    → Run s calls replies m old failed m' new failed' → ℕ → Image → Type 0
unfolding Run
IsLeftFrom s [] [] m old failed m' new failed' run i image = IsBetween s m old image
IsLeftFrom s (call ∷ calls) (reply ∷ replies) m old failed m' new failed' run zero image = IsLeftIn s (call ∷ calls) (reply ∷ replies) m old failed m' new failed' run image
IsLeftFrom s (call ∷ calls) (reply ∷ replies) m old failed m' new failed' run (suc i) image = IsLeftFrom s calls replies run.machine run.story run.failures m' new failed' run.others i image
IsLeftFrom s [] (reply ∷ replies) m old failed m' new failed' run i image = ⊥
IsLeftFrom s (call ∷ calls) [] m old failed m' new failed' run i image = ⊥
