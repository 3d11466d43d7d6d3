-- What a stop leaves has the tables of all that was acknowledged before.
use Rattle.std.specs.Prelude.{◌&&◌, ◌||◌, ◌≡◌, ℕ, zero, suc, Bool, true, false, if◌then◌else◌, List, [], ◌∷◌, ◌++◌, take, None, refl}
use Rattle.std.proofs.Common.{inl, inr, ap, ◌∙◌}
use Rattle.sector_dev.specs.Disk.{Disk, Story, Image, now, moment, Somewhere, LeftSince}
use Rattle.sector_dev.specs.Time.{LeavesOnly}
use Rattle.tables.specs.Commands.{PlainCommand}
use Rattle.store_runs.specs.Calls.{PlainCall, apply_call, stream_call, PlainReply, may_be_done, is_change}
use Rattle.store_runs.specs.Machine.{Setting, Machine, with_doubt, Allows, meanwhile, has_written}
use Rattle.store_runs.specs.Runs.{Run}
use Rattle.store_runs.specs.Since.{IsWithin, IsLeftIn, story_at, IsLeftFrom}
use Rattle.store_runs.specs.History.{any_change, called_by, begun_by, begun, acknowledged_by, acknowledged, Keeps}
use Rattle.store_runs.specs.laws.Settled.{Moves, dropped_list, kept_list, begun_list, one_step, joined}
use Rattle.store_runs.specs.laws.Left.{left_from}

module _ (s : Setting) (image : Image) where
  -- between two calls
  allowed_between : (m : Machine) (calls : List PlainCommand) → Allows s m image → Keeps s m false [] calls image
  unfolding Allows
  allowed_between m calls (inl is) = inl (record { settled = m.settled; held = is; settles = dropped_list m.settled m.doubt calls })
  allowed_between m calls (inr (inl is)) = inl (record { settled = with_doubt m.settled m.doubt; held = is; settles = kept_list m.settled m.doubt calls })
  allowed_between m calls (inr (inr none)) = inr (record { none = none.1; fresh = none.0; unchanged = refl; silent = refl })

  -- in a call that has begun a write
  allowed_begun : (m : Machine) (calls : List PlainCommand) (call : PlainCall) → Allows s (meanwhile call m true) image → Keeps s m false [] (called_by call ++ calls) image
  unfolding Allows
  allowed_begun m calls (apply_call c) (inl is) = inl (record { settled = m.settled; held = is; settles = dropped_list m.settled m.doubt (c ∷ calls) })
  allowed_begun m calls (apply_call c) (inr (inl is)) = inl (record { settled = m.settled ++ c ∷ []; held = is; settles = begun_list m.settled m.doubt c calls })
  allowed_begun m calls (apply_call c) (inr (inr none)) = inr (record { none = none.1; fresh = none.0; unchanged = refl; silent = refl })
  allowed_begun m calls (stream_call c) (inl is) = inl (record { settled = m.settled; held = is; settles = dropped_list m.settled m.doubt (c ∷ calls) })
  allowed_begun m calls (stream_call c) (inr (inl is)) = inl (record { settled = m.settled ++ c ∷ []; held = is; settles = begun_list m.settled m.doubt c calls })
  allowed_begun m calls (stream_call c) (inr (inr none)) = inr (record { none = none.1; fresh = none.0; unchanged = refl; silent = refl })
  allowed_begun m calls _ allowed = allowed_between m calls allowed

  allowed_in : (m : Machine) (calls : List PlainCommand) (call : PlainCall) (may wrote : Bool) → Allows s (meanwhile call m (may && wrote)) image
      → Keeps s m false [] ((if may then called_by call else []) ++ calls) image
  allowed_in m calls call false wrote allowed = allowed_between m calls allowed
  allowed_in m calls call true false allowed = allowed_between m (called_by call ++ calls) allowed
  allowed_in m calls call true true allowed = allowed_begun m calls call allowed

  -- what is kept after a call is kept from before it
  none_changed : (a b : Bool) → a ≡ false → b ≡ false → (a || b) ≡ false
  none_changed a b first others = ap (λ (x : Bool). x || b) first ∙ others

  carried : (m next : Machine) (call : PlainCall) (reply : PlainReply) (changed : Bool) (ack calls : List PlainCommand) → Moves m call reply next → Keeps s next changed ack calls image
      → Keeps s m (is_change call reply || changed) (acknowledged_by call reply ++ ack) (begun_by call reply ++ calls) image
  carried m next call reply changed ack calls moves (inl h) =
      inl (record {
        settled = h.settled;
        held = h.held;
        settles = joined m.settled next.settled h.settled m.doubt next.doubt None (acknowledged_by call reply) ack (begun_by call reply) calls moves.settles h.settles;
      })
  carried m next call reply changed ack calls moves (inr n) =
      let before = moves.starts n.fresh in
      inr (record {
        none = n.none;
        fresh = before.0;
        unchanged = none_changed (is_change call reply) changed before.1 n.unchanged;
        silent = ap (λ (xs : List PlainCommand). xs ++ ack) before.2 ∙ n.silent;
      })

  forget : (m : Machine) (changed : Bool) (ack calls : List PlainCommand) → Keeps s m changed ack calls image → Keeps s m false [] calls image
  forget m changed ack calls (inl h) = inl (record { settled = h.settled; held = h.held; settles = record { more = h.settles.more; grew = h.settles.grew; kept = tt; only = h.settles.only } })
  forget m changed ack calls (inr n) = inr (record { none = n.none; fresh = n.fresh; unchanged = refl; silent = refl })

  at_some : (Q : Disk → Type 0) (A : Type 0) → ((d : Disk) → Q d → A) → (xs : Story) → Somewhere Q xs → A
  at_some Q A f [] some = absurd some
  at_some Q A f (x ∷ xs) (inl here) = f x here
  at_some Q A f (x ∷ xs) (inr some) = at_some Q A f xs some

  kept_in : (calls : List PlainCall) (replies : List PlainReply) (m : Machine) (old : Story) (failed : ℕ) (m' : Machine) (new : Story) (failed' : ℕ)
      (run : Run s calls replies m old failed m' new failed') → IsLeftIn s calls replies m old failed m' new failed' run image → Keeps s m false [] (begun calls replies) image
  unfolding Run IsLeftIn
  kept_in [] [] m old failed m' new failed' run left = allowed_between m [] left.allowed
  kept_in (call ∷ calls) (reply ∷ replies) m old failed m' new failed' run (inl between) = allowed_between m (begun (call ∷ calls) (reply ∷ replies)) between.allowed
  kept_in (call ∷ calls) (reply ∷ replies) m old failed m' new failed' run (inr (inl within)) =
      at_some (λ d. IsWithin s call reply m (now old) d image) (Keeps s m false [] (begun (call ∷ calls) (reply ∷ replies)) image)
      (λ d is. allowed_in m (begun calls replies) call (may_be_done reply) (has_written (now old) d) is.allowed) run.goes.moments.fresh within
  kept_in (call ∷ calls) (reply ∷ replies) m old failed m' new failed' run (inr (inr later)) =
      forget m (is_change call reply || false) (acknowledged_by call reply ++ []) (begun (call ∷ calls) (reply ∷ replies))
      (carried m run.machine call reply false [] (begun calls replies) (one_step s m call reply _ run.machine run.goes.step) (kept_in calls replies run.machine run.story run.failures m' new failed' run.others later))
  kept_in [] (reply ∷ replies) m old failed m' new failed' run left = absurd run
  kept_in (call ∷ calls) [] m old failed m' new failed' run left = absurd run

  kept_from : (calls : List PlainCall) (replies : List PlainReply) (m : Machine) (old : Story) (failed : ℕ) (m' : Machine) (new : Story) (failed' : ℕ)
      (run : Run s calls replies m old failed m' new failed') (i : ℕ) → IsLeftFrom s calls replies m old failed m' new failed' run i image
      → Keeps s m (any_change (take i calls) (take i replies)) (acknowledged (take i calls) (take i replies)) (begun calls replies) image
  unfolding Run IsLeftFrom
  kept_from [] [] m old failed m' new failed' run zero left = allowed_between m [] left.allowed
  kept_from [] [] m old failed m' new failed' run (suc i) left = allowed_between m [] left.allowed
  kept_from (call ∷ calls) (reply ∷ replies) m old failed m' new failed' run zero left = kept_in (call ∷ calls) (reply ∷ replies) m old failed m' new failed' run left
  kept_from (call ∷ calls) (reply ∷ replies) m old failed m' new failed' run (suc i) left =
      carried m run.machine call reply (any_change (take i calls) (take i replies)) (acknowledged (take i calls) (take i replies)) (begun calls replies) (one_step s m call reply _ run.machine run.goes.step)
      (kept_from calls replies run.machine run.story run.failures m' new failed' run.others i left)
  kept_from [] (reply ∷ replies) m old failed m' new failed' run i left = absurd run
  kept_from (call ∷ calls) [] m old failed m' new failed' run i left = absurd run

pub stops_keep : (s : Setting) (calls : List PlainCall) (replies : List PlainReply) (m : Machine) (old : Story) (failed : ℕ) (m' : Machine) (new : Story) (failed' : ℕ)
    (run : Run s calls replies m old failed m' new failed') (i : ℕ) (image : Image) → LeavesOnly (Allows s m) (now old)
    → LeftSince new (moment (story_at s calls replies m old failed m' new failed' run i)) image
    → Keeps s m (any_change (take i calls) (take i replies)) (acknowledged (take i calls) (take i replies)) (begun calls replies) image
stops_keep s calls replies m old failed m' new failed' run i image allows left =
    kept_from s image calls replies m old failed m' new failed' run i (left_from s calls replies m old failed m' new failed' run i image allows left)
