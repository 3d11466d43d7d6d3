-- Replies that never come in a run.
use Rattle.std.specs.Prelude.{◌≡◌, ◌||◌, ℕ, zero, suc, Bool, true, false, List, [], ◌∷◌, take, drop, refl}
use Rattle.std.specs.List.{list_any}
use Rattle.std.proofs.Common.{sym, ap, ◌∙◌}
use Rattle.std.proofs.lemmas.Bool.{or_from, or_left}
use Rattle.sector_dev.specs.Disk.{Story}
use Rattle.segments.specs.laws.Usages.{or_false}
use Rattle.commit.specs.declared.cause.Cause.{Cause}
use Rattle.commit.specs.declared.opening_refusal.OpeningRefusal.TheVariants as openings
use Rattle.store_runs.specs.Calls.{PlainCall, apply_call, format_call, open_call, close_call, tables_call, schema_call, read_call, export_call, stream_call, open_export_call, export_next_call, close_export_call, compact_call, upgrade_call, PlainReply, shut_by, is_change}
use Rattle.store_runs.specs.Machine.{Setting, Machine}
use Rattle.store_runs.specs.Steps.{Step}
use Rattle.store_runs.specs.Runs.{Run}
use Rattle.store_runs.specs.History.{any_change, tells_damage, tells_no_store}
use Rattle.store_runs.specs.laws.Settled.{Moves, one_step}

-- ---- damage

no_damage : (s : Setting) (m : Machine) (call : PlainCall) (cause : Cause) (wrote : Bool) (next : Machine) → Step s m call (shut_by (openings.Damaged cause)) wrote next → ⊥
unfolding Step
no_damage s m (apply_call c) cause wrote next step = step
no_damage s m format_call cause wrote next step = step
no_damage s m open_call cause wrote next step = step
no_damage s m close_call cause wrote next step = step
no_damage s m tables_call cause wrote next step = step
no_damage s m (schema_call name) cause wrote next step = step
no_damage s m (read_call name) cause wrote next step = step
no_damage s m (export_call name) cause wrote next step = step
no_damage s m (stream_call c) cause wrote next step = step
no_damage s m (open_export_call name) cause wrote next step = step
no_damage s m (export_next_call id) cause wrote next step = step
no_damage s m (close_export_call id) cause wrote next step = step
no_damage s m compact_call cause wrote next step = step
no_damage s m upgrade_call cause wrote next step = step

sound_reply : (s : Setting) (m : Machine) (call : PlainCall) (reply : PlainReply) (wrote : Bool) (next : Machine) → Step s m call reply wrote next → tells_damage reply ≡ false
sound_reply s m call (shut_by (openings.Damaged cause)) wrote next step = absurd (no_damage s m call cause wrote next step)
sound_reply s m call _ wrote next step = refl

pub tells_none_damaged : (s : Setting) (calls : List PlainCall) (replies : List PlainReply) (m : Machine) (old : Story) (failed : ℕ) (m' : Machine) (new : Story) (failed' : ℕ)
    → Run s calls replies m old failed m' new failed' → list_any tells_damage replies ≡ false
unfolding Run
tells_none_damaged s [] [] m old failed m' new failed' run = refl
tells_none_damaged s (call ∷ calls) (reply ∷ replies) m old failed m' new failed' run =
    or_from (tells_damage reply) (list_any tells_damage replies) (sound_reply s m call reply _ run.machine run.goes.step)
    (tells_none_damaged s calls replies run.machine run.story run.failures m' new failed' run.others)
tells_none_damaged s [] (reply ∷ replies) m old failed m' new failed' run = absurd run
tells_none_damaged s (call ∷ calls) [] m old failed m' new failed' run = absurd run

-- ---- no store

early : (s : Setting) (m : Machine) (call : PlainCall) (wrote : Bool) (next : Machine) → Step s m call (shut_by openings.NotAStore) wrote next → m.started ≡ false
unfolding Step
early s m (apply_call c) wrote next step = absurd step
early s m format_call wrote next step = absurd step
early s m open_call wrote next step = step.0
early s m close_call wrote next step = absurd step
early s m tables_call wrote next step = absurd step
early s m (schema_call name) wrote next step = absurd step
early s m (read_call name) wrote next step = absurd step
early s m (export_call name) wrote next step = absurd step
early s m (stream_call c) wrote next step = absurd step
early s m (open_export_call name) wrote next step = absurd step
early s m (export_next_call id) wrote next step = absurd step
early s m (close_export_call id) wrote next step = absurd step
early s m compact_call wrote next step = absurd step
early s m upgrade_call wrote next step = absurd step

started_reply : (s : Setting) (m : Machine) (call : PlainCall) (reply : PlainReply) (wrote : Bool) (next : Machine) → m.started ≡ true → Step s m call reply wrote next → tells_no_store reply ≡ false
started_reply s m call (shut_by openings.NotAStore) wrote next started step = let both : true ≡ false = sym started ∙ early s m call wrote next step in absurd (cc both)
started_reply s m call _ wrote next started step = refl

-- a run that has started stays so
true_unless : (a b : Bool) → a ≡ true → (b ≡ false → a ≡ false) → b ≡ true
true_unless a true is back = refl
true_unless a false is back = let both : true ≡ false = sym is ∙ back refl in absurd (cc both)

tells_a_store : (s : Setting) (calls : List PlainCall) (replies : List PlainReply) (m : Machine) (old : Story) (failed : ℕ) (m' : Machine) (new : Story) (failed' : ℕ)
    → Run s calls replies m old failed m' new failed' → m.started ≡ true → list_any tells_no_store replies ≡ false
unfolding Run
tells_a_store s [] [] m old failed m' new failed' run started = refl
tells_a_store s (call ∷ calls) (reply ∷ replies) m old failed m' new failed' run started =
    let moves = one_step s m call reply _ run.machine run.goes.step in
    or_from (tells_no_store reply) (list_any tells_no_store replies) (started_reply s m call reply _ run.machine started run.goes.step)
    (tells_a_store s calls replies run.machine run.story run.failures m' new failed' run.others (true_unless m.started run.machine.started started (λ no. (moves.starts no).0)))
tells_a_store s [] (reply ∷ replies) m old failed m' new failed' run started = absurd run
tells_a_store s (call ∷ calls) [] m old failed m' new failed' run started = absurd run

-- and a call that was done starts it
started_next : (m next : Machine) (call : PlainCall) (reply : PlainReply) → Moves m call reply next → (more : Bool) → (m.started || (is_change call reply || more)) ≡ true → (next.started || more) ≡ true
started_next m next call reply moves more is = by_next next.started refl
  where
    by_next : (b : Bool) → next.started ≡ b → (next.started || more) ≡ true
    by_next true now = or_left next.started more now
    by_next false early =
        let before = moves.starts early in
        ap (λ (b : Bool). b || more) early ∙ sym (λ i. before.0 i || (before.1 i || more)) ∙ is

pub tells_a_store_since : (s : Setting) (calls : List PlainCall) (replies : List PlainReply) (m : Machine) (old : Story) (failed : ℕ) (m' : Machine) (new : Story) (failed' : ℕ)
    → Run s calls replies m old failed m' new failed' → (i : ℕ) → (m.started || any_change (take i calls) (take i replies)) ≡ true → list_any tells_no_store (drop i replies) ≡ false
unfolding Run
tells_a_store_since s [] [] m old failed m' new failed' run zero there = refl
tells_a_store_since s [] [] m old failed m' new failed' run (suc i) there = refl
tells_a_store_since s (call ∷ calls) (reply ∷ replies) m old failed m' new failed' run zero there =
    tells_a_store s (call ∷ calls) (reply ∷ replies) m old failed m' new failed' run (sym (or_false m.started) ∙ there)
tells_a_store_since s (call ∷ calls) (reply ∷ replies) m old failed m' new failed' run (suc i) there =
    tells_a_store_since s calls replies run.machine run.story run.failures m' new failed' run.others i
    (started_next m run.machine call reply (one_step s m call reply _ run.machine run.goes.step) (any_change (take i calls) (take i replies)) there)
tells_a_store_since s [] (reply ∷ replies) m old failed m' new failed' run i there = absurd run
tells_a_store_since s (call ∷ calls) [] m old failed m' new failed' run i there = absurd run
