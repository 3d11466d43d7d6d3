-- What a stop leaves in a run is allowed by the machine at that moment.
use Rattle.std.specs.Prelude.{◌≡◌, ◌⊎◌, ◌+◌, ◌-◌, ℕ, zero, suc, List, [], ◌∷◌, ◌++◌, length, take, refl}
use Rattle.std.proofs.Common.{inl, inr, ⊎_elim, ap, sym, ◌∙◌, subst, arith, length-append}
use Rattle.sector_dev.specs.Disk.{Disk, Story, Image, now, moment, MayLeave, Each, Somewhere, LeftSince}
use Rattle.sector_dev.specs.Time.{LeavesOnly}
use Rattle.store_runs.specs.Calls.{PlainCall, PlainReply}
use Rattle.store_runs.specs.Machine.{Setting, Machine, Allows, AllowsEach}
use Rattle.store_runs.specs.Runs.{Run}
use Rattle.store_runs.specs.Since.{IsWithin, IsLeftIn, story_at, IsLeftFrom}
use Rattle.store_runs.specs.laws.Going.{run_grows}

-- ---- moments of two stretches of time

in_turn : (Q : Disk → Type 0) (xs ys : Story) (k : ℕ) → Somewhere Q (take k (xs ++ ys)) → Somewhere Q xs ⊎ Somewhere Q (take (k - length xs) ys)
in_turn Q [] ys k some = let same : k - 0 ≡ k = omega arith in inr (subst (λ (n : ℕ). Somewhere Q (take n ys)) (sym same) some)
in_turn Q (x ∷ xs) ys zero some = absurd some
in_turn Q (x ∷ xs) ys (suc k) (inl here) = inl (inl here)
in_turn Q (x ∷ xs) ys (suc k) (inr some) =
    let same : suc k - suc (length xs) ≡ k - length xs = omega arith in
    ⊎_elim (λ (front : Somewhere Q xs). inl (inr front)) (λ (behind : Somewhere Q (take (k - length xs) ys)). inr (subst (λ (n : ℕ). Somewhere Q (take n ys)) (sym same) behind)) (in_turn Q xs ys k some)

in_front : (Q : Disk → Type 0) (xs ys : Story) (j : ℕ) → Somewhere Q xs → Somewhere Q (take (length xs + j) (xs ++ ys))
in_front Q [] ys j some = absurd some
in_front Q (x ∷ xs) ys j some =
    let more : suc (length xs) + j ≡ suc (length xs + j) = omega arith in
    subst (λ (n : ℕ). Somewhere Q (take n (x ∷ (xs ++ ys)))) (sym more)
    (⊎_elim {C = Q x ⊎ Somewhere Q (take (length xs + j) (xs ++ ys))} (λ (here : Q x). inl here) (λ (later : Somewhere Q xs). inr (in_front Q xs ys j later)) some)

-- the one moment from the last on
at_last : (Q : Disk → Type 0) (old : Story) (k : ℕ) → k ≡ length old - (length old - 1) → Somewhere Q (take k old) → Q (now old)
at_last Q [] zero is some = absurd some
at_last Q [] (suc k) is some = absurd some
at_last Q (d ∷ ds) zero is some = absurd (omega arith)
at_last Q (d ∷ ds) (suc k) is (inl here) = here
at_last Q (d ∷ ds) (suc zero) is (inr some) = absurd some
at_last Q (d ∷ ds) (suc (suc k)) is (inr some) = absurd (omega arith)

each_some : (P Q R : Disk → Type 0) → ((d : Disk) → P d → Q d → R d) → (xs : Story) → Each P xs → Somewhere Q xs → Somewhere R xs
each_some P Q R f [] each some = absurd some
each_some P Q R f (x ∷ xs) each (inl here) = inl (f x each.0 here)
each_some P Q R f (x ∷ xs) each (inr some) = inr (each_some P Q R f xs each.1 some)

-- ---- one call

-- a stop since the call began left the image before it, in it, or since its end
since_call : (image : Image) (old fresh more : Story) → LeftSince (more ++ (fresh ++ old)) (moment old) image
    → MayLeave (now old) image ⊎ Somewhere (λ d. MayLeave d image) fresh ⊎ LeftSince (more ++ (fresh ++ old)) (moment (fresh ++ old)) image
since_call image old fresh more left =
    let Q : Disk → Type 0 = λ d. MayLeave d image in
    let whole : length (more ++ (fresh ++ old)) ≡ length more + (length fresh + length old) = omega (arith, length-append more (fresh ++ old), length-append fresh old) in
    let own : length (fresh ++ old) ≡ length fresh + length old = omega (arith, length-append fresh old) in
    let behind : length (more ++ (fresh ++ old)) - (length (fresh ++ old) - 1) ≡ length more + (length (fresh ++ old) - (length (fresh ++ old) - 1)) = omega (arith, whole, own) in
    ⊎_elim
    (λ (later : Somewhere Q more).
    inr (inr (subst (λ (n : ℕ). Somewhere Q (take n (more ++ (fresh ++ old)))) (sym behind) (in_front Q more (fresh ++ old) (length (fresh ++ old) - (length (fresh ++ old) - 1)) later))))
    (λ (rest : Somewhere Q (take ((length (more ++ (fresh ++ old)) - (length old - 1)) - length more) (fresh ++ old))).
    ⊎_elim (λ (within : Somewhere Q fresh). inr (inl within))
    (λ (before : Somewhere Q (take (((length (more ++ (fresh ++ old)) - (length old - 1)) - length more) - length fresh) old)). inl (at_last Q old _ (omega (arith, whole)) before))
    (in_turn Q fresh old ((length (more ++ (fresh ++ old)) - (length old - 1)) - length more) rest))
    (in_turn Q more (fresh ++ old) (length (more ++ (fresh ++ old)) - (length old - 1)) left)

within_call : (s : Setting) (call : PlainCall) (reply : PlainReply) (m : Machine) (before : Disk) (image : Image) (d : Disk) → AllowsEach s call reply m before d → MayLeave d image → IsWithin s call reply m before d image
within_call s call reply m before image d allows left = record { left = left; allowed = allows image left }

-- ---- a run

pub left_in : (s : Setting) (calls : List PlainCall) (replies : List PlainReply) (m : Machine) (old : Story) (failed : ℕ) (m' : Machine) (new : Story) (failed' : ℕ)
    (run : Run s calls replies m old failed m' new failed') (image : Image) → LeavesOnly (Allows s m) (now old) → LeftSince new (moment old) image
    → IsLeftIn s calls replies m old failed m' new failed' run image
unfolding Run IsLeftIn
left_in s [] [] m old failed m' new failed' run image allows left =
    let may : MayLeave (now old) image = at_last (λ d. MayLeave d image) old _ refl (subst (λ (t : Story). LeftSince t (moment old) image) run.same left) in
    record { left = may; allowed = allows image may }
left_in s (call ∷ calls) (reply ∷ replies) m old failed m' new failed' run image allows left =
    let g = run.goes.moments in
    let later = run_grows s calls replies run.machine run.story run.failures m' new failed' run.others in
    let is : new ≡ later.fresh ++ (g.fresh ++ old) = later.joined ∙ ap (λ (t : Story). later.fresh ++ t) g.joined in
    let back : later.fresh ++ (g.fresh ++ old) ≡ new = sym is in
    ⊎_elim (λ (before : MayLeave (now old) image). inl (record { left = before; allowed = allows image before }))
    (λ (others : Somewhere (λ d. MayLeave d image) g.fresh ⊎ LeftSince (later.fresh ++ (g.fresh ++ old)) (moment (g.fresh ++ old)) image).
    ⊎_elim
    (λ (within : Somewhere (λ d. MayLeave d image) g.fresh). inr (inl (each_some (AllowsEach s call reply m (now old)) (λ d. MayLeave d image) (λ d. IsWithin s call reply m (now old) d image) (within_call s call reply m (now old) image) g.fresh g.each within)))
    (λ (after : LeftSince (later.fresh ++ (g.fresh ++ old)) (moment (g.fresh ++ old)) image).
    inr (inr (left_in s calls replies run.machine run.story run.failures m' new failed' run.others image run.goes.settles
    (subst (λ (t : Story). LeftSince new (moment t) image) (sym g.joined) (subst (λ (t : Story). LeftSince t (moment (g.fresh ++ old)) image) back after)))))
    others)
    (since_call image old g.fresh later.fresh (subst (λ (t : Story). LeftSince t (moment old) image) is left))
left_in s [] (reply ∷ replies) m old failed m' new failed' run image allows left = absurd run
left_in s (call ∷ calls) [] m old failed m' new failed' run image allows left = absurd run

pub left_from : (s : Setting) (calls : List PlainCall) (replies : List PlainReply) (m : Machine) (old : Story) (failed : ℕ) (m' : Machine) (new : Story) (failed' : ℕ)
    (run : Run s calls replies m old failed m' new failed') (i : ℕ) (image : Image) → LeavesOnly (Allows s m) (now old)
    → LeftSince new (moment (story_at s calls replies m old failed m' new failed' run i)) image → IsLeftFrom s calls replies m old failed m' new failed' run i image
unfolding Run story_at IsLeftFrom
left_from s [] [] m old failed m' new failed' run i image allows left =
    let may : MayLeave (now old) image = at_last (λ d. MayLeave d image) old _ refl (subst (λ (t : Story). LeftSince t (moment old) image) run.same left) in
    record { left = may; allowed = allows image may }
left_from s (call ∷ calls) (reply ∷ replies) m old failed m' new failed' run zero image allows left = left_in s (call ∷ calls) (reply ∷ replies) m old failed m' new failed' run image allows left
left_from s (call ∷ calls) (reply ∷ replies) m old failed m' new failed' run (suc i) image allows left =
    left_from s calls replies run.machine run.story run.failures m' new failed' run.others i image run.goes.settles left
left_from s [] (reply ∷ replies) m old failed m' new failed' run i image allows left = absurd run
left_from s (call ∷ calls) [] m old failed m' new failed' run i image allows left = absurd run
