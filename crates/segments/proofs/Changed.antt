-- What changes as a run gets another usage.
use Rattle.std.proofs.Common.{◌≡◌, ◌⊎◌, inl, inr, ⊎_elim, ◌≤◌, ◌<◌, ◌+◌, ltb, ℕ, zero, suc, Bool, true, false, cond, List, [], ◌∷◌, length, get_or, set, insert, remove, refl, sym, ap, ◌∙◌, subst, arith}
use Rattle.std.proofs.lemmas.Bool.{cond_both, cond-true, cond-false, ltb-true, ltb-false, cases_Bool, true≢false, or_parts, le-ltb}
use Rattle.segments.specs.declared.run.Run.{Run}
use Rattle.segments.specs.declared.entries.Usage.{Usage}
use Rattle.segments.specs.declared.entries.UsageEntry.{UsageEntry}
use Rattle.segments.specs.Runs.{IsApart, IsOnDevice, IsFree}
use Rattle.segments.specs.Usages.{UNUSED, is_used, usage_of, with_usage, entry_before, same_run, IsUsedIn, Ordered, EndBy, IsSound, Changes, with_run}
use Rattle.segments.specs.inner.Places.{place_of, ApartEach, HasEntryAt}
use Rattle.segments.proofs.Placed.{same_run-false, same_run-eq, starts_differ, ordered_from, ascending, apart_before}
use Rattle.segments.specs.laws.Usages.{same_run_is, same_itself}
use Rattle.segments.proofs.Used.{unused_before, used_within, used_ends, apart_used, used_apart}

-- each entry is the run's, or apart from it
abbrev pub Fits : Run → List UsageEntry → Type 0
Fits run [] = Unit {0}
Fits run (e ∷ es) = ((e.run ≡ run) ⊎ IsApart run e.run) × Fits run es

pub fits_apart : (run : Run) (es : List UsageEntry) → ApartEach run es → Fits run es
fits_apart run [] apart = tt
fits_apart run (e ∷ es) apart = (inr apart.0, fits_apart run es apart.1)

-- a used run fits: the entries meet none but itself
pub fits_used : (from : ℕ) (es : List UsageEntry) (run : Run) → Ordered from es → IsUsedIn es run → Fits run es
fits_used from [] run o used = tt
fits_used from (e ∷ es) run o used =
    ⊎_elim
    (λ (same : same_run e.run run ≡ true).
    let is = same_run_is e.run run same in
    (inl is, fits_apart run es (apart_before run (e.run.start + e.run.count) es o.3 (subst (λ (r : Run). r.start + r.count ≤ e.run.start + e.run.count) is (omega arith)))))
    (λ (other : same_run e.run run ≡ false).
    let later : IsUsedIn es run = subst (λ (u : Usage). is_used u ≡ true) (cond-false (same_run e.run run) e.usage (usage_of es run) other) used in
    (inr (inr (within (e.run.start + e.run.count) es o.3 later)), fits_used (e.run.start + e.run.count) es run o.3 later))
    (cases_Bool (same_run e.run run))
  where
    within : (low : ℕ) (es : List UsageEntry) → Ordered low es → IsUsedIn es run → low ≤ run.start
    within low es o used = (used_within low es run o used).0

-- where an entry's run starts before this one, it ends before it too
ends_before : (run : Run) (e : UsageEntry) → (e.run ≡ run) ⊎ IsApart run e.run → e.run.start < run.start → e.run.start + e.run.count ≤ run.start
ends_before run e (inl is) lt = let starts : e.run.start ≡ run.start = ap (λ (r : Run). r.start) is in absurd (omega arith)
ends_before run e (inr (inl before)) lt = absurd (omega arith)
ends_before run e (inr (inr after)) lt = after

-- the entries after the run's place, without the run
rest_behind : (run : Run) (from : ℕ) (e : UsageEntry) (es : List UsageEntry) → Ordered from (e ∷ es) → run.start ≤ e.run.start → (e.run ≡ run) ⊎ IsApart run e.run → Ordered (run.start + run.count) (cond (same_run e.run run) es (e ∷ es))
rest_behind run from e es o ge fits =
    cond_both (same_run e.run run) es (e ∷ es) (Ordered (run.start + run.count))
    (λ same. subst (λ (r : Run). Ordered (r.start + r.count) es) (same_run_is e.run run same) o.3)
    (λ other. (behind other fits, o.1, o.2, o.3))
  where
    behind : same_run e.run run ≡ false → (e.run ≡ run) ⊎ IsApart run e.run → run.start + run.count ≤ e.run.start
    behind other (inl is) = absurd (true≢false (sym (same_run-eq e.run run is) ∙ other))
    behind other (inr (inl before)) = before
    behind other (inr (inr after)) = absurd (omega (arith, o.1))

pub ordered_with : (run : Run) (u : Usage) (from : ℕ) (es : List UsageEntry) → Ordered from es → from ≤ run.start → 1 ≤ run.count → Fits run es → Ordered from (with_usage run u es)
ordered_with run u from [] o low some fits =
    cond_both (is_used u) (record { run = run; usage = u } ∷ []) [] (Ordered from) (λ used. (low, some, used, tt)) (λ _. tt)
ordered_with run u from (e ∷ es) o low some fits =
    cond_both (ltb e.run.start run.start) (e ∷ with_usage run u es) (entry_before run u (cond (same_run e.run run) es (e ∷ es))) (Ordered from)
    (λ t. (o.0, o.1, o.2, ordered_with run u (e.run.start + e.run.count) es o.3 (ends_before run e fits.0 (ltb-true _ _ t)) some fits.1))
    (λ f.
    let rest = rest_behind run from e es o (ltb-false _ _ f) fits.0 in
    cond_both (is_used u) (record { run = run; usage = u } ∷ cond (same_run e.run run) es (e ∷ es)) (cond (same_run e.run run) es (e ∷ es)) (Ordered from)
    (λ used. (low, some, used, rest))
    (λ _. ordered_from (run.start + run.count) from (cond (same_run e.run run) es (e ∷ es)) (omega arith) rest))

pub ends_with : (run : Run) (u : Usage) (size : ℕ) (es : List UsageEntry) → EndBy size es → run.start + run.count ≤ size → EndBy size (with_usage run u es)
ends_with run u size [] ends within = cond_both (is_used u) (record { run = run; usage = u } ∷ []) [] (EndBy size) (λ _. (within, tt)) (λ _. tt)
ends_with run u size (e ∷ es) ends within =
    cond_both (ltb e.run.start run.start) (e ∷ with_usage run u es) (entry_before run u (cond (same_run e.run run) es (e ∷ es))) (EndBy size)
    (λ _. (ends.0, ends_with run u size es ends.1 within))
    (λ _.
    let rest : EndBy size (cond (same_run e.run run) es (e ∷ es)) = cond_both (same_run e.run run) es (e ∷ es) (EndBy size) (λ _. ends.1) (λ _. ends) in
    cond_both (is_used u) (record { run = run; usage = u } ∷ cond (same_run e.run run) es (e ∷ es)) (cond (same_run e.run run) es (e ∷ es)) (EndBy size) (λ _. (within, rest)) (λ _. rest))

-- a usage that is not used is the one of a run without an entry
unused_is : (u : Usage) → is_used u ≡ false → u ≡ UNUSED
unused_is u f =
    let parts = or_parts u.taken (ltb 0 u.pins) f in
    let none : u.pins ≡ 0 = let le = ltb-false 0 u.pins parts.1 in omega arith in
    λ i. record { taken = parts.0 i; pins = none i }

usage_before : (run : Run) (u : Usage) (es : List UsageEntry) → usage_of es run ≡ UNUSED → usage_of (entry_before run u es) run ≡ u
usage_before run u es none =
    cond_both (is_used u) (record { run = run; usage = u } ∷ es) es (λ (es' : List UsageEntry). usage_of es' run ≡ u)
    (λ _. cond-true (same_run run run) u (usage_of es run) (same_itself run))
    (λ f. none ∙ sym (unused_is u f))

-- the run has this usage now
pub usage_with : (run : Run) (u : Usage) (from : ℕ) (es : List UsageEntry) → Ordered from es → 1 ≤ run.count → Fits run es → usage_of (with_usage run u es) run ≡ u
usage_with run u from [] o some fits = usage_before run u [] refl
usage_with run u from (e ∷ es) o some fits =
    cond_both (ltb e.run.start run.start) (e ∷ with_usage run u es) (entry_before run u (cond (same_run e.run run) es (e ∷ es))) (λ (es' : List UsageEntry). usage_of es' run ≡ u)
    (λ t.
    let lt = ltb-true e.run.start run.start t in
    cond-false (same_run e.run run) e.usage (usage_of (with_usage run u es) run) (starts_differ e.run run (λ is. omega arith))
    ∙ usage_with run u (e.run.start + e.run.count) es o.3 some fits.1)
    (λ f. usage_before run u (cond (same_run e.run run) es (e ∷ es))
    (unused_before (run.start + run.count) (cond (same_run e.run run) es (e ∷ es)) run
    (ascending (run.start + run.count) (cond (same_run e.run run) es (e ∷ es)) (rest_behind run from e es o (ltb-false _ _ f) fits.0)) (omega arith)))

other_before : (run : Run) (u : Usage) (other : Run) (es : List UsageEntry) → (other ≡ run → ⊥) → usage_of (entry_before run u es) other ≡ usage_of es other
other_before run u other es differs =
    cond_both (is_used u) (record { run = run; usage = u } ∷ es) es (λ (es' : List UsageEntry). usage_of es' other ≡ usage_of es other)
    (λ _. cond-false (same_run run other) u (usage_of es other) (same_run-false run other (λ is. differs (sym is))))
    (λ _. refl)

-- and each other run the usage that it had
pub usage_other : (run : Run) (u : Usage) (other : Run) (es : List UsageEntry) → (other ≡ run → ⊥) → usage_of (with_usage run u es) other ≡ usage_of es other
usage_other run u other [] differs = other_before run u other [] differs
usage_other run u other (e ∷ es) differs =
    cond_both (ltb e.run.start run.start) (e ∷ with_usage run u es) (entry_before run u (cond (same_run e.run run) es (e ∷ es))) (λ (es' : List UsageEntry). usage_of es' other ≡ usage_of (e ∷ es) other)
    (λ _. ap (λ (x : Usage). cond (same_run e.run other) e.usage x) (usage_other run u other es differs))
    (λ _. other_before run u other (cond (same_run e.run run) es (e ∷ es)) differs ∙ cond_both (same_run e.run run) es (e ∷ es) (λ (es' : List UsageEntry). usage_of es' other ≡ usage_of (e ∷ es) other)
    (λ same. sym (cond-false (same_run e.run other) e.usage (usage_of es other) (same_run-false e.run other (λ is. differs (sym is ∙ same_run_is e.run run same)))))
    (λ _. refl))

-- an entry that goes in at its place
pub entered : (run : Run) (u : Usage) (es : List UsageEntry) → is_used u ≡ true → ApartEach run es → 1 ≤ run.count → insert es (place_of run.start es) (record { run = run; usage = u }) ≡ with_usage run u es
entered run u [] used apart some = sym (cond-true (is_used u) (record { run = run; usage = u } ∷ []) [] used)
entered run u (e ∷ es) used apart some =
    ⊎_elim
    (λ (t : ltb e.run.start run.start ≡ true).
    ap (λ (b : Bool). insert (e ∷ es) (cond b (suc (place_of run.start es)) 0) (record { run = run; usage = u })) t
    ∙ ap (λ (es' : List UsageEntry). e ∷ es') (entered run u es used apart.1 some)
    ∙ sym (cond-true (ltb e.run.start run.start) (e ∷ with_usage run u es) (entry_before run u (cond (same_run e.run run) es (e ∷ es))) t))
    (λ (f : ltb e.run.start run.start ≡ false).
    let ge = ltb-false e.run.start run.start f in
    ap (λ (b : Bool). insert (e ∷ es) (cond b (suc (place_of run.start es)) 0) (record { run = run; usage = u })) f
    ∙ ap (λ (b : Bool). record { run = run; usage = u } ∷ cond b es (e ∷ es)) (sym (same_run-false e.run run (differs apart.0)))
    ∙ sym (cond-true (is_used u) (record { run = run; usage = u } ∷ cond (same_run e.run run) es (e ∷ es)) (cond (same_run e.run run) es (e ∷ es)) used)
    ∙ sym (cond-false (ltb e.run.start run.start) (e ∷ with_usage run u es) (entry_before run u (cond (same_run e.run run) es (e ∷ es))) f))
    (cases_Bool (ltb e.run.start run.start))
  where
    differs : IsApart run e.run → e.run ≡ run → ⊥
    differs (inl before) is = let starts : e.run.start ≡ run.start = ap (λ (r : Run). r.start) is in omega arith
    differs (inr after) is = let starts : e.run.start ≡ run.start = ap (λ (r : Run). r.start) is in let counts : e.run.count ≡ run.count = ap (λ (r : Run). r.count) is in omega arith

cons_cond : (e : UsageEntry) (b : Bool) (xs ys : List UsageEntry) → cond b (e ∷ xs) (e ∷ ys) ≡ e ∷ cond b xs ys
cons_cond e true xs ys = refl
cons_cond e false xs ys = refl

-- an entry that changes where it stands, or goes
pub changed : (run : Run) (u : Usage) (es : List UsageEntry) (k : ℕ) (d : UsageEntry) → k ≡ place_of run.start es → k < length es → (get_or es k d).run ≡ run → cond (is_used u) (set es k (record { run = run; usage = u })) (remove es k) ≡ with_usage run u es
changed run u [] k d place lt is = absurd (omega arith)
changed run u (e ∷ es) zero d place lt is =
    let f : ltb e.run.start run.start ≡ false = le-ltb e.run.start run.start (let starts : e.run.start ≡ run.start = ap (λ (r : Run). r.start) is in omega arith) in
    ap (λ (b : Bool). entry_before run u (cond b es (e ∷ es))) (sym (same_run-eq e.run run is))
    ∙ sym (cond-false (ltb e.run.start run.start) (e ∷ with_usage run u es) (entry_before run u (cond (same_run e.run run) es (e ∷ es))) f)
changed run u (e ∷ es) (suc k) d place lt is =
    ⊎_elim
    (λ (t : ltb e.run.start run.start ≡ true).
    let here : suc k ≡ suc (place_of run.start es) = place ∙ cond-true (ltb e.run.start run.start) (suc (place_of run.start es)) 0 t in
    cons_cond e (is_used u) (set es k (record { run = run; usage = u })) (remove es k)
    ∙ ap (λ (es' : List UsageEntry). e ∷ es') (changed run u es k d (omega arith) (omega arith) is)
    ∙ sym (cond-true (ltb e.run.start run.start) (e ∷ with_usage run u es) (entry_before run u (cond (same_run e.run run) es (e ∷ es))) t))
    (λ (f : ltb e.run.start run.start ≡ false).
    let here : suc k ≡ 0 = place ∙ cond-false (ltb e.run.start run.start) (suc (place_of run.start es)) 0 f in absurd (omega arith))
    (cases_Bool (ltb e.run.start run.start))

-- without an entry nothing changes
pub unchanged : (run : Run) (from : ℕ) (es : List UsageEntry) → Ordered from es → usage_of es run ≡ UNUSED → with_usage run UNUSED es ≡ es
unchanged run from [] o none = refl
unchanged run from (e ∷ es) o none =
    cond_both (ltb e.run.start run.start) (e ∷ with_usage run UNUSED es) (cond (same_run e.run run) es (e ∷ es)) (λ (es' : List UsageEntry). es' ≡ e ∷ es)
    (λ t.
    let lt = ltb-true e.run.start run.start t in
    ap (λ (es' : List UsageEntry). e ∷ es') (unchanged run (e.run.start + e.run.count) es o.3
    (sym (cond-false (same_run e.run run) e.usage (usage_of es run) (starts_differ e.run run (λ is. omega arith))) ∙ none)))
    (λ _. cond_both (same_run e.run run) es (e ∷ es) (λ (es' : List UsageEntry). es' ≡ e ∷ es)
    (λ same. absurd (true≢false (sym o.2 ∙ ap is_used (sym (cond-true (same_run e.run run) e.usage (usage_of es run) same) ∙ none))))
    (λ _. refl))

-- a device whose runs are sound stays so
pub sound_with : (size : ℕ) (es : List UsageEntry) (run : Run) (u : Usage) → IsSound (record { size = size; entries = es }) → IsOnDevice size run → Fits run es → IsSound (with_run (record { size = size; entries = es }) run u)
sound_with size es run u sound on fits = record { ordered = ordered_with run u 2 es sound.ordered on.above on.some fits; within = ends_with run u size es sound.within on.within }

pub changes_with : (size : ℕ) (es : List UsageEntry) (run : Run) (u : Usage) → IsSound (record { size = size; entries = es }) → 1 ≤ run.count → Fits run es → Changes (record { size = size; entries = es }) (with_run (record { size = size; entries = es }) run u) run u
changes_with size es run u sound some fits = record { size = refl; this = usage_with run u 2 es sound.ordered some fits; others = λ other differs. usage_other run u other es differs }

-- a used run is on the device
pub on_device : (size : ℕ) (es : List UsageEntry) (run : Run) → IsSound (record { size = size; entries = es }) → IsUsedIn es run → IsOnDevice size run
on_device size es run sound used = let low = used_within 2 es run sound.ordered used in record { above = low.0; some = low.1; within = used_ends size es run sound.within used }

-- a run without an entry stays without one
pub changes_none : (size : ℕ) (es : List UsageEntry) (run : Run) → IsSound (record { size = size; entries = es }) → usage_of es run ≡ UNUSED → with_run (record { size = size; entries = es }) run UNUSED ≡ record { size = size; entries = es }
changes_none size es run sound none i = record { size = size; entries = unchanged run 2 es sound.ordered none i }

-- the run of an entry is used
pub used_at : (from : ℕ) (es : List UsageEntry) (k : ℕ) (d : UsageEntry) → Ordered from es → k < length es → is_used (get_or es k d).usage ≡ true
used_at from [] k d o lt = absurd (omega arith)
used_at from (e ∷ es) zero d o lt = o.2
used_at from (e ∷ es) (suc k) d o lt = used_at (e.run.start + e.run.count) es k d o.3 (omega arith)

pub used_has : (es : List UsageEntry) (run : Run) (place : ℕ) → Ordered 2 es → HasEntryAt es run place → IsUsedIn es run
used_has es run place o has = subst (λ (u : Usage). is_used u ≡ true) has.usage (used_at 2 es place (record { run = run; usage = UNUSED }) o has.within)

-- a free run meets no entry
pub free_apart : (size : ℕ) (es : List UsageEntry) (run : Run) → Ordered 2 es → IsFree size (IsUsedIn es) run → ApartEach run es
free_apart size es run o free = apart_used run 2 es o free.apart

-- a run that comes into use at its place
pub record Enters (size : ℕ) (es : List UsageEntry) (run : Run) (u : Usage) (new : List UsageEntry) : Type 0 where
  pub is : new ≡ with_usage run u es
  pub sound : IsSound (record { size = size; entries = new })
  pub changes : Changes (record { size = size; entries = es }) (record { size = size; entries = new }) run u

pub enters : (size : ℕ) (es : List UsageEntry) (run : Run) (u : Usage) → IsSound (record { size = size; entries = es }) → is_used u ≡ true → 1 ≤ run.count → IsFree size (IsUsedIn es) run → (place : ℕ) (new : List UsageEntry) → place ≡ place_of run.start es → new ≡ insert es place (record { run = run; usage = u }) → Enters size es run u new
enters size es run u sound used some free place new at is =
    let apart = free_apart size es run sound.ordered free in
    let after : new ≡ with_usage run u es = is ∙ ap (λ p. insert es p (record { run = run; usage = u })) at ∙ entered run u es used apart some in
    let on : IsOnDevice size run = record { above = free.above; some = some; within = free.within } in
    let fits = fits_apart run es apart in
    record {
      is = after;
      sound = subst (λ (es' : List UsageEntry). IsSound (record { size = size; entries = es' })) (sym after) (sound_with size es run u sound on fits);
      changes = subst (λ (es' : List UsageEntry). Changes (record { size = size; entries = es }) (record { size = size; entries = es' }) run u) (sym after) (changes_with size es run u sound some fits);
    }

-- a run on the device that meets no entry is free
pub apart_free : (size : ℕ) (es : List UsageEntry) (run : Run) → IsOnDevice size run → ApartEach run es → IsFree size (IsUsedIn es) run
apart_free size es run on apart = record { above = on.above; within = on.within; apart = λ other used. used_apart run es other apart used }
