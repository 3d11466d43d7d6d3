-- Which runs are used, by the entries.
use Rattle.std.proofs.Common.{◌≡◌, ⊎_elim, ◌≤◌, ◌<◌, ◌+◌, ltb, ℕ, zero, suc, true, false, List, [], ◌∷◌, length, get_or, refl, sym, ap, ◌∙◌, subst, arith}
use Rattle.std.proofs.lemmas.Bool.{cond_both, cond-true, cond-false, ltb-true, ltb-false, cases_Bool, true≢false}
use Rattle.segments.specs.declared.run.Run.{Run}
use Rattle.segments.specs.declared.entries.Usage.{Usage}
use Rattle.segments.specs.declared.entries.UsageEntry.{UsageEntry}
use Rattle.segments.specs.Runs.{IsApart}
use Rattle.segments.specs.Usages.{UNUSED, is_used, usage_of, same_run, IsUsedIn, Ordered, EndBy}
use Rattle.segments.specs.inner.Places.{place_of, ApartEach, Ascending}
use Rattle.segments.proofs.Placed.{same_run-false, same_run-eq, starts_differ, ascending_at}
use Rattle.segments.specs.laws.Usages.{same_run_is}

-- a used run has an entry, so it stands where entries stand
pub used_within : (from : ℕ) (es : List UsageEntry) (run : Run) → Ordered from es → IsUsedIn es run → (from ≤ run.start) × (1 ≤ run.count)
used_within from [] run o used = absurd (cc)
used_within from (e ∷ es) run o used =
    cond_both (same_run e.run run) e.usage (usage_of es run) (λ (u : Usage). is_used u ≡ true → (from ≤ run.start) × (1 ≤ run.count))
    (λ same _. subst (λ (r : Run). (from ≤ r.start) × (1 ≤ r.count)) (same_run_is e.run run same) (o.0, o.1))
    (λ _ used. let later = used_within (e.run.start + e.run.count) es run o.3 used in (omega (arith, o.0, later.0), later.1))
    used

pub used_ends : (size : ℕ) (es : List UsageEntry) (run : Run) → EndBy size es → IsUsedIn es run → run.start + run.count ≤ size
used_ends size [] run ends used = absurd (cc)
used_ends size (e ∷ es) run ends used =
    cond_both (same_run e.run run) e.usage (usage_of es run) (λ (u : Usage). is_used u ≡ true → run.start + run.count ≤ size)
    (λ same _. subst (λ (r : Run). r.start + r.count ≤ size) (same_run_is e.run run same) ends.0)
    (λ _ used. used_ends size es run ends.1 used)
    used

-- a run that meets no entry meets no used run
pub used_apart : (run : Run) (es : List UsageEntry) (other : Run) → ApartEach run es → IsUsedIn es other → IsApart run other
used_apart run [] other apart used = absurd (cc)
used_apart run (e ∷ es) other apart used =
    cond_both (same_run e.run other) e.usage (usage_of es other) (λ (u : Usage). is_used u ≡ true → IsApart run other)
    (λ same _. subst (λ (r : Run). IsApart run r) (same_run_is e.run other same) apart.0)
    (λ _ used. used_apart run es other apart.1 used)
    used

-- and the other way: each entry's run is used
pub apart_used : (run : Run) (from : ℕ) (es : List UsageEntry) → Ordered from es → ((other : Run) → IsUsedIn es other → IsApart run other) → ApartEach run es
apart_used run from [] o apart = tt
apart_used run from (e ∷ es) o apart = (
  apart e.run (cond_both (same_run e.run e.run) e.usage (usage_of es e.run) (λ (u : Usage). is_used u ≡ true) (λ _. o.2) (λ f. absurd (true≢false (sym (same_run-eq e.run e.run refl) ∙ f)))),
  apart_used run (e.run.start + e.run.count) es o.3 (λ other used. apart other (cond_both (same_run e.run other) e.usage (usage_of es other) (λ (u : Usage). is_used u ≡ true) (λ _. o.2) (λ _. used))),
)

-- a run that starts before the entries is unused
pub unused_before : (from : ℕ) (es : List UsageEntry) (run : Run) → Ascending from es → run.start < from → usage_of es run ≡ UNUSED
unused_before from [] run o lt = refl
unused_before from (e ∷ es) run o lt =
    cond-false (same_run e.run run) e.usage (usage_of es run) (starts_differ e.run run (λ is. omega (arith, o.0)))
    ∙ unused_before (e.run.start + e.run.count) es run o.2 (omega (arith, o.0))

-- a run that has no entry at its place has none
pub unused_without : (from : ℕ) (es : List UsageEntry) (run : Run) (d : UsageEntry) → Ascending from es → ((k : ℕ) → k ≡ place_of run.start es → k < length es → (get_or es k d).run ≡ run → ⊥) → usage_of es run ≡ UNUSED
unused_without from [] run d o none = refl
unused_without from (e ∷ es) run d o none =
    ⊎_elim
    (λ (t : ltb e.run.start run.start ≡ true).
    let place : place_of run.start (e ∷ es) ≡ suc (place_of run.start es) = cond-true (ltb e.run.start run.start) (suc (place_of run.start es)) 0 t in
    let lt : e.run.start < run.start = ltb-true _ _ t in
    cond-false (same_run e.run run) e.usage (usage_of es run) (starts_differ e.run run (λ is. omega arith))
    ∙ unused_without (e.run.start + e.run.count) es run d o.2 (λ k is lt. none (suc k) (ap suc is ∙ sym place) (omega arith)))
    (λ (f : ltb e.run.start run.start ≡ false).
    let place : place_of run.start (e ∷ es) ≡ 0 = cond-false (ltb e.run.start run.start) (suc (place_of run.start es)) 0 f in
    let ge : run.start ≤ e.run.start = ltb-false _ _ f in
    cond-false (same_run e.run run) e.usage (usage_of es run) (same_run-false e.run run (none 0 (sym place) (omega arith)))
    ∙ unused_before (e.run.start + e.run.count) es run o.2 (omega (arith, o.1)))
    (cases_Bool (ltb e.run.start run.start))

-- an entry tells its run's usage
pub usage_at : (from : ℕ) (es : List UsageEntry) (run : Run) (k : ℕ) (d : UsageEntry) → Ascending from es → k < length es → (get_or es k d).run ≡ run → (get_or es k d).usage ≡ usage_of es run
usage_at from [] run k d o lt is = absurd (omega arith)
usage_at from (e ∷ es) run zero d o lt is = sym (cond-true (same_run e.run run) e.usage (usage_of es run) (same_run-eq e.run run is))
usage_at from (e ∷ es) run (suc k) d o lt is =
    let later = ascending_at (e.run.start + e.run.count) es k d o.2 (omega arith) in
    let starts : (get_or es k d).run.start ≡ run.start = ap (λ (r : Run). r.start) is in
    usage_at (e.run.start + e.run.count) es run k d o.2 (omega arith) is
    ∙ sym (cond-false (same_run e.run run) e.usage (usage_of es run) (starts_differ e.run run (λ same. omega (arith, o.1))))
