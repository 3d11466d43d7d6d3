-- Laws of runs that are taken, and of the lowest free run.
use Rattle.std.proofs.Common.{◌≡◌, ◌≢◌, ◌⊎◌, ◌↔◌, inl, inr, ⊎_elim, ◌≤◌, ◌+◌, ◌++◌, ◌==◌, ◌||◌, ℕ, zero, suc, Bool, true, false, List, [], ◌∷◌, Option, Some, None, refl, sym, ap, ◌∙◌, arith}
use Rattle.std.proofs.lemmas.Bool.{cases_eq, and_parts, and_from, eqb-true, eq-eqb}
use Rattle.std.proofs.lemmas.Bool.Decides.{nat_tests}
use Rattle.segments.specs.Runs.{IsFree, IsLowest}
use Rattle.segments.specs.Usages.{Space, UNUSED, TAKEN, is_used, usage_of, same_run, is_among, times_among, IsUsedIn, Changes}
use Rattle.segments.specs.declared.run.Run.{Run}
use Rattle.segments.specs.declared.entries.Usage.{Usage}
use Rattle.segments.specs.declared.entries.UsageEntry.{UsageEntry}

-- the test for equal runs
pub same_run_is : (a b : Run) → same_run a b ≡ true → a ≡ b
same_run_is a b is =
    let parts = and_parts (a.start == b.start) (a.count == b.count) is in
    let starts = eqb-true a.start b.start parts.0 in
    let counts = eqb-true a.count b.count parts.1 in
    λ i. record { start = starts i; count = counts i }

pub same_itself : (a : Run) → same_run a a ≡ true
same_itself a = and_from (a.start == a.start) (a.count == a.count) (eq-eqb a.start a.start refl) (eq-eqb a.count a.count refl)

pub same_or_not : (a b : Run) → (a ≡ b) ⊎ (a ≢ b)
same_or_not a b =
    ⊎_elim (λ (start : a.start ≡ b.start).
    ⊎_elim (λ (count : a.count ≡ b.count). inl (λ i. record { start = start i; count = count i }))
    (λ (other : a.count ≢ b.count). inr (λ (e : a ≡ b). other (ap (λ (r : Run). r.count) e))) (cases_eq a.count b.count))
    (λ (other : a.start ≢ b.start). inr (λ (e : a ≡ b). other (ap (λ (r : Run). r.start) e))) (cases_eq a.start b.start)

pub or_false : (t : Bool) → (t || false) ≡ t
or_false true = refl
or_false false = refl

-- a run is in one of two lists
pub among_both : (xs ys : List Run) (run : Run) → is_among (xs ++ ys) run ≡ (is_among xs run || is_among ys run)
among_both [] ys run = refl
among_both (x ∷ xs) ys run = ap (λ (t : Bool). same_run x run || t) (among_both xs ys run) ∙ by_first (same_run x run)
  where
    by_first : (t : Bool) → (t || (is_among xs run || is_among ys run)) ≡ ((t || is_among xs run) || is_among ys run)
    by_first true = refl
    by_first false = refl

-- a run is in a list, or is the one that was added
pub among_more : (runs : List Run) (r run : Run) → is_among (runs ++ r ∷ []) run ≡ (is_among runs run || same_run r run)
among_more runs r run = among_both runs (r ∷ []) run ∙ ap (λ (t : Bool). is_among runs run || t) (or_false (same_run r run))

-- how many times a run is in two lists
pub times_both : (xs ys : List Run) (run : Run) → times_among (xs ++ ys) run ≡ times_among xs run + times_among ys run
times_both [] ys run = omega arith
times_both (x ∷ xs) ys run = let more = times_both xs ys run in omega (arith, more)

-- a usage that is not used is `UNUSED`
pub unused : (usage : Usage) → (is_used usage ≡ true → ⊥) → usage ≡ UNUSED
unused usage free = by_parts usage.taken usage.pins free
  where
    by_parts : (taken : Bool) (pins : ℕ) → (is_used (record { taken = taken; pins = pins }) ≡ true → ⊥) → record { taken = taken; pins = pins } ≡ UNUSED
    by_parts true pins free = absurd (free refl)
    by_parts false zero free = refl
    by_parts false (suc pins) free = absurd (free (grind (arith, nat_tests)))

-- a free run with at least one sector is unused
pub free_unused : (size : ℕ) (es : List UsageEntry) (run : Run) → 1 ≤ run.count → IsFree size (IsUsedIn es) run → usage_of es run ≡ UNUSED
free_unused size es run some free =
    unused (usage_of es run) (λ (is : is_used (usage_of es run) ≡ true).
    ⊎_elim {C = ⊥} (λ (a : run.start + run.count ≤ run.start). omega arith) (λ (b : run.start + run.count ≤ run.start). omega arith) (free.apart run is))

-- a used run stays used while another one is taken
pub still_used : (old new : Space) (taken run : Run) → Changes old new taken TAKEN → IsUsedIn old.entries run → IsUsedIn new.entries run
still_used old new taken run takes used =
    ⊎_elim (λ (same : run ≡ taken). ap is_used (ap (usage_of new.entries) same ∙ takes.this)) (λ (apart : run ≢ taken). ap is_used (takes.others run apart) ∙ used) (same_or_not run taken)

-- what is free stays free if fewer runs are used
pub same_free : (size : ℕ) (used fewer : Run → Type 0) → ((run : Run) → fewer run → used run) → (run : Run) → IsFree size used run → IsFree size fewer run
same_free size used fewer less run free = record { above = free.above; within = free.within; apart = λ other is. free.apart other (less other is) }

-- the lowest free run depends only on the used runs
pub same_lowest : (size : ℕ) (used alike : Run → Type 0) → ((run : Run) → used run ↔ alike run) → (count : ℕ) (found : Option Run) → IsLowest size used count found → IsLowest size alike count found
same_lowest size used alike same count None none = λ run is free. none run is (same_free size alike used (λ other u. (same other).0 u) run free)
same_lowest size used alike same count (Some run) lowest =
    (lowest.0, same_free size used alike (λ other u. (same other).1 u) run lowest.1, (λ other is free. lowest.2 other is (same_free size alike used (λ third u. (same third).0 u) other free)))

-- and there is only one
pub one_lowest : (size : ℕ) (used : Run → Type 0) (count : ℕ) (found other : Option Run) → IsLowest size used count found → IsLowest size used count other → found ≡ other
one_lowest size used count None None a b = refl
one_lowest size used count None (Some run) none lowest = absurd (none run lowest.0 lowest.1)
one_lowest size used count (Some run) None lowest none = absurd (none run lowest.0 lowest.1)
one_lowest size used count (Some a) (Some b) low also =
    let up : a.start ≤ b.start = low.2 b also.0 also.1 in
    let down : b.start ≤ a.start = also.2 a low.0 low.1 in
    let start : a.start ≡ b.start = omega (arith, up, down) in
    let counts : a.count ≡ b.count = low.0 ∙ sym also.0 in
    λ i. Some (record { start = start i; count = counts i })
