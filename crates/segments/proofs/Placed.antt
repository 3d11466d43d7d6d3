-- The entries are in order, so each run has its place among them.
use Rattle.std.proofs.Common.{◌≡◌, ◌⊎◌, ◌↔◌, inl, inr, ⊎_elim, ◌≤◌, ◌<◌, ◌+◌, ltb, ℕ, zero, suc, Bool, true, false, List, [], ◌∷◌, length, get_or, refl, sym, ap, ◌∙◌, subst, arith}
use Rattle.std.proofs.lemmas.Bool.{cond_both, cond-true, cond-false, ltb-true, ltb-false, lt-ltb, le-ltb, false_from_ne_true, cases_Bool, cases_lt, true≢false}
use Rattle.segments.specs.declared.run.Run.{Run}
use Rattle.segments.specs.declared.entries.UsageEntry.{UsageEntry}
use Rattle.segments.specs.Runs.{IsApart}
use Rattle.segments.specs.Usages.{Ordered, EndBy, same_run}
use Rattle.segments.specs.laws.Usages.{same_run_is, same_itself}
use Rattle.segments.specs.inner.Places.{ApartEach, Ascending, place_of}

pub same_run-eq : (a b : Run) → a ≡ b → same_run a b ≡ true
same_run-eq a b is = subst (λ (r : Run). same_run a r ≡ true) is (same_itself a)

pub same_run-false : (a b : Run) → (a ≡ b → ⊥) → same_run a b ≡ false
same_run-false a b other = false_from_ne_true (same_run a b) (λ is. other (same_run_is a b is))

-- runs that start apart differ
pub starts_differ : (a b : Run) → (a.start ≡ b.start → ⊥) → same_run a b ≡ false
starts_differ a b other = same_run-false a b (λ is. other (ap (λ (r : Run). r.start) is))

-- what stands before the place starts below, and what stands there doesn't
pub below_place : (start : ℕ) (es : List UsageEntry) (k : ℕ) (d : UsageEntry) → k < place_of start es → (get_or es k d).run.start < start
below_place start [] k d lt = absurd (omega arith)
below_place start (e ∷ es) zero d lt =
    cond_both (ltb e.run.start start) (suc (place_of start es)) 0 (λ p. 0 < p → e.run.start < start) (λ t _. ltb-true _ _ t) (λ _ lt. absurd (omega arith)) lt
below_place start (e ∷ es) (suc k) d lt =
    cond_both (ltb e.run.start start) (suc (place_of start es)) 0 (λ p. suc k < p → (get_or es k d).run.start < start) (λ _ lt. below_place start es k d (omega arith)) (λ _ lt. absurd (omega arith)) lt

pub at_place : (start : ℕ) (es : List UsageEntry) (d : UsageEntry) → place_of start es < length es → start ≤ (get_or es (place_of start es) d).run.start
at_place start [] d lt = absurd (omega arith)
at_place start (e ∷ es) d lt =
    cond_both (ltb e.run.start start) (suc (place_of start es)) 0 (λ p. p < suc (length es) → start ≤ (get_or (e ∷ es) p d).run.start) (λ _ lt. at_place start es d (omega arith)) (λ f _. ltb-false _ _ f) lt

-- what has those before it start below, and no other, is the place
pub place_is : (start : ℕ) (es : List UsageEntry) (i : ℕ) → i ≤ length es → ((k : ℕ) (d : UsageEntry) → k < i → (get_or es k d).run.start < start) → ((k : ℕ) (d : UsageEntry) → i ≤ k → k < length es → start ≤ (get_or es k d).run.start) → i ≡ place_of start es
place_is start [] i le before behind = omega arith
place_is start (e ∷ es) zero le before behind = sym (cond-false (ltb e.run.start start) (suc (place_of start es)) 0 (le-ltb e.run.start start (behind 0 e (omega arith) (omega arith))))
place_is start (e ∷ es) (suc i) le before behind =
    ap suc (place_is start es i (omega arith) (λ k d lt. before (suc k) d (omega arith)) (λ k d ge lt. behind (suc k) d (omega arith) (omega arith)))
    ∙ sym (cond-true (ltb e.run.start start) (suc (place_of start es)) 0 (lt-ltb e.run.start start (before 0 e (omega arith))))

pub ordered_from : (from low : ℕ) (es : List UsageEntry) → low ≤ from → Ordered from es → Ordered low es
ordered_from from low [] le o = tt
ordered_from from low (e ∷ es) le o = (omega (arith, o.0), o.1, o.2, o.3)

-- entries in order ascend
pub ascending : (from : ℕ) (es : List UsageEntry) → Ordered from es → Ascending from es
ascending from [] o = tt
ascending from (e ∷ es) o = (o.0, o.1, ascending (e.run.start + e.run.count) es o.3)

-- each entry starts at the least start or after it
pub ascending_at : (from : ℕ) (es : List UsageEntry) (k : ℕ) (d : UsageEntry) → Ascending from es → k < length es → from ≤ (get_or es k d).run.start
ascending_at from [] k d o lt = absurd (omega arith)
ascending_at from (e ∷ es) zero d o lt = o.0
ascending_at from (e ∷ es) (suc k) d o lt = let later = ascending_at (e.run.start + e.run.count) es k d o.2 (omega arith) in omega (arith, o.0, later)

pub some_at : (from : ℕ) (es : List UsageEntry) (k : ℕ) (d : UsageEntry) → Ordered from es → k < length es → 1 ≤ (get_or es k d).run.count
some_at from [] k d o lt = absurd (omega arith)
some_at from (e ∷ es) zero d o lt = o.1
some_at from (e ∷ es) (suc k) d o lt = some_at (e.run.start + e.run.count) es k d o.3 (omega arith)

pub ends_at : (size : ℕ) (es : List UsageEntry) (k : ℕ) (d : UsageEntry) → EndBy size es → k < length es → (get_or es k d).run.start + (get_or es k d).run.count ≤ size
ends_at size [] k d ends lt = absurd (omega arith)
ends_at size (e ∷ es) zero d ends lt = ends.0
ends_at size (e ∷ es) (suc k) d ends lt = ends_at size es k d ends.1 (omega arith)

-- a run that ends before the entries meets none
pub apart_before : (run : Run) (from : ℕ) (es : List UsageEntry) → Ordered from es → run.start + run.count ≤ from → ApartEach run es
apart_before run from [] o le = tt
apart_before run from (e ∷ es) o le = (inl (omega (arith, o.0)), apart_before run (e.run.start + e.run.count) es o.3 (omega (arith, o.0)))

pub apart_at : (run : Run) (es : List UsageEntry) (k : ℕ) (d : UsageEntry) → ApartEach run es → k < length es → IsApart run (get_or es k d).run
apart_at run [] k d apart lt = absurd (omega arith)
apart_at run (e ∷ es) zero d apart lt = apart.0
apart_at run (e ∷ es) (suc k) d apart lt = apart_at run es k d apart.1 (omega arith)

-- entries of which one starts below
reaches : (start from : ℕ) (es : List UsageEntry) → Ordered from es → 0 < place_of start es → from < start
reaches start from [] o lt = absurd (omega arith)
reaches start from (e ∷ es) o lt = let first = below_place start (e ∷ es) 0 e lt in omega (arith, o.0, first)

-- a run that begins after the entry before its place, and ends before the one there, meets none
pub gap_apart : (run : Run) (from : ℕ) (es : List UsageEntry) (d : UsageEntry) → Ordered from es → ((k : ℕ) → suc k ≡ place_of run.start es → (get_or es k d).run.start + (get_or es k d).run.count ≤ run.start) → ((k : ℕ) → k ≡ place_of run.start es → k < length es → run.start + run.count ≤ (get_or es k d).run.start) → ApartEach run es
gap_apart run from [] d o before after = tt
gap_apart run from (e ∷ es) d o before after =
    ⊎_elim
    (λ (t : ltb e.run.start run.start ≡ true).
    let place : place_of run.start (e ∷ es) ≡ suc (place_of run.start es) = cond-true (ltb e.run.start run.start) (suc (place_of run.start es)) 0 t in
    let ends : e.run.start + e.run.count ≤ run.start =
    ⊎_elim (λ (none : place_of run.start es ≡ 0). before 0 (ap suc (sym none) ∙ sym place))
    (λ (some : 0 < place_of run.start es). let reach = reaches run.start (e.run.start + e.run.count) es o.3 some in omega (arith, reach))
    (zero_or_more (place_of run.start es))
    in (inr ends, gap_apart run (e.run.start + e.run.count) es d o.3 (λ k is. before (suc k) (ap suc is ∙ sym place)) (λ k is lt. after (suc k) (ap suc is ∙ sym place) (omega arith))))
    (λ (f : ltb e.run.start run.start ≡ false).
    let place : place_of run.start (e ∷ es) ≡ 0 = cond-false (ltb e.run.start run.start) (suc (place_of run.start es)) 0 f in
    let ends : run.start + run.count ≤ e.run.start = after 0 (sym place) (omega arith) in
    (inl ends, apart_before run (e.run.start + e.run.count) es o.3 (omega arith)))
    (cases_Bool (ltb e.run.start run.start))
  where
    zero_or_more : (n : ℕ) → (n ≡ 0) ⊎ (0 < n)
    zero_or_more zero = inl refl
    zero_or_more (suc n) = inr (omega arith)

pub ascending_rises : (from : ℕ) (es : List UsageEntry) → Ascending from es → (i j : ℕ) (d : UsageEntry) → i ≤ j → j < length es → (get_or es i d).run.start ≤ (get_or es j d).run.start
ascending_rises from [] o i j d le lt = absurd (omega arith)
ascending_rises from (e ∷ es) o zero zero d le lt = omega arith
ascending_rises from (e ∷ es) o zero (suc j) d le lt = let later = ascending_at (e.run.start + e.run.count) es j d o.2 (omega arith) in omega (arith, later)
ascending_rises from (e ∷ es) o (suc i) zero d le lt = absurd (omega arith)
ascending_rises from (e ∷ es) o (suc i) (suc j) d le lt = ascending_rises (e.run.start + e.run.count) es o.2 i j d (omega arith) (omega arith)

-- what the test of a sector tells
pub ends_by : (r : Run) (sector : ℕ) (b : Bool) → (b ≡ true) ↔ ((r.start ≤ sector) × (sector < r.start + r.count)) → b ≡ false → r.start ≤ sector → r.start + r.count ≤ sector
ends_by r sector b means outside low = ⊎_elim (λ (lt : sector < r.start + r.count). absurd (true≢false (sym (means.1 (low, lt)) ∙ outside))) (λ (ge : r.start + r.count ≤ sector). ge) (cases_lt sector (r.start + r.count))

-- a run that starts in another, or in which another starts, isn't apart from it
pub meets : (a b : Run) (sector : ℕ) → sector ≡ b.start → a.start ≤ sector → sector < a.start + a.count → 1 ≤ b.count → IsApart b a → ⊥
meets a b sector is low high some (inl before) = omega arith
meets a b sector is low high some (inr after) = omega arith
