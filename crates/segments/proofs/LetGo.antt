-- What changes as runs are let go: first in their entries, and then those that are not used go.
use Rattle.std.proofs.Common.{◌≡◌, ⊎_elim, ◌≤◌, ◌<◌, ◌+◌, ◌-◌, ◌++◌, ◌||◌, ℕ, zero, suc, Bool, true, false, cond, List, [], ◌∷◌, filter, length, get_or, set, length-set, refl, sym, ap, ◌∙◌, subst, arith}
use Rattle.std.proofs.lemmas.Bool.{cond_both, cond-true, cond-false, cases_Bool, true≢false}
use Rattle.segments.specs.declared.run.Run.{Run}
use Rattle.segments.specs.declared.entries.Usage.{Usage}
use Rattle.segments.specs.declared.entries.UsageEntry.{UsageEntry}
use Rattle.segments.specs.declared.entries.Holder.{Holder}
use Rattle.segments.specs.declared.entries.Holder.TheVariants.{Catalogue, Snapshot}
use Rattle.segments.specs.Usages.{UNUSED, is_used, given, unpinned, unpinned_times, usage_of, is_among, times_among, same_run, Ordered, EndBy}
use Rattle.segments.specs.laws.Usages.{same_run_is, among_more, times_both, unused}
use Rattle.segments.specs.inner.Places.{Ascending, HasEntryAt, LetGoAmong, without, without_each}
use Rattle.segments.proofs.Placed.{starts_differ, ordered_from, ascending_at}
use Rattle.segments.proofs.Used.{unused_before}

-- an entry in which the run has another usage
abbrev pub with_entry : List UsageEntry → ℕ → Run → Usage → List UsageEntry
with_entry es k run u = set es k (record { run = run; usage = u })

ascending_set : (from : ℕ) (es : List UsageEntry) (k : ℕ) (run : Run) (u : Usage) (d : UsageEntry) → Ascending from es → k < length es → (get_or es k d).run ≡ run → Ascending from (with_entry es k run u)
ascending_set from [] k run u d a lt is = absurd (omega arith)
ascending_set from (e ∷ es) zero run u d a lt is = subst (λ (r : Run). (from ≤ r.start) × (1 ≤ r.count) × Ascending (r.start + r.count) es) is a
ascending_set from (e ∷ es) (suc k) run u d a lt is = (a.0, a.1, ascending_set (e.run.start + e.run.count) es k run u d a.2 (omega arith) is)

ends_set : (size : ℕ) (es : List UsageEntry) (k : ℕ) (run : Run) (u : Usage) (d : UsageEntry) → EndBy size es → k < length es → (get_or es k d).run ≡ run → EndBy size (with_entry es k run u)
ends_set size [] k run u d ends lt is = absurd (omega arith)
ends_set size (e ∷ es) zero run u d ends lt is = (subst (λ (r : Run). r.start + r.count ≤ size) is ends.0, ends.1)
ends_set size (e ∷ es) (suc k) run u d ends lt is = (ends.0, ends_set size es k run u d ends.1 (omega arith) is)

-- the run has this usage then, and each other one what it had
usage_set : (from : ℕ) (es : List UsageEntry) (k : ℕ) (run : Run) (u : Usage) (d : UsageEntry) (other : Run) → Ascending from es → k < length es → (get_or es k d).run ≡ run → usage_of (with_entry es k run u) other ≡ cond (same_run run other) u (usage_of es other)
usage_set from [] k run u d other a lt is = absurd (omega arith)
usage_set from (e ∷ es) zero run u d other a lt is =
    ⊎_elim
    (λ (t : same_run run other ≡ true). cond-true (same_run run other) u (usage_of es other) t ∙ sym (cond-true (same_run run other) u (usage_of (e ∷ es) other) t))
    (λ (f : same_run run other ≡ false).
    let differs : same_run e.run other ≡ false = ap (λ (r : Run). same_run r other) is ∙ f in
    cond-false (same_run run other) u (usage_of es other) f
    ∙ sym (cond-false (same_run run other) u (usage_of (e ∷ es) other) f ∙ cond-false (same_run e.run other) e.usage (usage_of es other) differs))
    (cases_Bool (same_run run other))
usage_set from (e ∷ es) (suc k) run u d other a lt is =
    let later = usage_set (e.run.start + e.run.count) es k run u d other a.2 (omega arith) is in
    let low = ascending_at (e.run.start + e.run.count) es k d a.2 (omega arith) in
    let starts : (get_or es k d).run.start ≡ run.start = ap (λ (r : Run). r.start) is in
    ⊎_elim
    (λ (t : same_run e.run other ≡ true).
    let same : e.run.start ≡ other.start = ap (λ (r : Run). r.start) (same_run_is e.run other t) in
    let differs : same_run run other ≡ false = starts_differ run other (λ no. omega (arith, a.1)) in
    cond-true (same_run e.run other) e.usage (usage_of (with_entry es k run u) other) t
    ∙ sym (cond-false (same_run run other) u (usage_of (e ∷ es) other) differs ∙ cond-true (same_run e.run other) e.usage (usage_of es other) t))
    (λ (f : same_run e.run other ≡ false).
    cond-false (same_run e.run other) e.usage (usage_of (with_entry es k run u) other) f
    ∙ later ∙ ap (cond (same_run run other) u) (sym (cond-false (same_run e.run other) e.usage (usage_of es other) f)))
    (cases_Bool (same_run e.run other))

-- an unused run stays so
without_unused : (holder : Holder) → without holder UNUSED ≡ UNUSED
without_unused Catalogue = refl
without_unused Snapshot = refl

-- none is let go
pub without_none : (holder : Holder) (run : Run) (usage : Usage) → usage ≡ without_each holder [] run usage
without_none Catalogue run usage = refl
without_none Snapshot run usage = let same : usage.pins ≡ usage.pins - 0 = omega arith in λ i. record { taken = usage.taken; pins = same i }

-- one more run is let go
given_more : (among same : Bool) (was : Usage) → cond (among || same) (given was) was ≡ cond same (given (cond among (given was) was)) (cond among (given was) was)
given_more true true was = refl
given_more true false was = refl
given_more false true was = refl
given_more false false was = refl

unpinned_more : (times : ℕ) (same : Bool) (was : Usage) → unpinned_times (times + (cond same 1 0 + 0)) was ≡ cond same (unpinned (unpinned_times times was)) (unpinned_times times was)
unpinned_more times true was = let less : was.pins - (times + (1 + 0)) ≡ was.pins - times - 1 = omega arith in λ i. record { taken = was.taken; pins = less i }
unpinned_more times false was = let less : was.pins - (times + (0 + 0)) ≡ was.pins - times = omega arith in λ i. record { taken = was.taken; pins = less i }

without_more : (holder : Holder) (runs : List Run) (run other : Run) (was : Usage)
    → without_each holder (runs ++ run ∷ []) other was ≡ cond (same_run run other) (without holder (without_each holder runs other was)) (without_each holder runs other was)
without_more Catalogue runs run other was = ap (λ (t : Bool). cond t (given was) was) (among_more runs run other) ∙ given_more (is_among runs other) (same_run run other) was
without_more Snapshot runs run other was =
    ap (λ (n : ℕ). unpinned_times n was) (times_both runs (run ∷ []) other) ∙ unpinned_more (times_among runs other) (same_run run other) was

after_last : (holder : Holder) (so_far mid next : Usage) (same : Bool) → mid ≡ so_far → (same ≡ true → next ≡ without holder mid) → (same ≡ false → next ≡ mid) → next ≡ cond same (without holder so_far) so_far
after_last holder so_far mid next true before goes keeps = goes refl ∙ ap (without holder) before
after_last holder so_far mid next false before goes keeps = keeps refl ∙ before

usages_last : (holder : Holder) (old new next : List UsageEntry) (runs : List Run) (run : Run) → ((other : Run) → usage_of new other ≡ without_each holder runs other (usage_of old other))
    → ((other : Run) → same_run run other ≡ true → usage_of next other ≡ without holder (usage_of new other)) → ((other : Run) → same_run run other ≡ false → usage_of next other ≡ usage_of new other)
    → (other : Run) → usage_of next other ≡ without_each holder (runs ++ run ∷ []) other (usage_of old other)
usages_last holder old new next runs run before goes keeps other =
    after_last holder (without_each holder runs other (usage_of old other)) (usage_of new other) (usage_of next other) (same_run run other) (before other) (goes other) (keeps other)
    ∙ sym (without_more holder runs run other (usage_of old other))

-- at first
pub none_let_go : (holder : Holder) (es : List UsageEntry) → Ascending 2 es → LetGoAmong holder es es []
none_let_go holder es ascends = record { len = refl; ascending = ascends; within = λ size ends. ends; usages = λ run. without_none holder run (usage_of es run) }

-- one that has an entry
pub let_go_at : (holder : Holder) (old new next : List UsageEntry) (runs : List Run) (run : Run) (k : ℕ) (u : Usage) → LetGoAmong holder old new runs → HasEntryAt new run k → u ≡ without holder (usage_of new run)
    → next ≡ with_entry new k run u → LetGoAmong holder old next (runs ++ run ∷ [])
let_go_at holder old new next runs run k u all has goes is = subst (λ (es : List UsageEntry). LetGoAmong holder old es (runs ++ run ∷ [])) (sym is) (record {
  len = length-set new k (record { run = run; usage = u }) ∙ all.len;
  ascending = ascending_set 2 new k run u own all.ascending has.within has.is;
  within = λ size ends. ends_set size new k run u own (all.within size ends) has.within has.is;
  usages =
      usages_last holder old new (with_entry new k run u) runs run all.usages
      (λ other same.
      usage_set 2 new k run u own other all.ascending has.within has.is ∙ cond-true (same_run run other) u (usage_of new other) same
      ∙ goes ∙ ap (λ (r : Run). without holder (usage_of new r)) (same_run_is run other same))
      (λ other differs. usage_set 2 new k run u own other all.ascending has.within has.is ∙ cond-false (same_run run other) u (usage_of new other) differs);
})
  where
    own : UsageEntry
    own = record { run = run; usage = UNUSED }

-- one that has none
pub let_go_unused : (holder : Holder) (old new : List UsageEntry) (runs : List Run) (run : Run) → LetGoAmong holder old new runs → usage_of new run ≡ UNUSED → LetGoAmong holder old new (runs ++ run ∷ [])
let_go_unused holder old new runs run all none = record {
  len = all.len;
  ascending = all.ascending;
  within = all.within;
  usages =
      usages_last holder old new new runs run all.usages
      (λ other same.
      let here : usage_of new other ≡ UNUSED = ap (usage_of new) (sym (same_run_is run other same)) ∙ none in
      here ∙ sym (without_unused holder) ∙ ap (without holder) (sym here))
      (λ other differs. refl);
}

-- ---- only the used ones stay

abbrev pub used_entries : List UsageEntry → List UsageEntry
used_entries es = filter (λ (e : UsageEntry). is_used e.usage) es

ordered_kept : (from : ℕ) (es : List UsageEntry) → Ascending from es → Ordered from (used_entries es)
ordered_kept from [] a = tt
ordered_kept from (e ∷ es) a =
    let later = ordered_kept (e.run.start + e.run.count) es a.2 in
    cond_both (is_used e.usage) (e ∷ used_entries es) (used_entries es) (Ordered from) (λ used. (a.0, a.1, used, later))
    (λ _. ordered_from (e.run.start + e.run.count) from (used_entries es) (omega (arith, a.0)) later)

ends_kept : (size : ℕ) (es : List UsageEntry) → EndBy size es → EndBy size (used_entries es)
ends_kept size [] ends = tt
ends_kept size (e ∷ es) ends =
    let later = ends_kept size es ends.1 in cond_both (is_used e.usage) (e ∷ used_entries es) (used_entries es) (EndBy size) (λ _. (ends.0, later)) (λ _. later)

usage_kept : (from : ℕ) (es : List UsageEntry) (run : Run) → Ascending from es → usage_of (used_entries es) run ≡ usage_of es run
usage_kept from [] run a = refl
usage_kept from (e ∷ es) run a =
    let later = usage_kept (e.run.start + e.run.count) es run a.2 in
    cond_both (is_used e.usage) (e ∷ used_entries es) (used_entries es) (λ (kept : List UsageEntry). usage_of kept run ≡ usage_of (e ∷ es) run)
    (λ _. ap (cond (same_run e.run run) e.usage) later)
    (λ f. later ∙ ⊎_elim
    (λ (t : same_run e.run run ≡ true).
    let starts : e.run.start ≡ run.start = ap (λ (r : Run). r.start) (same_run_is e.run run t) in
    unused_before (e.run.start + e.run.count) es run a.2 (omega (arith, a.1))
    ∙ sym (cond-true (same_run e.run run) e.usage (usage_of es run) t ∙ unused e.usage (λ used. true≢false (sym used ∙ f))))
    (λ (f : same_run e.run run ≡ false). sym (cond-false (same_run e.run run) e.usage (usage_of es run) f))
    (cases_Bool (same_run e.run run)))

-- runs were let go, and only the used entries stay
pub kept_ordered : (holder : Holder) (old mid new : List UsageEntry) (runs : List Run) → LetGoAmong holder old mid runs → new ≡ used_entries mid → Ordered 2 new
kept_ordered holder old mid new runs all is = subst (Ordered 2) (sym is) (ordered_kept 2 mid all.ascending)

pub kept_ends : (holder : Holder) (old mid new : List UsageEntry) (runs : List Run) → LetGoAmong holder old mid runs → new ≡ used_entries mid → (size : ℕ) → EndBy size old → EndBy size new
kept_ends holder old mid new runs all is size ends = subst (EndBy size) (sym is) (ends_kept size mid (all.within size ends))

pub kept_usages : (holder : Holder) (old mid new : List UsageEntry) (runs : List Run) → LetGoAmong holder old mid runs → new ≡ used_entries mid → (run : Run) → usage_of new run ≡ without_each holder runs run (usage_of old run)
kept_usages holder old mid new runs all is run = ap (λ (es : List UsageEntry). usage_of es run) is ∙ usage_kept 2 mid run all.ascending ∙ all.usages run
