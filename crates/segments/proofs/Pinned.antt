-- What changes as runs are pinned one after another.
use Rattle.std.proofs.Common.{◌≡◌, ◌≢◌, ⊎_elim, ◌≤◌, ◌<◌, ◌+◌, ◌++◌, ◌||◌, ℕ, zero, suc, Bool, true, false, cond, List, [], ◌∷◌, length, get_or, take, refl, sym, ap, ◌∙◌, arith}
use Rattle.std.proofs.lemmas.Bool.{cond-true, cond-false}
use Rattle.std.proofs.lemmas.Bool.Decides.{nat_tests}
use Rattle.segments.specs.declared.run.Run.{Run}
use Rattle.segments.specs.declared.entries.Usage.{Usage}
use Rattle.segments.specs.Usages.{Space, UNUSED, is_used, usage_of, is_among, times_among, same_run, pinned, pinned_times, IsUsedIn, Changes, PinsAll}
use Rattle.segments.specs.laws.Usages.{same_itself, same_or_not, times_both}
use Rattle.segments.proofs.Placed.{same_run-false}

-- at first
pub none_pinned : (space : Space) → PinsAll space space []
none_pinned space = record {
  size = refl;
  usages = λ run. let u = usage_of space.entries run in let same : u.pins ≡ u.pins + 0 = omega arith in λ i. record { taken = u.taken; pins = same i };
}

-- the run at a place is one of these, and it is listed once more than among those before it
pub among_at : (runs : List Run) (k : ℕ) (d : Run) → k < length runs → is_among runs (get_or runs k d) ≡ true
among_at [] k d lt = absurd (omega arith)
among_at (r ∷ rs) zero d lt = ap (λ (t : Bool). t || is_among rs r) (same_itself r)
among_at (r ∷ rs) (suc k) d lt = by_first (same_run r (get_or rs k d)) (among_at rs k d (omega arith))
  where
    by_first : (t : Bool) → is_among rs (get_or rs k d) ≡ true → (t || is_among rs (get_or rs k d)) ≡ true
    by_first true is = refl
    by_first false is = is

pub times_at : (runs : List Run) (k : ℕ) (d : Run) → k < length runs → times_among (take k runs) (get_or runs k d) + 1 ≤ times_among runs (get_or runs k d)
times_at [] k d lt = absurd (omega arith)
times_at (r ∷ rs) zero d lt = let one = ap {B = ℕ} (λ (t : Bool). cond t 1 0) (same_itself r) in omega (arith, one)
times_at (r ∷ rs) (suc k) d lt = omega (arith, times_at rs k d (omega arith))

-- a used run stays used while runs are pinned
pinned_used : (times : ℕ) (usage : Usage) → is_used usage ≡ true → is_used (pinned_times times usage) ≡ true
pinned_used times usage used = by_parts usage.taken usage.pins used
  where
    by_parts : (taken : Bool) (pins : ℕ) → is_used (record { taken = taken; pins = pins }) ≡ true → is_used (record { taken = taken; pins = pins + times }) ≡ true
    by_parts true pins used = refl
    by_parts false zero used = absurd cc
    by_parts false (suc pins) used = grind (arith, nat_tests)

pub still_used : (old mid : Space) (runs : List Run) (run : Run) → PinsAll old mid runs → IsUsedIn old.entries run → usage_of mid.entries run ≢ UNUSED
still_used old mid runs run all used none =
    let is : is_used UNUSED ≡ true = ap is_used (sym none ∙ all.usages run) ∙ pinned_used (times_among runs run) (usage_of old.entries run) used in absurd cc

-- one more
pinned_more : (times : ℕ) (same : Bool) (was : Usage) → cond same (pinned (pinned_times times was)) (pinned_times times was) ≡ pinned_times (times + (cond same 1 0 + 0)) was
pinned_more times true was = let more : was.pins + times + 1 ≡ was.pins + (times + (1 + 0)) = omega arith in λ i. record { taken = was.taken; pins = more i }
pinned_more times false was = let more : was.pins + times ≡ was.pins + (times + (0 + 0)) = omega arith in λ i. record { taken = was.taken; pins = more i }

pub pinned_last : (old mid new : Space) (runs : List Run) (run : Run) (usage : Usage) → PinsAll old mid runs → Changes mid new run usage → usage ≡ pinned (usage_of mid.entries run) → PinsAll old new (runs ++ run ∷ [])
pinned_last old mid new runs run usage all changes is = record {
  size = changes.size ∙ all.size;
  usages = λ other.
      let was = usage_of old.entries other in
      let before : usage_of mid.entries other ≡ pinned_times (times_among runs other) was = all.usages other in
      let after : usage_of new.entries other ≡ cond (same_run run other) (pinned (pinned_times (times_among runs other) was)) (pinned_times (times_among runs other) was) =
      ⊎_elim
      (λ (same : other ≡ run).
      let hits : same_run run other ≡ true = ap (same_run run) same ∙ same_itself run in
      ap (usage_of new.entries) same ∙ changes.this ∙ is ∙ ap pinned (ap (usage_of mid.entries) (sym same) ∙ before)
      ∙ sym (cond-true (same_run run other) (pinned (pinned_times (times_among runs other) was)) (pinned_times (times_among runs other) was) hits))
      (λ (apart : other ≢ run).
      let misses : same_run run other ≡ false = same_run-false run other (λ same. apart (sym same)) in
      changes.others other apart ∙ before ∙ sym (cond-false (same_run run other) (pinned (pinned_times (times_among runs other) was)) (pinned_times (times_among runs other) was) misses))
      (same_or_not other run) in
      after ∙ pinned_more (times_among runs other) (same_run run other) was ∙ ap (λ (n : ℕ). pinned_times n was) (sym (times_both runs (run ∷ []) other));
}
