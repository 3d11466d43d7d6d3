-- The runs of a new catalogue can be in use, if each one was in use or was taken, and none is listed more often than there.
use Rattle.std.specs.Prelude.{◌≡◌, ◌≢◌, ◌⊎◌, ◌≤◌, ◌+◌, ◌&&◌, ◌||◌, ℕ, Bool, true, false, nat_le, if◌then◌else◌, List, [], ◌∷◌, ◌++◌, None, refl}
use Rattle.std.specs.List.{AllByRecursion}
use Rattle.std.proofs.Common.{inl, inr, ⊎_elim, sym, ap, ◌∙◌, subst, arith}
use Rattle.std.proofs.lemmas.Bool.{and_parts, and_from, le-leb, leb-true, cases_eq}
use Rattle.segments.specs.declared.run.Run.{Run}
use Rattle.segments.specs.Runs.{IsApart, ApartFrom, AreApart}
use Rattle.segments.specs.Usages.{Space, same_run, IsUsedIn}
use Rattle.segments.specs.laws.Runs.{swapped}
use Rattle.segments.specs.laws.Usages.{same_run_is, same_itself, same_or_not, among_both}
pub use Rattle.segments.specs.laws.Usages.{times_both}
use Rattle.commit.specs.Placing.{is_among, times_among, Uses}
use Rattle.commit.specs.Standing.{is_on_device, all_on_device, is_apart, are_apart, runs_fault}
use Rattle.commit.specs.laws.Apart.{pair_apart, apart_pair, among_first, same_first, fits}
use Rattle.commit.specs.laws.Frame.{fault_none}
use Rattle.commit.specs.laws.Taking.{Took, TookAll}
use Rattle.commit.specs.laws.Placed.{used_apart, took_apart, uses_used}

-- a run in a list is the first one, or among the others
pub among_cases : (x : Run) (xs : List Run) (run : Run) → is_among (x ∷ xs) run ≡ true → (x ≡ run) ⊎ (is_among xs run ≡ true)
among_cases x xs run is = by_first (same_run x run) refl is
  where
    by_first : (t : Bool) → same_run x run ≡ t → (t || is_among xs run) ≡ true → (x ≡ run) ⊎ (is_among xs run ≡ true)
    by_first true same is = inl (same_run_is x run same)
    by_first false same is = inr is

-- ---- the number of times a run is listed

pub times_some : (xs : List Run) (run : Run) → is_among xs run ≡ true → 1 ≤ times_among xs run
times_some [] run is = absurd (cc is)
times_some (x ∷ xs) run is = by_first (same_run x run) is (λ later. times_some xs run later)
  where
    by_first : (t : Bool) → (t || is_among xs run) ≡ true → (is_among xs run ≡ true → 1 ≤ times_among xs run) → 1 ≤ (if t then 1 else 0) + times_among xs run
    by_first true is later = omega arith
    by_first false is later = let more = later is in omega (arith, more)

pub some_times : (xs : List Run) (run : Run) → 1 ≤ times_among xs run → is_among xs run ≡ true
some_times [] run le = absurd (omega arith)
some_times (x ∷ xs) run le = by_first (same_run x run) le (λ more. some_times xs run more)
  where
    by_first : (t : Bool) → 1 ≤ (if t then 1 else 0) + times_among xs run → (1 ≤ times_among xs run → is_among xs run ≡ true) → (t || is_among xs run) ≡ true
    by_first true le later = refl
    by_first false le later = later (omega arith)

-- ---- runs that share no sector

is_apart_at : (a : Run) (xs : List Run) (s : Run) → is_apart a xs ≡ true → is_among xs s ≡ true → IsApart s a
is_apart_at a [] s is among = absurd (cc among)
is_apart_at a (x ∷ xs) s is among =
    let parts = and_parts (nat_le (a.start + a.count) x.start || nat_le (x.start + x.count) a.start) (is_apart a xs) is in
    ⊎_elim (λ (same : x ≡ s). subst (λ (r : Run). IsApart r a) same (pair_apart a x parts.0)) (λ (later : is_among xs s ≡ true). is_apart_at a xs s parts.1 later) (among_cases x xs s among)

is_apart_all : (r : Run) (rs : List Run) → ((s : Run) → is_among rs s ≡ true → IsApart s r) → is_apart r rs ≡ true
is_apart_all r [] all = refl
is_apart_all r (x ∷ xs) all = and_from _ _ (apart_pair r x (all x (same_first x xs))) (is_apart_all r xs (λ s among. all s (among_first x xs s among)))

-- two different ones are apart
apart_at : (rs : List Run) (r s : Run) → are_apart rs ≡ true → is_among rs r ≡ true → is_among rs s ≡ true → r ≢ s → IsApart r s
apart_at [] r s is one two other = absurd (cc one)
apart_at (x ∷ xs) r s is one two other =
    let parts = and_parts (is_apart x xs) (are_apart xs) is in
    ⊎_elim
    (λ (here : x ≡ r).
    ⊎_elim (λ (same : x ≡ s). absurd (other (sym here ∙ same))) (λ (later : is_among xs s ≡ true). subst (λ (y : Run). IsApart y s) here (swapped s x (is_apart_at x xs s parts.0 later))) (among_cases x xs s two))
    (λ (there : is_among xs r ≡ true).
    ⊎_elim (λ (same : x ≡ s). subst (λ (y : Run). IsApart r y) same (is_apart_at x xs r parts.0 there)) (λ (later : is_among xs s ≡ true). apart_at xs r s parts.1 there later other) (among_cases x xs s two))
    (among_cases x xs r one)

not_itself : (r : Run) → 1 ≤ r.count → IsApart r r → ⊥
not_itself r some (inl before) = omega arith
not_itself r some (inr before) = omega arith

-- none of them is listed twice
pub once : (rs : List Run) (r : Run) → are_apart rs ≡ true → 1 ≤ r.count → times_among rs r ≤ 1
once [] r is some = omega arith
once (x ∷ xs) r is some = by_first (same_run x r) refl (once xs r parts.1 some)
  where
    parts : (is_apart x xs ≡ true) × (are_apart xs ≡ true)
    parts = and_parts (is_apart x xs) (are_apart xs) is

    by_first : (t : Bool) → same_run x r ≡ t → times_among xs r ≤ 1 → (if t then 1 else 0) + times_among xs r ≤ 1
    by_first true same most =
        ⊎_elim (λ (none : times_among xs r ≡ 0). omega arith)
        (λ (more : times_among xs r ≢ 0). absurd (not_itself r some (subst (λ (y : Run). IsApart r y) (same_run_is x r same) (is_apart_at x xs r parts.0 (some_times xs r (omega arith))))))
        (cases_eq (times_among xs r) 0)
    by_first false same most = omega arith

-- ---- the runs of a list, each listed no more often than in another list

module _ (size : ℕ) (big : List Run) where
  left_on : (left : List Run) → ((run : Run) → is_among big run ≡ true → is_on_device size run ≡ true) → ((run : Run) → times_among left run ≤ times_among big run) → all_on_device size left ≡ true
  left_on [] on few = refl
  left_on (r ∷ rs) on few =
      let one : 1 ≤ times_among (r ∷ rs) r = times_some (r ∷ rs) r (same_first r rs) in
      let le = few r in
      and_from _ _ (on r (some_times big r (omega arith))) (left_on rs on (λ run. let more = few run in omega arith))

  left_apart : (left : List Run) → are_apart big ≡ true → ((run : Run) → is_among big run ≡ true → 1 ≤ run.count) → ((run : Run) → times_among left run ≤ times_among big run) → are_apart left ≡ true
  left_apart [] is some few = refl
  left_apart (r ∷ rs) is some few = and_from _ _ (is_apart_all r rs apart) (left_apart rs is some (λ run. let more = few run in omega arith))
    where
      in_big : (run : Run) → is_among (r ∷ rs) run ≡ true → is_among big run ≡ true
      in_big run among = let one : 1 ≤ times_among (r ∷ rs) run = times_some (r ∷ rs) run among in let le = few run in some_times big run (omega arith)

      twice : is_among rs r ≡ true → ⊥
      twice among =
          let here : times_among (r ∷ rs) r ≡ 1 + times_among rs r = ap (λ (t : Bool). (if t then 1 else 0) + times_among rs r) (same_itself r) in
          let more = times_some rs r among in
          let le = few r in
          let most = once big r is (some r (in_big r (same_first r rs))) in
          omega arith

      apart : (s : Run) → is_among rs s ≡ true → IsApart s r
      apart s among =
          ⊎_elim (λ (same : s ≡ r). absurd (twice (subst (λ (y : Run). is_among rs y ≡ true) same among))) (λ (other : s ≢ r). apart_at big s r is (in_big s (among_first r rs s among)) (in_big r (same_first r rs)) other)
          (same_or_not s r)

-- ---- runs in use, and runs that were taken

from_at : (run : Run) (rs : List Run) (s : Run) → ApartFrom run rs → is_among rs s ≡ true → IsApart run s
from_at run [] s apart among = absurd (cc among)
from_at run (x ∷ xs) s apart among = ⊎_elim (λ (same : x ≡ s). subst (λ (y : Run). IsApart run y) same apart.0) (λ (later : is_among xs s ≡ true). from_at run xs s apart.1 later) (among_cases x xs s among)

apart_is : (rs : List Run) → AreApart rs → are_apart rs ≡ true
apart_is [] apart = refl
apart_is (r ∷ rs) apart = and_from _ _ (is_apart_all r rs (λ s among. swapped r s (from_at r rs s apart.0 among))) (apart_is rs apart.1)

apart_join : (xs ys : List Run) → are_apart xs ≡ true → are_apart ys ≡ true → ((x y : Run) → is_among xs x ≡ true → is_among ys y ≡ true → IsApart x y) → are_apart (xs ++ ys) ≡ true
apart_join [] ys one two cross = two
apart_join (x ∷ xs) ys one two cross =
    let parts = and_parts (is_apart x xs) (are_apart xs) one in
    and_from _ _ (is_apart_all x (xs ++ ys) (λ s among. by_list s (is_among xs s) refl (sym (among_both xs ys s) ∙ among) parts.0)) (apart_join xs ys parts.1 two (λ a b in_xs in_ys. cross a b (among_first x xs a in_xs) in_ys))
  where
    by_list : (s : Run) (t : Bool) → is_among xs s ≡ t → (is_among xs s || is_among ys s) ≡ true → is_apart x xs ≡ true → IsApart s x
    by_list s true here among is = is_apart_at x xs s is here
    by_list s false here among is = swapped x s (cross x s (same_first x xs) (sym (ap (λ (t : Bool). t || is_among ys s) here) ∙ among))

took_on : (size : ℕ) (used : Run → Type 0) (ns : List ℕ) (rs : List Run) → Took size used ns rs → AllByRecursion (λ (n : ℕ). 1 ≤ n) ns → (run : Run) → is_among rs run ≡ true → is_on_device size run ≡ true
took_on size used ns [] took some run among = absurd (cc among)
took_on size used [] (r ∷ rs) took some run among = absurd took
took_on size used (n ∷ ns) (r ∷ rs) took some run among =
    let one : 1 ≤ r.count = omega (arith, took.0.0, some.0) in
    ⊎_elim (λ (same : r ≡ run). subst (λ (y : Run). is_on_device size y ≡ true) same (and_from _ _ (le-leb _ _ took.0.1.above) (and_from _ _ (le-leb _ _ one) (le-leb _ _ took.0.1.within))))
    (λ (later : is_among rs run ≡ true). took_on size (λ other. used other ⊎ (other ≡ r)) ns rs took.1 some.1 run later)
    (among_cases r rs run among)

pub all_on : (size : ℕ) (rs : List Run) (run : Run) → all_on_device size rs ≡ true → is_among rs run ≡ true → is_on_device size run ≡ true
all_on size [] run is among = absurd (cc among)
all_on size (r ∷ rs) run is among =
    let parts = and_parts (is_on_device size r) (all_on_device size rs) is in
    ⊎_elim (λ (same : r ≡ run). subst (λ (y : Run). is_on_device size y ≡ true) same parts.0) (λ (later : is_among rs run ≡ true). all_on size rs run parts.1 later) (among_cases r rs run among)

some_on : (size : ℕ) (run : Run) → is_on_device size run ≡ true → 1 ≤ run.count
some_on size run is =
    let low = and_parts (nat_le 2 run.start) (nat_le 1 run.count && nat_le (run.start + run.count) size) is in
    leb-true _ _ (and_parts (nat_le 1 run.count) (nat_le (run.start + run.count) size) low.1).0

-- a catalogue can be in use if its runs were in use or were taken, and none is listed more often
pub fit_again : (old new : Space) (counts : List ℕ) (taken : List Run) (was : Run) (runs : List Run) (text : Run) (left pinned : List Run) → is_on_device old.size was ≡ true → runs_fault old.size was runs ≡ None
    → Uses old.entries (was ∷ runs) pinned → TookAll old new counts taken → AllByRecursion (λ (n : ℕ). 1 ≤ n) counts → ((run : Run) → times_among (text ∷ left) run ≤ times_among ((was ∷ runs) ++ taken) run)
    → runs_fault old.size text left ≡ None
fit_again old new counts taken was runs text left pinned on fit uses all some few =
    let size = old.size in
    let big : List Run = (was ∷ runs) ++ taken in
    let parts = fault_none size was runs fit in
    let in_use = uses_used old.entries (was ∷ runs) pinned uses in
    let apart : are_apart big ≡ true =
    apart_join (was ∷ runs) taken parts.1 (apart_is taken (took_apart size (IsUsedIn old.entries) counts taken all.took))
    (λ x y in_runs in_taken. from_at x taken y (used_apart size (IsUsedIn old.entries) counts taken all.took x (in_use x in_runs)) in_taken) in
    let each_on : (run : Run) → is_among big run ≡ true → is_on_device size run ≡ true = λ run among. by_list run (is_among (was ∷ runs) run) refl (sym (among_both (was ∷ runs) taken run) ∙ among) (and_from _ _ on parts.0) in
    let whole = left_on size big (text ∷ left) each_on few in
    fits size text left (and_parts (is_on_device size text) (all_on_device size left) whole).1 (left_apart size big (text ∷ left) apart (λ run among. some_on size run (each_on run among)) few)
  where
    by_list : (run : Run) (t : Bool) → is_among (was ∷ runs) run ≡ t → (is_among (was ∷ runs) run || is_among taken run) ≡ true → all_on_device old.size (was ∷ runs) ≡ true → is_on_device old.size run ≡ true
    by_list run true here among is = all_on old.size (was ∷ runs) run is here
    by_list run false here among is = took_on old.size (IsUsedIn old.entries) counts taken all.took some run (sym (ap (λ (t : Bool). t || is_among taken run) here) ∙ among)
