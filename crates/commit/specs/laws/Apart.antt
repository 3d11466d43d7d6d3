-- Runs that are entered one by one into a free map share no sector.
use Rattle.std.specs.Prelude.{◌≡◌, ◌↔◌, ◌<◌, ◌+◌, ◌&&◌, ◌||◌, ℕ, Bool, true, false, nat_le, if◌then◌else◌, List, [], ◌∷◌, ◌++◌, zero, suc, length, get_or, Some, None, IsTrue, refl}
use Rattle.std.proofs.Common.{inl, inr, sym, ap, ◌∙◌, subst, arith}
use Rattle.std.proofs.lemmas.Bool.{and_from, and_parts, or_right, false_from_ne_true, true≢false, leb-true, le-leb}
use Rattle.segments.specs.declared.run.Run.{Run}
use Rattle.segments.specs.Runs.{IsApart, IsOnDevice, IsFree}
use Rattle.segments.specs.Usages.{is_used, TAKEN, same_run, usage_of, IsUsedIn, Changes, Space}
use Rattle.commit.specs.declared.cause.Cause.TheVariants.{RunRange, RunOverlap}
use Rattle.commit.specs.Placing.{is_among, Uses, usage_by}
use Rattle.commit.specs.Standing.{is_on_device, all_on_device, is_apart, are_apart, runs_fault}
use Rattle.segments.specs.laws.Usages.{same_run_is, same_itself, or_false, among_more}
use Rattle.commit.specs.laws.Taking.{same_run_not}

-- one pair of runs
pub pair_apart : (a b : Run) → (nat_le (a.start + a.count) b.start || nat_le (b.start + b.count) a.start) ≡ true → IsApart b a
pair_apart a b is = by_first (nat_le (a.start + a.count) b.start) (nat_le (b.start + b.count) a.start) refl refl is
  where
    by_first : (x y : Bool) → nat_le (a.start + a.count) b.start ≡ x → nat_le (b.start + b.count) a.start ≡ y → (x || y) ≡ true → IsApart b a
    by_first true y p q is = inr (leb-true _ _ p)
    by_first false true p q is = inl (leb-true _ _ q)
    by_first false false p q is = absurd (cc is)

pub apart_pair : (a b : Run) → IsApart b a → (nat_le (a.start + a.count) b.start || nat_le (b.start + b.count) a.start) ≡ true
apart_pair a b (inr before) = ap (λ (t : Bool). t || nat_le (b.start + b.count) a.start) (le-leb _ _ before)
apart_pair a b (inl after) = ap (λ (t : Bool). nat_le (a.start + a.count) b.start || t) (le-leb _ _ after) ∙ or_right (nat_le (a.start + a.count) b.start) true refl

-- the first run is apart from each later one
apart_from_later : (a r : Run) (ys zs : List Run) → is_apart a (ys ++ r ∷ zs) ≡ true → IsApart r a
apart_from_later a r [] zs is = pair_apart a r (and_parts (nat_le (a.start + a.count) r.start || nat_le (r.start + r.count) a.start) (is_apart a zs) is).0
apart_from_later a r (y ∷ ys) zs is = apart_from_later a r ys zs (and_parts (nat_le (a.start + a.count) y.start || nat_le (y.start + y.count) a.start) (is_apart a (ys ++ r ∷ zs)) is).1

-- if no two runs share a sector, each is apart from those before it
pub apart_from_earlier : (ys : List Run) (r : Run) (zs : List Run) → are_apart (ys ++ r ∷ zs) ≡ true → (other : Run) → is_among ys other ≡ true → IsApart r other
apart_from_earlier [] r zs is other among = absurd (cc among)
apart_from_earlier (y ∷ ys) r zs is other among =
    let parts = and_parts (is_apart y (ys ++ r ∷ zs)) (are_apart (ys ++ r ∷ zs)) is in
    by_first (same_run y other) refl among (λ same. subst (λ (x : Run). IsApart r x) (same_run_is y other same) (apart_from_later y r ys zs parts.0)) (λ later. apart_from_earlier ys r zs parts.1 other later)
  where
    by_first : {P : Type 0} (t : Bool) → same_run y other ≡ t → (t || is_among ys other) ≡ true → (same_run y other ≡ true → P) → (is_among ys other ≡ true → P) → P
    by_first true same is here later = here same
    by_first false same is here later = later is

is_apart_more : (a r : Run) (ys : List Run) → is_apart a ys ≡ true → IsApart r a → is_apart a (ys ++ r ∷ []) ≡ true
is_apart_more a r [] is apart = ap (λ (t : Bool). t && true) (apart_pair a r apart)
is_apart_more a r (y ∷ ys) is apart =
    let parts = and_parts (nat_le (a.start + a.count) y.start || nat_le (y.start + y.count) a.start) (is_apart a ys) is in
    and_from _ _ parts.0 (is_apart_more a r ys parts.1 apart)

pub among_first : (y : Run) (ys : List Run) (other : Run) → is_among ys other ≡ true → is_among (y ∷ ys) other ≡ true
among_first y ys other is = or_right (same_run y other) (is_among ys other) is

pub same_first : (y : Run) (ys : List Run) → is_among (y ∷ ys) y ≡ true
same_first y ys = ap (λ (t : Bool). t || is_among ys y) (same_itself y)

-- another run that is apart from each of them
pub are_apart_more : (ys : List Run) (r : Run) → are_apart ys ≡ true → ((other : Run) → is_among ys other ≡ true → IsApart r other) → are_apart (ys ++ r ∷ []) ≡ true
are_apart_more [] r is apart = refl
are_apart_more (y ∷ ys) r is apart =
    let parts = and_parts (is_apart y ys) (are_apart ys) is in
    and_from _ _ (is_apart_more y r ys parts.0 (apart y (same_first y ys))) (are_apart_more ys r parts.1 (λ other among. apart other (among_first y ys other among)))

-- exactly these runs are in use, and no two share a sector
pub record HasEntered (size : ℕ) (map : Space) (runs : List Run) : Type 0 where
  pub size_is : map.size ≡ size
  pub uses : Uses map.entries runs []
  pub apart : are_apart runs ≡ true

used_among : (size : ℕ) (map : Space) (runs : List Run) (run : Run) → HasEntered size map runs → IsUsedIn map.entries run → is_among runs run ≡ true
used_among size map runs run has used = by_among (is_among runs run) refl (ap is_used (sym (has.uses run)) ∙ used)
  where
    by_among : (t : Bool) → is_among runs run ≡ t → is_used (usage_by runs [] run) ≡ true → is_among runs run ≡ true
    by_among true among is = among
    by_among false among is = absurd (cc (subst (λ (t : Bool). is_used (record { taken = t; pins = 0 }) ≡ true) among is))

among_used : (size : ℕ) (map : Space) (runs : List Run) (run : Run) → HasEntered size map runs → is_among runs run ≡ true → IsUsedIn map.entries run
among_used size map runs run has among = ap is_used (has.uses run) ∙ ap (λ (t : Bool). is_used (record { taken = t; pins = 0 })) among

-- entering another run
pub entered_more : (size : ℕ) (map next : Space) (runs : List Run) (run : Run) → HasEntered size map runs → IsFree map.size (IsUsedIn map.entries) run → Changes map next run TAKEN → HasEntered size next (runs ++ run ∷ [])
entered_more size map next runs run has free changes = record {
  size_is = changes.size ∙ has.size_is;
  uses = λ other. usage other (same_run run other) refl;
  apart = are_apart_more runs run has.apart (λ other among. free.apart other (among_used size map runs other has among));
}
  where
    usage : (other : Run) (t : Bool) → same_run run other ≡ t → usage_of next.entries other ≡ usage_by (runs ++ run ∷ []) [] other
    usage other true same =
        subst (λ (r : Run). usage_of next.entries r ≡ TAKEN) (same_run_is run other same) changes.this
        ∙ ap (λ (t : Bool). record { taken = t; pins = 0 }) (sym (among_more runs run other ∙ ap (λ (t : Bool). is_among runs other || t) same ∙ or_right (is_among runs other) true refl))
    usage other false same =
        changes.others other (λ is. same_run_not run other same (sym is)) ∙ has.uses other
        ∙ ap (λ (t : Bool). record { taken = t; pins = 0 }) (sym (among_more runs run other ∙ ap (λ (t : Bool). is_among runs other || t) same ∙ or_false (is_among runs other)))

-- if a run meets one of those before it, two runs share a sector
pub overlap_told : (size : ℕ) (map : Space) (runs : List Run) (run : Run) (rest : List Run) → HasEntered size map runs → IsOnDevice map.size run → (IsFree map.size (IsUsedIn map.entries) run → ⊥) → are_apart (runs ++ run ∷ rest) ≡ false
overlap_told size map runs run rest has on not =
    false_from_ne_true (are_apart (runs ++ run ∷ rest))
    (λ is. not (record { above = on.above; within = on.within; apart = λ other used. apart_from_earlier runs run rest is other (used_among size map runs other has used) }))

-- ---- the runs of a catalogue lie on the device and apart

pub on_device_is : (size : ℕ) (r : Run) → is_on_device size r ≡ true → IsOnDevice size r
on_device_is size r is =
    let low = and_parts (nat_le 2 r.start) (nat_le 1 r.count && nat_le (r.start + r.count) size) is in
    let rest = and_parts (nat_le 1 r.count) (nat_le (r.start + r.count) size) low.1 in
    record { above = leb-true _ _ low.0; some = leb-true _ _ rest.0; within = leb-true _ _ rest.1 }

pub is_on_device_from : (size : ℕ) (r : Run) → IsOnDevice size r → is_on_device size r ≡ true
is_on_device_from size r on = and_from _ _ (le-leb _ _ on.above) (and_from _ _ (le-leb _ _ on.some) (le-leb _ _ on.within))

-- a test whether a run lies on the device
pub on_device_test : (size : ℕ) (r : Run) (t : Bool) → IsTrue t ↔ IsOnDevice size r → t ≡ is_on_device size r
on_device_test size r true test = sym (is_on_device_from size r (test.0 refl))
on_device_test size r false test = sym (false_from_ne_true (is_on_device size r) (λ is. true≢false (sym (test.1 (on_device_is size r is)))))

pub all_at : (size : ℕ) (rs : List Run) (i : ℕ) (d : Run) → all_on_device size rs ≡ true → i < length rs → is_on_device size (get_or rs i d) ≡ true
all_at size [] i d is lt = absurd (omega arith)
all_at size (r ∷ rs) zero d is lt = (and_parts (is_on_device size r) (all_on_device size rs) is).0
all_at size (r ∷ rs) (suc i) d is lt = all_at size rs i d (and_parts (is_on_device size r) (all_on_device size rs) is).1 (omega arith)

pub entered_none : (size : ℕ) (map : Space) → map ≡ record { size = size; entries = [] } → HasEntered size map []
entered_none size map is = record { size_is = ap (λ (s : Space). s.size) is; uses = λ run. ap (λ (s : Space). usage_of s.entries run) is; apart = refl }

pub fits : (size : ℕ) (text : Run) (runs : List Run) → all_on_device size runs ≡ true → are_apart (text ∷ runs) ≡ true → runs_fault size text runs ≡ None
unfolding runs_fault
fits size text runs on apart = λ i. if on i then (if apart i then None else Some RunOverlap) else Some RunRange

pub overlaps : (size : ℕ) (text : Run) (runs : List Run) → all_on_device size runs ≡ true → are_apart (text ∷ runs) ≡ false → runs_fault size text runs ≡ Some RunOverlap
unfolding runs_fault
overlaps size text runs on apart = λ i. if on i then (if apart i then None else Some RunOverlap) else Some RunRange

pub outside : (size : ℕ) (text : Run) (runs : List Run) → all_on_device size runs ≡ false → runs_fault size text runs ≡ Some RunRange
unfolding runs_fault
outside size text runs off = λ i. if off i then (if are_apart (text ∷ runs) then None else Some RunOverlap) else Some RunRange
