-- The runs that open exports keep beside those in use.
use Rattle.std.specs.Prelude.{nat_le, not, sum_by}
use Rattle.std.proofs.Common.{◌≡◌, ◌≤◌, ◌+◌, ◌++◌, ◌&&◌, ◌||◌, ◌==◌, ◌∙◌, ℕ, Bool, true, false, List, [], ◌∷◌, length, None, refl, sym, ap, subst, append-nil, append_assoc, arith}
use Rattle.std.proofs.lemmas.Bool.{and_parts, and_from, eqb-true, leb-true}
use Rattle.std.proofs.lemmas.List.Sums.{sum_by-cons, sum_by-append, sum_by_push}
use Rattle.segments.specs.declared.run.Run.{Run}
use Rattle.segments.specs.declared.entries.Usage.{Usage}
use Rattle.segments.specs.Runs.{IsOnDevice, IsFree}
use Rattle.segments.specs.Usages.{Space, TAKEN, usage_of, same_run, IsUsedIn, Changes}
use Rattle.segments.specs.laws.Usages.{same_run_is, among_both, among_more}
use Rattle.commit.specs.Placing.{is_among, Uses}
use Rattle.commit.specs.Standing.{is_size, is_on_device, all_on_device, are_apart, runs_fault}
use Rattle.commit.specs.laws.Apart.{HasEntered, entered_more, is_on_device_from}
use Rattle.commit.specs.laws.Frame.{fault_none}
use Rattle.store.specs.Summary.{CountsKept}
use Rattle.store_changes.specs.laws.Shrinking.{on_both}
use Rattle.store.proofs.Fitted.{apart_fit, used_fit}

-- the first of the runs that are kept: those of them that are not in use have come into use in a map, after those that are
pub record KeptSoFar (size : ℕ) (used done : List Run) (map : Space) (count : ℕ) : Type 0 where
  pub runs : List Run
  pub each : (run : Run) → is_among runs run ≡ (is_among done run && not (is_among used run))
  pub entered : HasEntered size map (used ++ runs)
  pub on : all_on_device size runs ≡ true
  pub counts : count ≡ sum_by (λ (r : Run). r.count) runs

pub kept_none : (size : ℕ) (used : List Run) (map : Space) → map.size ≡ size → Uses map.entries used [] → are_apart used ≡ true → KeptSoFar size used [] map 0
kept_none size used map sized uses apart =
    let whole : used ++ [] ≡ used = append-nil used in
    record {
      runs = [];
      each = λ run. refl;
      entered = record {
        size_is = sized;
        uses = subst (λ (rs : List Run). Uses map.entries rs []) (sym whole) uses;
        apart = subst (λ (rs : List Run). are_apart rs ≡ true) (sym whole) apart;
      };
      on = refl;
      counts = refl;
    }

-- ---- one more

-- the map has taken those that are in use, and those that were counted
taken_is : (size : ℕ) (used done : List Run) (map : Space) (count : ℕ) (so : KeptSoFar size used done map count) (run : Run) → (usage_of map.entries run).taken ≡ (is_among used run || is_among so.runs run)
taken_is size used done map count so run = ap (λ (u : Usage). u.taken) (so.entered.uses run) ∙ among_both used so.runs run

still : (kept used same counted : Bool) → counted ≡ (kept && not used) → (same ≡ true → (used || counted) ≡ true) → counted ≡ ((kept || same) && not used)
still true true same counted is taken = is
still true false same counted is taken = is
still false true true counted is taken = is
still false true false counted is taken = is
still false false true counted is taken = taken refl
still false false false counted is taken = is

added : (kept used same : Bool) → (same ≡ true → used ≡ false) → ((kept && not used) || same) ≡ ((kept || same) && not used)
added true true true free = absurd (cc (free refl))
added true true false free = refl
added true false same free = refl
added false true true free = absurd (cc (free refl))
added false true false free = refl
added false false true free = refl
added false false false free = refl

first_false : (a b : Bool) → (a || b) ≡ false → a ≡ false
first_false true b is = absurd (cc is)
first_false false b is = refl

-- it was counted before, or it is in use
pub kept_same : (size : ℕ) (used done next : List Run) (run : Run) (map : Space) (count : ℕ) → next ≡ done ++ run ∷ [] → (usage_of map.entries run).taken ≡ true → KeptSoFar size used done map count → KeptSoFar size used next map count
kept_same size used done next run map count is taken so = record {
  runs = so.runs;
  each = λ other.
      still (is_among done other) (is_among used other) (same_run run other) (is_among so.runs other) (so.each other)
      (λ same. subst (λ (r : Run). (is_among used r || is_among so.runs r) ≡ true) (same_run_is run other same) (sym (taken_is size used done map count so run) ∙ taken))
      ∙ ap (λ (t : Bool). t && not (is_among used other)) (sym (ap (λ (rs : List Run). is_among rs other) is ∙ among_more done run other));
  entered = so.entered;
  on = so.on;
  counts = so.counts;
}

-- it is counted
pub kept_more : (size : ℕ) (used done next : List Run) (run : Run) (map more : Space) (count : ℕ) → next ≡ done ++ run ∷ [] → (usage_of map.entries run).taken ≡ false → IsOnDevice map.size run → IsFree map.size (IsUsedIn map.entries) run → Changes map more run TAKEN
    → KeptSoFar size used done map count → KeptSoFar size used next more (count + run.count)
kept_more size used done next run map more count is untaken on free changes so =
    let here : is_on_device size run ≡ true = is_on_device_from size run (subst (λ (n : ℕ). IsOnDevice n run) so.entered.size_is on) in
    record {
      runs = so.runs ++ run ∷ [];
      each = λ other.
          among_more so.runs run other
          ∙ ap (λ (t : Bool). t || same_run run other) (so.each other)
          ∙ added (is_among done other) (is_among used other) (same_run run other)
          (λ same. subst (λ (r : Run). is_among used r ≡ false) (same_run_is run other same) (first_false _ _ (sym (taken_is size used done map count so run) ∙ untaken)))
          ∙ ap (λ (t : Bool). t && not (is_among used other)) (sym (ap (λ (rs : List Run). is_among rs other) is ∙ among_more done run other));
      entered = subst (λ (rs : List Run). HasEntered size more rs) (append_assoc used so.runs (run ∷ [])) (entered_more size map more (used ++ so.runs) run so.entered free changes);
      on = on_both size so.runs (run ∷ []) so.on (and_from (is_on_device size run) true here refl);
      counts = ap (λ (n : ℕ). n + run.count) so.counts ∙ sym (sum_by_push (λ (r : Run). r.count) so.runs run);
    }

-- the same of a map and a number that are equal to these
pub kept_at : (size : ℕ) (used done : List Run) (map same : Space) (count number : ℕ) → same ≡ map → number ≡ count → KeptSoFar size used done map count → KeptSoFar size used done same number
kept_at size used done map same count number maps counts so =
    subst (λ (m : Space). KeptSoFar size used done m number) (sym maps) (subst (λ (n : ℕ). KeptSoFar size used done map n) (sym counts) so)

-- ---- all of them

-- together with those in use they fit on the device
pub kept_fit : (size : ℕ) (text : Run) (used done : List Run) (map : Space) (count : ℕ) → is_size size ≡ true → is_on_device size text ≡ true → runs_fault size text used ≡ None → KeptSoFar size (text ∷ used) done map count
    → (2 + text.count + sum_by (λ (r : Run). r.count) used + count ≤ size) × (size ≤ 4194304)
kept_fit size text used done map count sized placed fit so =
    let limits = and_parts (nat_le 16 size) (nat_le size 4194304) sized in
    let least = leb-true 16 size limits.0 in
    let own = and_from (is_on_device size text) (all_on_device size used) placed (fault_none size text used fit).0 in
    let all = apart_fit size ((text ∷ used) ++ so.runs) (omega (arith, least)) (on_both size (text ∷ used) so.runs own so.on) so.entered.apart in
    let parts = sum_by-append (λ (r : Run). r.count) (text ∷ used) so.runs in
    (omega (arith, all, parts, sum_by-cons (λ (r : Run). r.count) text used, so.counts), leb-true size 4194304 limits.1)

-- where none is kept
pub counts_none : (size : ℕ) (text : Run) (used kept : List Run) → runs_fault size text used ≡ None → (length kept == 0) ≡ true → CountsKept (text ∷ used) kept 0
counts_none size text used (run ∷ kept) fit none = let same = eqb-true (length (run ∷ kept)) 0 none in absurd (omega (arith, same))
counts_none size text used [] fit none = record {
  runs = [];
  each = λ run. refl;
  apart = subst (λ (rs : List Run). are_apart rs ≡ true) (sym (append-nil (text ∷ used))) (fault_none size text used fit).1;
  counts = refl;
}

pub none_fit : (size : ℕ) (text : Run) (used : List Run) → is_size size ≡ true → is_on_device size text ≡ true → runs_fault size text used ≡ None → 2 + text.count + sum_by (λ (r : Run). r.count) used + 0 ≤ size
none_fit size text used sized placed fit = let fits = used_fit size text used used sized placed fit refl in omega (arith, fits.0)
