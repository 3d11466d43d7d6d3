-- Taking runs one by one, and giving them back.
use Rattle.std.specs.Prelude.{◌≡◌, ◌≢◌, ◌⊎◌, ◌≤◌, ◌||◌, ℕ, Bool, true, false, if◌then◌else◌, List, [], ◌∷◌, ◌++◌, Option, Some, None, Ok, Err, refl}
use Rattle.std.proofs.Common.{inl, inr, ⊎_elim, sym, ap, ◌∙◌, subst, arith}
use Rattle.std.proofs.lemmas.Bool.{or_right}
use Rattle.segments.specs.declared.run.Run.{Run}
use Rattle.segments.specs.declared.entries.Usage.{Usage}
use Rattle.segments.specs.Runs.{IsLowest}
use Rattle.segments.specs.Usages.{is_used, UNUSED, TAKEN, given, same_run, usage_of, IsUsedIn, Changes, Space, SameUsages, GivesAll}
use Rattle.segments.specs.laws.Usages.{same_run_is, same_itself, or_false, among_more, free_unused, same_lowest}
use Rattle.commit.specs.Placing.{is_among, Takes}

pub same_run_not : (a b : Run) → same_run a b ≡ false → a ≢ b
same_run_not a b other is = let same : same_run a b ≡ true = subst (λ (r : Run). same_run a r ≡ true) is (same_itself a) in absurd (cc (same, other))

-- the first usage if the run is one of these, and the other one if not
abbrev pub by_among : Usage → Usage → Bool → Usage
by_among this other among = if among then this else other

-- ---- runs that were taken one by one

abbrev pub Took : ℕ → (Run → Type 0) → List ℕ → List Run → Type 0
Took size used [] [] = Unit {0}
Took size used [] (r ∷ rs) = ⊥
Took size used (n ∷ ns) [] = ⊥
Took size used (n ∷ ns) (r ∷ rs) = IsLowest size used n (Some r) × Took size (λ other. used other ⊎ (other ≡ r)) ns rs

-- the runs in use afterwards
abbrev pub After : (Run → Type 0) → List Run → Run → Type 0
After used [] run = used run
After used (r ∷ rs) run = After (λ other. used other ⊎ (other ≡ r)) rs run

pub took_takes : (size : ℕ) (used : Run → Type 0) (ns : List ℕ) (rs : List Run) → Took size used ns rs → Takes size used ns (Ok rs)
took_takes size used [] [] took = refl
took_takes size used [] (r ∷ rs) took = absurd took
took_takes size used (n ∷ ns) [] took = absurd took
took_takes size used (n ∷ ns) (r ∷ rs) took = inr (r, took.0, (Ok rs, took_takes size (λ other. used other ⊎ (other ≡ r)) ns rs took.1, refl))

pub took_more : (size : ℕ) (used : Run → Type 0) (ns : List ℕ) (rs : List Run) (n : ℕ) (r : Run) → Took size used ns rs → IsLowest size (After used rs) n (Some r) → Took size used (ns ++ n ∷ []) (rs ++ r ∷ [])
took_more size used [] [] n r took lowest = (lowest, tt)
took_more size used [] (x ∷ xs) n r took lowest = absurd took
took_more size used (m ∷ ms) [] n r took lowest = absurd took
took_more size used (m ∷ ms) (x ∷ xs) n r took lowest = (took.0, took_more size (λ other. used other ⊎ (other ≡ x)) ms xs n r took.1 lowest)

pub took_fails : (size : ℕ) (used : Run → Type 0) (ns : List ℕ) (rs : List Run) (n : ℕ) (ms : List ℕ) → Took size used ns rs → IsLowest size (After used rs) n None → Takes size used (ns ++ n ∷ ms) (Err n)
took_fails size used [] [] n ms took none = inl (none, refl)
took_fails size used [] (x ∷ xs) n ms took none = absurd took
took_fails size used (m ∷ ns) [] n ms took none = absurd took
took_fails size used (m ∷ ns) (x ∷ xs) n ms took none = inr (x, took.0, (Err n, took_fails size (λ other. used other ⊎ (other ≡ x)) ns xs n ms took.1 none, refl))

-- a run in use afterwards was in use before, or is one of those
pub after_is : (used : Run → Type 0) (rs : List Run) (run : Run) → After used rs run → used run ⊎ (is_among rs run ≡ true)
after_is used [] run is = inl is
after_is used (r ∷ rs) run is =
    ⊎_elim
    (λ (before : used run ⊎ (run ≡ r)). ⊎_elim (λ (was : used run). inl was) (λ (same : run ≡ r). inr (ap (λ (t : Bool). t || is_among rs run) (subst (λ (x : Run). same_run r x ≡ true) (sym same) (same_itself r)))) before)
    (λ (later : is_among rs run ≡ true). inr (or_right (same_run r run) (is_among rs run) later))
    (after_is (λ other. used other ⊎ (other ≡ r)) rs run is)

pub is_after : (used : Run → Type 0) (rs : List Run) (run : Run) → used run ⊎ (is_among rs run ≡ true) → After used rs run
is_after used [] run (inl was) = was
is_after used [] run (inr among) = absurd (cc among)
is_after used (r ∷ rs) run (inl was) = is_after (λ other. used other ⊎ (other ≡ r)) rs run (inl (inl was))
is_after used (r ∷ rs) run (inr among) =
    by_first (same_run r run) refl among (λ same. is_after (λ other. used other ⊎ (other ≡ r)) rs run (inl (inr (sym (same_run_is r run same))))) (λ later. is_after (λ other. used other ⊎ (other ≡ r)) rs run (inr later))
  where
    by_first : {P : Type 0} (t : Bool) → same_run r run ≡ t → (t || is_among rs run) ≡ true → (same_run r run ≡ true → P) → (is_among rs run ≡ true → P) → P
    by_first true same is here later = here same
    by_first false same is here later = later is

-- the properties after runs were taken: each was unused, and is now taken
pub record TookAll (old new : Space) (counts : List ℕ) (runs : List Run) : Type 0 where
  pub size : new.size ≡ old.size
  pub took : Took old.size (IsUsedIn old.entries) counts runs
  pub usages : (run : Run) → usage_of new.entries run ≡ by_among TAKEN (usage_of old.entries run) (is_among runs run)
  pub fresh : (run : Run) → is_among runs run ≡ true → usage_of old.entries run ≡ UNUSED

pub took_none : (s : Space) → TookAll s s [] []
took_none s = record { size = refl; took = tt; usages = λ run. refl; fresh = λ run is. absurd (cc is) }

used_to : (old new : Space) (counts : List ℕ) (runs : List Run) → TookAll old new counts runs → (run : Run) → IsUsedIn new.entries run → After (IsUsedIn old.entries) runs run
used_to old new counts runs all run used = is_after (IsUsedIn old.entries) runs run (by_among_is (is_among runs run) refl (ap is_used (sym (all.usages run)) ∙ used))
  where
    by_among_is : (t : Bool) → is_among runs run ≡ t → is_used (by_among TAKEN (usage_of old.entries run) (is_among runs run)) ≡ true → IsUsedIn old.entries run ⊎ (is_among runs run ≡ true)
    by_among_is true among is = inr among
    by_among_is false among is = inl (subst (λ (t : Bool). is_used (by_among TAKEN (usage_of old.entries run) t) ≡ true) among is)

to_used : (old new : Space) (counts : List ℕ) (runs : List Run) → TookAll old new counts runs → (run : Run) → After (IsUsedIn old.entries) runs run → IsUsedIn new.entries run
to_used old new counts runs all run after = ap is_used (all.usages run) ∙ by_among_is (is_among runs run) refl (after_is (IsUsedIn old.entries) runs run after)
  where
    by_among_is : (t : Bool) → is_among runs run ≡ t → IsUsedIn old.entries run ⊎ (is_among runs run ≡ true) → is_used (by_among TAKEN (usage_of old.entries run) (is_among runs run)) ≡ true
    by_among_is true among is = ap (λ (t : Bool). is_used (by_among TAKEN (usage_of old.entries run) t)) among
    by_among_is false among (inl used) = ap (λ (t : Bool). is_used (by_among TAKEN (usage_of old.entries run) t)) among ∙ used
    by_among_is false among (inr is) = absurd (cc (among, is))

pub lowest_of : (old new : Space) (counts : List ℕ) (runs : List Run) → TookAll old new counts runs → (count : ℕ) (run : Option Run) → IsLowest new.size (IsUsedIn new.entries) count run
    → IsLowest old.size (After (IsUsedIn old.entries) runs) count run
lowest_of old new counts runs all count run lowest =
    same_lowest old.size (IsUsedIn new.entries) (After (IsUsedIn old.entries) runs) (λ other. (used_to old new counts runs all other, to_used old new counts runs all other)) count run (subst (λ (n : ℕ). IsLowest n (IsUsedIn new.entries) count run) all.size lowest)

-- taking another run
pub took_one_more : (old new next : Space) (counts : List ℕ) (runs : List Run) (count : ℕ) (run : Run) → 1 ≤ count → TookAll old new counts runs → IsLowest new.size (IsUsedIn new.entries) count (Some run) → Changes new next run TAKEN
    → TookAll old next (counts ++ count ∷ []) (runs ++ run ∷ [])
took_one_more old new next counts runs count run some all lowest changes = record {
  size = changes.size ∙ all.size;
  took = took_more old.size (IsUsedIn old.entries) counts runs count run all.took (lowest_of old new counts runs all count (Some run) lowest);
  usages = λ other. usage other (same_run run other) refl;
  fresh = λ other is. was other (is_among runs other) (same_run run other) refl refl (sym (among_more runs run other) ∙ is);
}
  where
    here : usage_of new.entries run ≡ UNUSED
    here = free_unused new.size new.entries run (omega (arith, lowest.0)) lowest.1

    usage : (other : Run) (t : Bool) → same_run run other ≡ t → usage_of next.entries other ≡ by_among TAKEN (usage_of old.entries other) (is_among (runs ++ run ∷ []) other)
    usage other true same =
        let is = same_run_is run other same in
        subst (λ (r : Run). usage_of next.entries r ≡ TAKEN) is changes.this ∙ ap (by_among TAKEN (usage_of old.entries other)) (sym (among_more runs run other ∙ ap (λ (t : Bool). is_among runs other || t) same ∙ or_right (is_among runs other) true refl))
    usage other false same =
        changes.others other (λ is. same_run_not run other same (sym is)) ∙ all.usages other ∙ ap (by_among TAKEN (usage_of old.entries other)) (sym (among_more runs run other ∙ ap (λ (t : Bool). is_among runs other || t) same ∙ or_false (is_among runs other)))

    was : (other : Run) (a t : Bool) → is_among runs other ≡ a → same_run run other ≡ t → (is_among runs other || same_run run other) ≡ true → usage_of old.entries other ≡ UNUSED
    was other true t among same is = all.fresh other among
    was other false true among same is =
        let one = same_run_is run other same in
        sym (subst (λ (r : Run). usage_of new.entries r ≡ by_among TAKEN (usage_of old.entries r) false) one (all.usages run ∙ ap (by_among TAKEN (usage_of old.entries run)) (subst (λ (r : Run). is_among runs r ≡ false) (sym one) among)))
        ∙ subst (λ (r : Run). usage_of new.entries r ≡ UNUSED) one here
    was other false false among same is = absurd (cc (among, same, is))

-- taking runs and giving them back changes nothing
pub all_given_back : (old new next : Space) (counts : List ℕ) (runs : List Run) → TookAll old new counts runs → GivesAll new next runs → SameUsages old.entries next.entries
all_given_back old new next counts runs took gives run = gives.usages run ∙ by_run (is_among runs run) refl
  where
    by_run : (t : Bool) → is_among runs run ≡ t → by_among (given (usage_of new.entries run)) (usage_of new.entries run) (is_among runs run) ≡ usage_of old.entries run
    by_run true among =
        ap (by_among (given (usage_of new.entries run)) (usage_of new.entries run)) among
        ∙ ap given (took.usages run ∙ ap (by_among TAKEN (usage_of old.entries run)) among) ∙ sym (took.fresh run among)
    by_run false among =
        ap (by_among (given (usage_of new.entries run)) (usage_of new.entries run)) among ∙ took.usages run ∙ ap (by_among TAKEN (usage_of old.entries run)) among
