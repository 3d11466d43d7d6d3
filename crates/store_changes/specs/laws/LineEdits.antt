-- What holds of each table after an edit of a single command.
use Rattle.std.specs.Prelude.{◌≡◌, ◌++◌, ◌≢◌, ℕ, Bool, true, false, if◌then◌else◌, List, [], ◌∷◌, length, Option, Some, None, refl}
use Rattle.std.specs.List.{AllByRecursion}
use Rattle.std.specs.Str.{bytes_eq}
use Rattle.std.proofs.Common.{sym, ap, ◌∙◌, subst, arith}
use Rattle.std.proofs.lemmas.Bool.{cond_both}
use Rattle.segments.specs.declared.extent.Extent.{Extent}
use Rattle.catalogue.specs.declared.limits.TheConstants.{MAX_SEGMENTS}
use Rattle.catalogue.specs.declared.entry.Segment.{Segment}
use Rattle.catalogue.specs.Entries.{PlainEntry, PlainCatalogue, segment_count, IsCatalogue}
use Rattle.catalogue.specs.Edits.{entry_of, with_entry, without, named, with_segments, with_more}
use Rattle.catalogue.specs.laws.Order.{by_seat, by_found}
use Rattle.catalogue.specs.laws.Sums.{refilled}
use Rattle.catalogue.specs.laws.Changed.{renamed_is, more_is}
use Rattle.store_runs.specs.Changes.{PlainEdit, put, extend, move, remove, new_entry, page_instead, edited, IsEdit}

module _ (Q : PlainEntry → Type 0) where
  with_each : (c : PlainCatalogue) (e : PlainEntry) → AllByRecursion Q c → Q e → AllByRecursion Q (with_entry c e)
  with_each [] e all here = (here, tt)
  with_each (x ∷ xs) e all here = by_seat x xs e (λ (d : PlainCatalogue). AllByRecursion Q d) (λ is. (all.0, with_each xs e all.1 here)) (λ is. (here, all.1)) (λ is. (here, all))

  without_each : (c : PlainCatalogue) (name : List ℕ) → AllByRecursion Q c → AllByRecursion Q (without c name)
  without_each [] name all = tt
  without_each (x ∷ xs) name all =
      cond_both (bytes_eq x.name name) xs (x ∷ without xs name) (λ (d : PlainCatalogue). AllByRecursion Q d) (λ _. all.1) (λ _. (all.0, without_each xs name all.1))

  pub found_has : (c : PlainCatalogue) (name : List ℕ) (e : PlainEntry) → AllByRecursion Q c → entry_of c name ≡ Some e → Q e
  found_has [] name e all h = absurd (cc h)
  found_has (x ∷ xs) name e all h = by_found x xs name e h (λ t stands. subst Q stands all.0) (λ f there. found_has xs name e all.1 there)

  refilled_each : (c : PlainCatalogue) (name : List ℕ) (e : PlainEntry) (segments : List Segment) → entry_of c name ≡ Some e → Q (refilled e segments) → AllByRecursion Q c → AllByRecursion Q (with_segments c name segments)
  refilled_each [] name e segments h here all = tt
  refilled_each (x ∷ xs) name e segments h here all =
      cond_both (bytes_eq x.name name) (refilled x segments ∷ xs) (x ∷ with_segments xs name segments) (λ (d : PlainCatalogue). AllByRecursion Q d)
      (λ is. (by_found x xs name e h (λ t stands. subst (λ (y : PlainEntry). Q (refilled y segments)) (sym stands) here) (λ f there. absurd (cc (is, f))), all.1))
      (λ is. (all.0, by_found x xs name e h (λ t stands. absurd (cc (is, t))) (λ f there. refilled_each xs name e segments there here all.1)))

  -- what has to hold of the table that an edit of a single command makes or changes
  abbrev pub OfEdited : PlainEdit → List Segment → Type 0
  OfEdited (put name schema) segments = (page : Option Extent) → Q (new_entry name schema segments page)
  OfEdited (extend name) segments = (e : PlainEntry) → bytes_eq e.name name ≡ true → Q e → Q (refilled e (e.segments ++ segments))
  OfEdited (move from to) segments = (e : PlainEntry) → Q e → Q (named to e)
  OfEdited (remove name) segments = Unit {0}
  OfEdited _ segments = ⊥

  pub name_found : (c : PlainCatalogue) (name : List ℕ) (e : PlainEntry) → entry_of c name ≡ Some e → bytes_eq e.name name ≡ true
  name_found [] name e h = absurd (cc h)
  name_found (x ∷ xs) name e h = by_found x xs name e h (λ t stands. ap (λ (y : PlainEntry). bytes_eq y.name name) (sym stands) ∙ t) (λ f there. name_found xs name e there)

  pub each_edited : (c : PlainCatalogue) (edit : PlainEdit) (streams : List (List ℕ)) (segments : List Segment) → IsEdit c edit streams → OfEdited edit segments → AllByRecursion Q c → AllByRecursion Q (edited c edit segments)
  each_edited c (put name schema) streams segments can of all =
      with_each c (new_entry name schema segments (page_instead (entry_of c name) schema segments)) all (of (page_instead (entry_of c name) schema segments))
  each_edited c (extend name) streams [] can of all = all
  each_edited c (extend name) streams (s ∷ ss) can of all =
      let e : PlainEntry = can.0 in
      subst (λ (d : PlainCatalogue). AllByRecursion Q d) (sym (more_is c name e s ss can.1))
      (refilled_each c name e (e.segments ++ s ∷ ss) can.1 (of e (name_found c name e can.1) (found_has c name e all can.1)) all)
  each_edited c (move from to) streams segments can of all =
      let e : PlainEntry = can.2.0 in
      subst (λ (d : PlainCatalogue). AllByRecursion Q d) (sym (renamed_is c from to e can.2.1)) (with_each (without c from) (named to e) (without_each c from all) (of e (found_has c from e all can.2.1)))
  each_edited c (remove name) streams segments can of all = without_each c name all
  each_edited c _ streams segments can of all = absurd of
