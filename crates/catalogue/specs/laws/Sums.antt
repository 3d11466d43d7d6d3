-- The effect of a change on a sum over the entries, such as their number, their segments or their sizes.
use Rattle.std.proofs.Common.{◌≡◌, ◌≤◌, ◌+◌, ℕ, true, List, [], ◌∷◌, length, Some, None, Less, Greater, refl, sym, ap, ◌∙◌, subst, arith}
use Rattle.std.specs.List.{sum_by}
use Rattle.std.specs.Str.{bytes_eq}
use Rattle.std.specs.Ordering.{match_ordering}
use Rattle.std.proofs.lemmas.Bool.{cond-true, cond-false, cond_both, and_parts}
use Rattle.std.proofs.lemmas.List.Sums.{sum_by-cons}
use Rattle.catalogue.specs.declared.entry.Segment.{Segment}
use Rattle.catalogue.specs.Entries.{PlainEntry, PlainCatalogue, names_of, comes_before, ascends}
use Rattle.catalogue.specs.Edits.{entry_of, with_entry, without, with_segments}
use Rattle.catalogue.specs.laws.Order.{order, by_order, by_seat, by_found, none_found, turned, other_name, same_name, none_behind}

-- an entry with other segments and without its page
abbrev pub refilled : PlainEntry → List Segment → PlainEntry
refilled e segments = record { name = e.name; schema = e.schema; segments = segments; page = None }

module _ (f : PlainEntry → ℕ) where
  -- ---- an entry is inserted

  pub put_most : (c : PlainCatalogue) (e : PlainEntry) → sum_by f (with_entry c e) ≤ sum_by f c + f e
  put_most [] e = omega (arith, sum_by-cons f e [])
  put_most (x ∷ xs) e =
      let later = put_most xs e in
      by_seat x xs e (λ d. sum_by f d ≤ sum_by f (x ∷ xs) + f e)
      (λ is. omega (arith, later, sum_by-cons f x xs, sum_by-cons f x (with_entry xs e)))
      (λ is. omega (arith, sum_by-cons f x xs, sum_by-cons f e xs))
      (λ is. omega (arith, sum_by-cons f e (x ∷ xs)))

  pub put_new : (c : PlainCatalogue) (e : PlainEntry) → entry_of c e.name ≡ None → sum_by f (with_entry c e) ≡ sum_by f c + f e
  put_new [] e none = omega (arith, sum_by-cons f e [])
  put_new (x ∷ xs) e none =
      let parts = none_found x xs e.name none in
      let later = put_new xs e parts.1 in
      by_seat x xs e (λ d. sum_by f d ≡ sum_by f (x ∷ xs) + f e)
      (λ is. omega (arith, later, sum_by-cons f x xs, sum_by-cons f x (with_entry xs e)))
      (λ is. absurd (let same = same_name x.name e.name is in let other = parts.0 in cc))
      (λ is. omega (arith, sum_by-cons f e (x ∷ xs)))

  pub put_over : (c : PlainCatalogue) (e old : PlainEntry) → ascends (names_of c) ≡ true → entry_of c e.name ≡ Some old → sum_by f (with_entry c e) + f old ≡ sum_by f c + f e
  put_over [] e old rises h = absurd cc
  put_over (x ∷ xs) e old rises h =
      let parts = and_parts (comes_before x.name (names_of xs)) (ascends (names_of xs)) rises in
      by_seat x xs e (λ d. sum_by f d + f old ≡ sum_by f (x ∷ xs) + f e)
      (λ is.
      let later = put_over xs e old parts.1 (sym (cond-false (bytes_eq x.name e.name) (Some x) (entry_of xs e.name) (other_name x.name e.name Less is refl)) ∙ h) in
      omega (arith, later, sum_by-cons f x xs, sum_by-cons f x (with_entry xs e)))
      (λ is.
      let same = same_name x.name e.name is in
      let stood : f x ≡ f old = by_found x xs e.name old h (λ t stands. ap f stands) (λ other later. absurd cc) in
      omega (arith, stood, sum_by-cons f x xs, sum_by-cons f e xs))
      (λ is.
      let none = none_behind xs x.name e.name parts.0 parts.1 (turned x.name e.name Greater is) in
      let other = other_name x.name e.name Greater is refl in
      absurd (by_found x xs e.name old h (λ t stands. cc) (λ t later. cc)))

  -- inserting entries with the same name and summand
  pub put_alike : (c : PlainCatalogue) (e g : PlainEntry) → e.name ≡ g.name → f e ≡ f g → sum_by f (with_entry c e) ≡ sum_by f (with_entry c g)
  put_alike [] e g named same = omega (arith, same, sum_by-cons f e [], sum_by-cons f g [])
  put_alike (x ∷ xs) e g named same =
      let later = put_alike xs e g named same in
      let other : order x.name g.name ≡ order x.name e.name = ap (order x.name) (sym named) in
      by_order (order x.name e.name)
      (λ is.
      ap (λ o. sum_by f (match_ordering o (x ∷ with_entry xs e) (e ∷ xs) (e ∷ (x ∷ xs)))) is ∙ omega (arith, later, sum_by-cons f x (with_entry xs e), sum_by-cons f x (with_entry xs g))
      ∙ sym (ap (λ o. sum_by f (match_ordering o (x ∷ with_entry xs g) (g ∷ xs) (g ∷ (x ∷ xs)))) (other ∙ is)))
      (λ is.
      ap (λ o. sum_by f (match_ordering o (x ∷ with_entry xs e) (e ∷ xs) (e ∷ (x ∷ xs)))) is ∙ omega (arith, same, sum_by-cons f e xs, sum_by-cons f g xs)
      ∙ sym (ap (λ o. sum_by f (match_ordering o (x ∷ with_entry xs g) (g ∷ xs) (g ∷ (x ∷ xs)))) (other ∙ is)))
      (λ is.
      ap (λ o. sum_by f (match_ordering o (x ∷ with_entry xs e) (e ∷ xs) (e ∷ (x ∷ xs)))) is ∙ omega (arith, same, sum_by-cons f e (x ∷ xs), sum_by-cons f g (x ∷ xs))
      ∙ sym (ap (λ o. sum_by f (match_ordering o (x ∷ with_entry xs g) (g ∷ xs) (g ∷ (x ∷ xs)))) (other ∙ is)))

  -- ---- one is removed

  pub taken_out : (c : PlainCatalogue) (name : List ℕ) (e : PlainEntry) → entry_of c name ≡ Some e → sum_by f (without c name) + f e ≡ sum_by f c
  taken_out [] name e h = absurd cc
  taken_out (x ∷ xs) name e h =
      by_found x xs name e h
      (λ t stands.
      let stood : f x ≡ f e = ap f stands in
      subst (λ d. sum_by f d + f e ≡ sum_by f (x ∷ xs)) (sym (cond-true (bytes_eq x.name name) xs (x ∷ without xs name) t)) (omega (arith, stood, sum_by-cons f x xs)))
      (λ other there.
      let later = taken_out xs name e there in
      subst (λ d. sum_by f d + f e ≡ sum_by f (x ∷ xs)) (sym (cond-false (bytes_eq x.name name) xs (x ∷ without xs name) other)) (omega (arith, later, sum_by-cons f x xs, sum_by-cons f x (without xs name))))

  pub without_least : (c : PlainCatalogue) (name : List ℕ) → sum_by f (without c name) ≤ sum_by f c
  without_least [] name = omega arith
  without_least (x ∷ xs) name =
      let later = without_least xs name in
      cond_both (bytes_eq x.name name) xs (x ∷ without xs name) (λ d. sum_by f d ≤ sum_by f (x ∷ xs))
      (λ _. omega (arith, sum_by-cons f x xs))
      (λ _. omega (arith, later, sum_by-cons f x xs, sum_by-cons f x (without xs name)))

  -- ---- one gets other segments

  pub refilled_sum : (c : PlainCatalogue) (name : List ℕ) (e : PlainEntry) (segments : List Segment) → entry_of c name ≡ Some e → sum_by f (with_segments c name segments) + f e ≡ sum_by f c + f (refilled e segments)
  refilled_sum [] name e segments h = absurd cc
  refilled_sum (x ∷ xs) name e segments h =
      by_found x xs name e h
      (λ t stands.
      let stood : f x ≡ f e = ap f stands in
      let new : f (refilled x segments) ≡ f (refilled e segments) = ap (λ y. f (refilled y segments)) stands in
      subst (λ d. sum_by f d + f e ≡ sum_by f (x ∷ xs) + f (refilled e segments)) (sym (cond-true (bytes_eq x.name name) (refilled x segments ∷ xs) (x ∷ with_segments xs name segments) t))
      (omega (arith, stood, new, sum_by-cons f x xs, sum_by-cons f (refilled x segments) xs)))
      (λ other there.
      let later = refilled_sum xs name e segments there in
      subst (λ d. sum_by f d + f e ≡ sum_by f (x ∷ xs) + f (refilled e segments)) (sym (cond-false (bytes_eq x.name name) (refilled x segments ∷ xs) (x ∷ with_segments xs name segments) other))
      (omega (arith, later, sum_by-cons f x xs, sum_by-cons f x (with_segments xs name segments))))

-- ---- the number of entries is such a sum

abbrev pub one : PlainEntry → ℕ
one e = 1

pub number : (c : PlainCatalogue) → sum_by one c ≡ length c
number [] = refl
number (x ∷ xs) = omega (arith, number xs, sum_by-cons one x xs)

-- and so is the number of segments
abbrev pub segments_in : PlainEntry → ℕ
segments_in e = length e.segments
