-- Sorted names, and the changes that keep them sorted.
use Rattle.std.proofs.Common.{◌≡◌, ℕ, Bool, true, false, List, [], ◌∷◌, Some, None, Ordering, Less, Equal, Greater, inl, inr, refl, sym, ap, subst, ◌∙◌}
use Rattle.std.specs.List.{list_all}
use Rattle.std.specs.Str.{bytes_eq}
use Rattle.std.specs.Cmp.Lexicographic.{slice_cmp}
use Rattle.std.specs.Ordering.{nat_cmp, match_ordering, ordering_reverse, is_lt, is_eq}
use Rattle.std.proofs.lemmas.Bool.{cond_both, cond-true, cond-false, cases_Bool, and_parts, and_from}
use Rattle.std.proofs.lemmas.Cmp.{nat_list_cmp_total}
use Rattle.std.proofs.lemmas.Map.Text.{is_eq-slice_cmp}
use Rattle.std.proofs.lemmas.Option.{same_Some}
use Rattle.catalogue.specs.Entries.{PlainEntry, PlainCatalogue, names_of, comes_before, ascends}
use Rattle.catalogue.specs.Edits.{entry_of, with_entry, without}

abbrev pub order : List ℕ → List ℕ → Ordering
order = slice_cmp nat_cmp

-- ---- three cases

-- case analysis of an ordering, with its equation
pub by_order : {G : Type 0} (o : Ordering) → (o ≡ Less → G) → (o ≡ Equal → G) → (o ≡ Greater → G) → G
by_order Less l e g = l refl
by_order Equal l e g = e refl
by_order Greater l e g = g refl

pub less_is : (o : Ordering) → is_lt o ≡ true → o ≡ Less
less_is Less h = refl
less_is Equal h = absurd cc
less_is Greater h = absurd cc

pub turned : (a b : List ℕ) (o : Ordering) → order a b ≡ o → order b a ≡ ordering_reverse o
turned a b o h = nat_list_cmp_total.antisymm b a ∙ ap ordering_reverse h

below_all : (a b c : List ℕ) → order a b ≡ Less → order b c ≡ Less → order a c ≡ Less
below_all a b c = nat_list_cmp_total.trans a b c

pub other_name : (a b : List ℕ) (o : Ordering) → order a b ≡ o → is_eq o ≡ false → bytes_eq a b ≡ false
other_name a b o h f = sym (is_eq-slice_cmp a b) ∙ ap is_eq h ∙ f

pub same_name : (a b : List ℕ) → order a b ≡ Equal → bytes_eq a b ≡ true
same_name a b h = sym (is_eq-slice_cmp a b) ∙ ap is_eq h

-- ---- the places of entries

-- a list with an entry inserted, by the place of the entry's name
pub by_seat : (x : PlainEntry) (xs : PlainCatalogue) (e : PlainEntry) (P : PlainCatalogue → Type 0)
    → (order x.name e.name ≡ Less → P (x ∷ with_entry xs e)) → (order x.name e.name ≡ Equal → P (e ∷ xs)) → (order x.name e.name ≡ Greater → P (e ∷ (x ∷ xs))) → P (with_entry (x ∷ xs) e)
by_seat x xs e P less equal greater =
    by_order (order x.name e.name)
    (λ is. subst (λ o. P (match_ordering o (x ∷ with_entry xs e) (e ∷ xs) (e ∷ (x ∷ xs)))) (sym is) (less is))
    (λ is. subst (λ o. P (match_ordering o (x ∷ with_entry xs e) (e ∷ xs) (e ∷ (x ∷ xs)))) (sym is) (equal is))
    (λ is. subst (λ o. P (match_ordering o (x ∷ with_entry xs e) (e ∷ xs) (e ∷ (x ∷ xs)))) (sym is) (greater is))

-- the entry with this name is the first one, or is found among the others
pub by_found : {G : Type 0} (x : PlainEntry) (xs : PlainCatalogue) (name : List ℕ) (e : PlainEntry) → entry_of (x ∷ xs) name ≡ Some e
    → (bytes_eq x.name name ≡ true → x ≡ e → G) → (bytes_eq x.name name ≡ false → entry_of xs name ≡ Some e → G) → G
by_found x xs name e h first later =
    elim (cases_Bool (bytes_eq x.name name)) [
      | inl t ↦ first t (same_Some x e (sym (cond-true (bytes_eq x.name name) (Some x) (entry_of xs name) t) ∙ h))
      | inr f ↦ later f (sym (cond-false (bytes_eq x.name name) (Some x) (entry_of xs name) f) ∙ h)
    ]

-- if there is none of this name, the first one has another name, and there is none among the others
pub none_found : (x : PlainEntry) (xs : PlainCatalogue) (name : List ℕ) → entry_of (x ∷ xs) name ≡ None → (bytes_eq x.name name ≡ false) × (entry_of xs name ≡ None)
none_found x xs name h =
    elim (cases_Bool (bytes_eq x.name name)) [
      | inl t ↦ absurd (let none : Some x ≡ None = sym (cond-true (bytes_eq x.name name) (Some x) (entry_of xs name) t) ∙ h in cc)
      | inr f ↦ (f, sym (cond-false (bytes_eq x.name name) (Some x) (entry_of xs name) f) ∙ h)
    ]

-- after a later name, this name does not occur
pub none_behind : (c : PlainCatalogue) (low name : List ℕ) → comes_before low (names_of c) ≡ true → ascends (names_of c) ≡ true → order name low ≡ Less → entry_of c name ≡ None
none_behind [] low name first rises lt = refl
none_behind (x ∷ xs) low name first rises lt =
    let parts = and_parts (comes_before x.name (names_of xs)) (ascends (names_of xs)) rises in
    let below = below_all name low x.name lt (less_is _ first) in
    cond-false (bytes_eq x.name name) (Some x) (entry_of xs name) (other_name x.name name Greater (turned name x.name Less below) refl)
    ∙ none_behind xs x.name name parts.0 parts.1 below

-- ---- order is kept

before_with : (c : PlainCatalogue) (e : PlainEntry) (low : List ℕ) → comes_before low (names_of c) ≡ true → order low e.name ≡ Less → comes_before low (names_of (with_entry c e)) ≡ true
before_with [] e low first lt = ap is_lt lt
before_with (x ∷ xs) e low first lt =
    by_order (order x.name e.name)
    (λ is. ap (λ o. comes_before low (names_of (match_ordering o (x ∷ with_entry xs e) (e ∷ xs) (e ∷ (x ∷ xs))))) is ∙ first)
    (λ is. ap (λ o. comes_before low (names_of (match_ordering o (x ∷ with_entry xs e) (e ∷ xs) (e ∷ (x ∷ xs))))) is ∙ ap is_lt lt)
    (λ is. ap (λ o. comes_before low (names_of (match_ordering o (x ∷ with_entry xs e) (e ∷ xs) (e ∷ (x ∷ xs))))) is ∙ ap is_lt lt)

-- names that compare equal sort before the same names
before_same : (c : PlainCatalogue) (a b : List ℕ) → order a b ≡ Equal → comes_before a (names_of c) ≡ true → comes_before b (names_of c) ≡ true
before_same [] a b is first = refl
before_same (x ∷ xs) a b is first = ap is_lt (sym (nat_list_cmp_total.congr a b x.name is)) ∙ first

pub with_rises : (c : PlainCatalogue) (e : PlainEntry) → ascends (names_of c) ≡ true → ascends (names_of (with_entry c e)) ≡ true
with_rises [] e rises = refl
with_rises (x ∷ xs) e rises =
    let parts = and_parts (comes_before x.name (names_of xs)) (ascends (names_of xs)) rises in
    by_order (order x.name e.name)
    (λ is.
    ap (λ o. ascends (names_of (match_ordering o (x ∷ with_entry xs e) (e ∷ xs) (e ∷ (x ∷ xs))))) is
    ∙ and_from (comes_before x.name (names_of (with_entry xs e))) (ascends (names_of (with_entry xs e))) (before_with xs e x.name parts.0 is) (with_rises xs e parts.1))
    (λ is.
    ap (λ o. ascends (names_of (match_ordering o (x ∷ with_entry xs e) (e ∷ xs) (e ∷ (x ∷ xs))))) is
    ∙ and_from (comes_before e.name (names_of xs)) (ascends (names_of xs)) (before_same xs x.name e.name is parts.0) parts.1)
    (λ is.
    ap (λ o. ascends (names_of (match_ordering o (x ∷ with_entry xs e) (e ∷ xs) (e ∷ (x ∷ xs))))) is
    ∙ and_from (is_lt (order e.name x.name)) (ascends (names_of (x ∷ xs))) (ap is_lt (turned x.name e.name Greater is)) rises)

pub with_all : (p : PlainEntry → Bool) (c : PlainCatalogue) (e : PlainEntry) → list_all p c ≡ true → p e ≡ true → list_all p (with_entry c e) ≡ true
with_all p [] e all here = and_from (p e) true here refl
with_all p (x ∷ xs) e all here =
    let parts = and_parts (p x) (list_all p xs) all in
    by_order (order x.name e.name)
    (λ is. ap (λ o. list_all p (match_ordering o (x ∷ with_entry xs e) (e ∷ xs) (e ∷ (x ∷ xs)))) is ∙ and_from (p x) (list_all p (with_entry xs e)) parts.0 (with_all p xs e parts.1 here))
    (λ is. ap (λ o. list_all p (match_ordering o (x ∷ with_entry xs e) (e ∷ xs) (e ∷ (x ∷ xs)))) is ∙ and_from (p e) (list_all p xs) here parts.1)
    (λ is. ap (λ o. list_all p (match_ordering o (x ∷ with_entry xs e) (e ∷ xs) (e ∷ (x ∷ xs)))) is ∙ and_from (p e) (list_all p (x ∷ xs)) here all)

-- ---- an entry is removed

before_next : (low : List ℕ) (x : PlainEntry) (c : PlainCatalogue) → comes_before low (names_of (x ∷ c)) ≡ true → comes_before x.name (names_of c) ≡ true → comes_before low (names_of c) ≡ true
before_next low x [] first next = refl
before_next low x (y ∷ ys) first next = ap is_lt (below_all low x.name y.name (less_is _ first) (less_is _ next))

before_without : (c : PlainCatalogue) (name low : List ℕ) → ascends (names_of c) ≡ true → comes_before low (names_of c) ≡ true → comes_before low (names_of (without c name)) ≡ true
before_without [] name low rises first = refl
before_without (x ∷ xs) name low rises first =
    let parts = and_parts (comes_before x.name (names_of xs)) (ascends (names_of xs)) rises in
    cond_both (bytes_eq x.name name) xs (x ∷ without xs name) (λ c. comes_before low (names_of c) ≡ true) (λ _. before_next low x xs first parts.0) (λ _. first)

pub without_rises : (c : PlainCatalogue) (name : List ℕ) → ascends (names_of c) ≡ true → ascends (names_of (without c name)) ≡ true
without_rises [] name rises = refl
without_rises (x ∷ xs) name rises =
    let parts = and_parts (comes_before x.name (names_of xs)) (ascends (names_of xs)) rises in
    cond_both (bytes_eq x.name name) xs (x ∷ without xs name) (λ c. ascends (names_of c) ≡ true) (λ _. parts.1)
    (λ _. and_from (comes_before x.name (names_of (without xs name))) (ascends (names_of (without xs name))) (before_without xs name x.name parts.1 parts.0) (without_rises xs name parts.1))

pub without_all : (p : PlainEntry → Bool) (c : PlainCatalogue) (name : List ℕ) → list_all p c ≡ true → list_all p (without c name) ≡ true
without_all p [] name all = refl
without_all p (x ∷ xs) name all =
    let parts = and_parts (p x) (list_all p xs) all in
    cond_both (bytes_eq x.name name) xs (x ∷ without xs name) (λ c. list_all p c ≡ true) (λ _. parts.1) (λ _. and_from (p x) (list_all p (without xs name)) parts.0 (without_all p xs name parts.1))
