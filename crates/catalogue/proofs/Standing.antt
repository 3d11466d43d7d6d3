-- Where entries stand, and views of lists that change.
use Rattle.std.proofs.Common.{◌≡◌, inl, inr, ◌≤◌, ◌<◌, ◌+◌, ℕ, zero, suc, true, List, [], ◌∷◌, length, get_or, set, insert, remove, map, Some, None, Result, Ok, Err, Less, Greater, refl, sym, ap, ◌∙◌, arith}
use Rattle.std.specs.Str.{bytes_eq}
use Rattle.std.specs.Ordering.{match_ordering}
use Rattle.std.proofs.lemmas.Bool.{cond-true, cond-false, cases_Bool, and_parts}
use Rattle.std.proofs.lemmas.Option.{same_Some}
use Rattle.catalogue.specs.declared.entry.Segment.{Segment}
use Rattle.catalogue.specs.Entries.{PlainEntry, PlainCatalogue, names_of, comes_before, ascends}
use Rattle.catalogue.specs.Edits.{entry_of, with_entry, without, with_segments}
use Rattle.catalogue.specs.inner.Places.{place_of, seat_of}
use Rattle.catalogue.specs.laws.Order.{order, by_order, turned, other_name, same_name, none_behind}

-- ---- where an entry goes

-- counted from `at`, the place is so much further
pub record IsSeat (c : PlainCatalogue) (e : PlainEntry) (at place : ℕ) : Type 0 where
  pub index : ℕ
  pub is : place ≡ at + index
  pub within : index < length c
  pub put : set c index e ≡ with_entry c e
  pub stood : (d : PlainEntry) → entry_of c e.name ≡ Some (get_or c index d)

pub record IsGap (c : PlainCatalogue) (e : PlainEntry) (at place : ℕ) : Type 0 where
  pub index : ℕ
  pub is : place ≡ at + index
  pub within : index ≤ length c
  pub put : insert c index e ≡ with_entry c e

abbrev taken : ℕ → Result ℕ ℕ
taken place = Ok place

abbrev free : ℕ → Result ℕ ℕ
free place = Err place

ok_is : (a b : ℕ) → taken a ≡ taken b → a ≡ b
ok_is a b h = cc

err_is : (a b : ℕ) → free a ≡ free b → a ≡ b
err_is a b h = cc

pub seated : (c : PlainCatalogue) (e : PlainEntry) (at place : ℕ) → seat_of e.name at c ≡ Ok place → IsSeat c e at place
seated [] e at place h = absurd cc
seated (x ∷ xs) e at place h =
    by_order (order x.name e.name)
    (λ is.
    let later = seated xs e (suc at) place (sym (ap (λ o. match_ordering o (seat_of e.name (suc at) xs) (Ok at) (Err at)) is) ∙ h) in
    record {
      index = suc later.index;
      is = let p = later.is in omega arith;
      within = let p = later.within in omega arith;
      put = ap (λ ys. x ∷ ys) later.put ∙ sym (ap (λ o. match_ordering o (x ∷ with_entry xs e) (e ∷ xs) (e ∷ (x ∷ xs))) is);
      stood = λ d. cond-false (bytes_eq x.name e.name) (Some x) (entry_of xs e.name) (other_name x.name e.name Less is refl) ∙ later.stood d;
    })
    (λ is.
    record {
      index = 0;
      is = let p = ok_is at place (sym (ap (λ o. match_ordering o (seat_of e.name (suc at) xs) (Ok at) (Err at)) is) ∙ h) in omega arith;
      within = omega arith;
      put = sym (ap (λ o. match_ordering o (x ∷ with_entry xs e) (e ∷ xs) (e ∷ (x ∷ xs))) is);
      stood = λ d. cond-true (bytes_eq x.name e.name) (Some x) (entry_of xs e.name) (same_name x.name e.name is);
    })
    (λ is. absurd (let p : free at ≡ taken place = sym (ap (λ o. match_ordering o (seat_of e.name (suc at) xs) (Ok at) (Err at)) is) ∙ h in cc))

pub gap : (c : PlainCatalogue) (e : PlainEntry) (at place : ℕ) → seat_of e.name at c ≡ Err place → IsGap c e at place
gap [] e at place h = record { index = 0; is = let p = err_is at place h in omega arith; within = omega arith; put = refl }
gap (x ∷ xs) e at place h =
    by_order (order x.name e.name)
    (λ is.
    let later = gap xs e (suc at) place (sym (ap (λ o. match_ordering o (seat_of e.name (suc at) xs) (Ok at) (Err at)) is) ∙ h) in
    record {
      index = suc later.index;
      is = let p = later.is in omega arith;
      within = let p = later.within in omega arith;
      put = ap (λ ys. x ∷ ys) later.put ∙ sym (ap (λ o. match_ordering o (x ∷ with_entry xs e) (e ∷ xs) (e ∷ (x ∷ xs))) is);
    })
    (λ is. absurd (let p : taken at ≡ free place = sym (ap (λ o. match_ordering o (seat_of e.name (suc at) xs) (Ok at) (Err at)) is) ∙ h in cc))
    (λ is.
    record {
      index = 0;
      is = let p = err_is at place (sym (ap (λ o. match_ordering o (seat_of e.name (suc at) xs) (Ok at) (Err at)) is) ∙ h) in omega arith;
      within = omega arith;
      put = sym (ap (λ o. match_ordering o (x ∷ with_entry xs e) (e ∷ xs) (e ∷ (x ∷ xs))) is);
    })

-- where an entry goes between others, none of its name stands
pub none_stood : (c : PlainCatalogue) (name : List ℕ) (at place : ℕ) → ascends (names_of c) ≡ true → seat_of name at c ≡ Err place → entry_of c name ≡ None
none_stood [] name at place rises h = refl
none_stood (x ∷ xs) name at place rises h =
    let parts = and_parts (comes_before x.name (names_of xs)) (ascends (names_of xs)) rises in
    by_order (order x.name name)
    (λ is.
    cond-false (bytes_eq x.name name) (Some x) (entry_of xs name) (other_name x.name name Less is refl)
    ∙ none_stood xs name (suc at) place parts.1 (sym (ap (λ o. match_ordering o (seat_of name (suc at) xs) (Ok at) (Err at)) is) ∙ h))
    (λ is. absurd (let p : taken at ≡ free place = sym (ap (λ o. match_ordering o (seat_of name (suc at) xs) (Ok at) (Err at)) is) ∙ h in cc))
    (λ is.
    cond-false (bytes_eq x.name name) (Some x) (entry_of xs name) (other_name x.name name Greater is refl)
    ∙ none_behind xs x.name name parts.0 parts.1 (turned x.name name Greater is))

-- ---- an entry is taken out

pub record IsPlace (c : PlainCatalogue) (name : List ℕ) (at place : ℕ) : Type 0 where
  pub index : ℕ
  pub is : place ≡ at + index
  pub within : index < length c
  pub removed : remove c index ≡ without c name
  pub stood : (d : PlainEntry) → entry_of c name ≡ Some (get_or c index d)

pub placed : (c : PlainCatalogue) (name : List ℕ) (at place : ℕ) → place_of name at c ≡ Some place → IsPlace c name at place
placed [] name at place h = absurd cc
placed (x ∷ xs) name at place h =
    elim (cases_Bool (bytes_eq x.name name)) [
      | inl t ↦ record {
        index = 0;
        is = let p = same_Some at place (sym (cond-true (bytes_eq x.name name) (Some at) (place_of name (suc at) xs) t) ∙ h) in omega arith;
        within = omega arith;
        removed = sym (cond-true (bytes_eq x.name name) xs (x ∷ without xs name) t);
        stood = λ d. cond-true (bytes_eq x.name name) (Some x) (entry_of xs name) t;
      }
      | inr f ↦
          let later = placed xs name (suc at) place (sym (cond-false (bytes_eq x.name name) (Some at) (place_of name (suc at) xs) f) ∙ h) in
          record {
            index = suc later.index;
            is = let p = later.is in omega arith;
            within = let p = later.within in omega arith;
            removed = ap (λ ys. x ∷ ys) later.removed ∙ sym (cond-false (bytes_eq x.name name) xs (x ∷ without xs name) f);
            stood = λ d. cond-false (bytes_eq x.name name) (Some x) (entry_of xs name) f ∙ later.stood d;
          }
    ]

pub record IsAbsent (c : PlainCatalogue) (name : List ℕ) : Type 0 where
  pub removed : without c name ≡ c
  pub stood : entry_of c name ≡ None

pub absent : (c : PlainCatalogue) (name : List ℕ) (at : ℕ) → place_of name at c ≡ None → IsAbsent c name
absent [] name at h = record { removed = refl; stood = refl }
absent (x ∷ xs) name at h =
    elim (cases_Bool (bytes_eq x.name name)) [
      | inl t ↦ absurd (let p : Some at ≡ None = sym (cond-true (bytes_eq x.name name) (Some at) (place_of name (suc at) xs) t) ∙ h in cc)
      | inr f ↦
          let later = absent xs name (suc at) (sym (cond-false (bytes_eq x.name name) (Some at) (place_of name (suc at) xs) f) ∙ h) in
          record {
            removed = cond-false (bytes_eq x.name name) xs (x ∷ without xs name) f ∙ ap (λ ys. x ∷ ys) later.removed;
            stood = cond-false (bytes_eq x.name name) (Some x) (entry_of xs name) f ∙ later.stood;
          }
    ]

-- ---- the place of an entry that is changed

-- places are counted up
low_place : (c : PlainCatalogue) (name : List ℕ) (at place : ℕ) → place_of name at c ≡ Some place → at ≤ place
low_place [] name at place h = absurd cc
low_place (x ∷ xs) name at place h =
    elim (cases_Bool (bytes_eq x.name name)) [
      | inl t ↦ let here = same_Some at place (sym (cond-true (bytes_eq x.name name) (Some at) (place_of name (suc at) xs) t) ∙ h) in omega (arith, here)
      | inr f ↦ let later = low_place xs name (suc at) place (sym (cond-false (bytes_eq x.name name) (Some at) (place_of name (suc at) xs) f) ∙ h) in omega (arith, later)
    ]

pub set_segments : (c : PlainCatalogue) (name : List ℕ) (at place index : ℕ) (d : PlainEntry) (segments : List Segment) → place_of name at c ≡ Some place → place ≡ at + index
    → set c index (record { name = (get_or c index d).name; schema = (get_or c index d).schema; segments = segments; page = None }) ≡ with_segments c name segments
set_segments [] name at place index d segments h is = absurd cc
set_segments (x ∷ xs) name at place zero d segments h is =
    elim (cases_Bool (bytes_eq x.name name)) [
      | inl t ↦ sym (cond-true (bytes_eq x.name name) (record { name = x.name; schema = x.schema; segments = segments; page = None } ∷ xs) (x ∷ with_segments xs name segments) t)
      | inr f ↦ absurd (let l = low_place xs name (suc at) place (sym (cond-false (bytes_eq x.name name) (Some at) (place_of name (suc at) xs) f) ∙ h) in omega (arith, l, is))
    ]
set_segments (x ∷ xs) name at place (suc k) d segments h is =
    elim (cases_Bool (bytes_eq x.name name)) [
      | inl t ↦ absurd (let here = same_Some at place (sym (cond-true (bytes_eq x.name name) (Some at) (place_of name (suc at) xs) t) ∙ h) in omega (arith, here, is))
      | inr f ↦
          ap (λ ys. x ∷ ys) (set_segments xs name (suc at) place k d segments (sym (cond-false (bytes_eq x.name name) (Some at) (place_of name (suc at) xs) f) ∙ h) (omega (arith, is)))
          ∙ sym (cond-false (bytes_eq x.name name) (record { name = x.name; schema = x.schema; segments = segments; page = None } ∷ xs) (x ∷ with_segments xs name segments) f)
    ]

-- ---- views of lists that change

pub map_insert : {A B : Type 0} (f : A → B) (xs : List A) (i : ℕ) (x : A) → i ≤ length xs → map f (insert xs i x) ≡ insert (map f xs) i (f x)
map_insert f xs zero x le = refl
map_insert f [] (suc i) x le = absurd (omega arith)
map_insert f (y ∷ ys) (suc i) x le = ap (λ zs. f y ∷ zs) (map_insert f ys i x (omega arith))

pub map_remove : {A B : Type 0} (f : A → B) (xs : List A) (i : ℕ) → i < length xs → map f (remove xs i) ≡ remove (map f xs) i
map_remove f [] i lt = absurd (omega arith)
map_remove f (y ∷ ys) zero lt = refl
map_remove f (y ∷ ys) (suc i) lt = ap (λ zs. f y ∷ zs) (map_remove f ys i (omega arith))

pub map_at : {A B : Type 0} (f : A → B) (xs : List A) (i : ℕ) (d : A) → get_or (map f xs) i (f d) ≡ f (get_or xs i d)
map_at f [] i d = refl
map_at f (x ∷ xs) zero d = refl
map_at f (x ∷ xs) (suc i) d = map_at f xs i d
