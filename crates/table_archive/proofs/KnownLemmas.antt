-- Digests that are known.
use Rattle.std.proofs.Common.{◌≡◌, ◌∙◌, ◌++◌, ◌||◌, ℕ, Bool, true, false, List, [], ◌∷◌, refl, sym, ap, subst, inl, inr}
use Rattle.std.specs.Prelude.{if◌then◌else◌}
use Rattle.std.specs.List.{list_any}
use Rattle.std.specs.Str.{bytes_eq}
use Rattle.std.proofs.Math.Bool.{or-true}
use Rattle.std.proofs.lemmas.Bool.{cases_Bool, cond-true, cond-false}
use Rattle.std.proofs.lemmas.List.Folds.{list_any-append}
use Rattle.std.proofs.lemmas.Slice.Eq.{bytes_eq-Decides}

-- one of them, and one more
pub absorbed : (keys : List (List ℕ)) (d q : List ℕ) → list_any (bytes_eq d) keys ≡ true → (bytes_eq q d || list_any (bytes_eq q) keys) ≡ list_any (bytes_eq q) keys
absorbed keys d q there =
    elim (cases_Bool (bytes_eq q d)) [
      | inl same ↦
          let is : q ≡ d = (bytes_eq-Decides q d).0 same in
          rw same (sym (subst (λ (x : List ℕ). list_any (bytes_eq x) keys ≡ true) (sym is) there))
      | inr other ↦ rw other refl
    ]

swapped : (a b : Bool) → (a || (b || false)) ≡ (b || a)
swapped true b = sym (or-true b)
swapped false true = refl
swapped false false = refl

pub with_one : (keys : List (List ℕ)) (d q : List ℕ)
    → list_any (bytes_eq q) (if list_any (bytes_eq d) keys then keys else keys ++ d ∷ []) ≡ (bytes_eq q d || list_any (bytes_eq q) keys)
with_one keys d q =
    elim (cases_Bool (list_any (bytes_eq d) keys)) [
      | inl there ↦ ap (list_any (bytes_eq q)) (cond-true _ keys (keys ++ d ∷ []) there) ∙ sym (absorbed keys d q there)
      | inr lacking ↦ ap (list_any (bytes_eq q)) (cond-false _ keys (keys ++ d ∷ []) lacking)
          ∙ list_any-append (bytes_eq q) keys (d ∷ []) ∙ swapped (list_any (bytes_eq q) keys) (bytes_eq q d)
    ]

pub known_more : (keys new had : List (List ℕ)) (d : List ℕ) → new ≡ (if list_any (bytes_eq d) keys then keys else keys ++ d ∷ [])
    → ((q : List ℕ) → list_any (bytes_eq q) keys ≡ list_any (bytes_eq q) had) → (q : List ℕ) → list_any (bytes_eq q) new ≡ (bytes_eq q d || list_any (bytes_eq q) had)
known_more keys new had d is knows q = ap (list_any (bytes_eq q)) is ∙ with_one keys d q ∙ ap (λ (b : Bool). bytes_eq q d || b) (knows q)

-- one that is there is not added
pub known_still : (keys new had : List (List ℕ)) (d : List ℕ) → new ≡ (if list_any (bytes_eq d) keys then keys else keys ++ d ∷ []) → list_any (bytes_eq d) keys ≡ true
    → ((q : List ℕ) → list_any (bytes_eq q) keys ≡ list_any (bytes_eq q) had) → (q : List ℕ) → list_any (bytes_eq q) new ≡ list_any (bytes_eq q) had
known_still keys new had d is there knows q = ap (list_any (bytes_eq q)) (is ∙ cond-true _ keys (keys ++ d ∷ []) there) ∙ knows q

-- one more at the end of a list
at_end : (had : List (List ℕ)) (d q : List ℕ) → list_any (bytes_eq q) (had ++ d ∷ []) ≡ (bytes_eq q d || list_any (bytes_eq q) had)
at_end had d q = list_any-append (bytes_eq q) had (d ∷ []) ∙ swapped (list_any (bytes_eq q) had) (bytes_eq q d)

pub known_next : (keys front more : List (List ℕ)) (d : List ℕ) → more ≡ front ++ d ∷ [] → ((q : List ℕ) → list_any (bytes_eq q) keys ≡ (bytes_eq q d || list_any (bytes_eq q) front))
    → (q : List ℕ) → list_any (bytes_eq q) keys ≡ list_any (bytes_eq q) more
known_next keys front more d is knows q = knows q ∙ sym (ap (list_any (bytes_eq q)) is ∙ at_end front d q)
