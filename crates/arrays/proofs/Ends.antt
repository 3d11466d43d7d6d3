-- Where the arrays of a batch end.
use Rattle.std.specs.List.{list_all}
use Rattle.std.proofs.Common.{◌≡◌, ℕ, zero, suc, ◌+◌, Bool, true, List, [], ◌∷◌, ◌++◌, map, drop, length, get_or, ◌<◌, refl, ap, subst, arith, ◌∙◌}
use Rattle.std.proofs.lemmas.Bool.{and_parts}
use Rattle.std.proofs.lemmas.List.Folds.{list_all-append, list_all-map}
use Rattle.columns.specs.declared.array.PlacedArray.{PlacedArray}
use Rattle.columns.specs.declared.array.Dictionary.{Dictionary}
use Rattle.columns.specs.declared.span.Span.{Span}
use Rattle.columns.specs.Within.{stands_within, is_placed_within}
use Rattle.arrays.specs.Placed.{ArraysEndWithin, ArrayEndsWithin}
use Rattle.columns.specs.laws.Longer.{within_more}
use Rattle.arrays.specs.declared.rest.Rest.{Rest}
use Rattle.arrays.specs.inner.Rest.{ArrayEnds, ArraysEnd, IsLeft}

pub children_end : (r : Rest) (arrays : List PlacedArray) (size : ℕ) → list_all (is_placed_within size r.dictionaries.now) arrays ≡ true
    → list_all (λ b. b) (map (is_placed_within size r.dictionaries.now) arrays) ≡ true
children_end r arrays size h = list_all-map (λ b. b) (is_placed_within size r.dictionaries.now) arrays ∙ h

-- ---- of what is left

pub all_left : {X : Type 0} (p : X → Bool) (n : ℕ) (xs : List X) → list_all p xs ≡ true → list_all p (drop n xs) ≡ true
all_left p zero xs h = h
all_left p (suc n) [] h = refl
all_left p (suc n) (x ∷ xs) h = all_left p n xs (and_parts (p x) (list_all p xs) h).1

pub parts_left : (r left : Rest) (n b d size : ℕ) → IsLeft r left n b d → list_all (stands_within size r.dictionaries.now) r.parts.now ≡ true
    → list_all (stands_within size left.dictionaries.now) left.parts.now ≡ true
parts_left r left n b d size h known = (λ j. list_all (stands_within size (h.same_dictionaries j)) (h.parts_left j)) ∙ all_left (stands_within size r.dictionaries.now) d r.parts.now known

-- ---- array by array

-- what is left of a batch stands where the batch does
pub record IsBehind (r left : Rest) : Type 0 where
  pub dictionaries : left.dictionaries.now ≡ r.dictionaries.now
  pub body : left.body.start + left.body.len ≡ r.body.start + r.body.len
  pub parts : (size : ℕ) → list_all (stands_within size r.dictionaries.now) r.parts.now ≡ true → list_all (stands_within size left.dictionaries.now) left.parts.now ≡ true

pub behind_itself : (r : Rest) → IsBehind r r
behind_itself r = record { dictionaries = refl; body = refl; parts = λ size known. known }

pub behind_more : (r left after : Rest) (n b d : ℕ) → IsBehind r left → IsLeft left after n b d → IsBehind r after
behind_more r left after n b d h rest = record {
  dictionaries = rest.same_dictionaries ∙ h.dictionaries;
  body = ap (λ (s : Span). s.start + s.len) rest.same_body ∙ h.body;
  parts = λ size known. parts_left left after n b d size rest (h.parts size known);
}

pub none_ends : (r : Rest) (arrays : List PlacedArray) → arrays ≡ [] → ArraysEnd r arrays
none_ends r arrays none size le known = ap (list_all (is_placed_within size r.dictionaries.now)) none

pub end_more : (r left : Rest) (arrays more : List PlacedArray) (a : PlacedArray) → IsBehind r left → more ≡ arrays ++ a ∷ [] → ArrayEnds left a → ArraysEnd r arrays → ArraysEnd r more
end_more r left arrays more a h pushed ends end size le known =
    let here : is_placed_within size r.dictionaries.now a ≡ true
    = subst (λ (ds : List Dictionary). is_placed_within size ds a ≡ true) h.dictionaries (ends size (omega (arith, h.body, le)) (h.parts size known)) in
    ap (list_all (is_placed_within size r.dictionaries.now)) pushed
    ∙ list_all-append (is_placed_within size r.dictionaries.now) arrays (a ∷ [])
    ∙ rw (end size le known, here) refl

-- ---- the first array, without dictionaries

first_of_all : (p : PlacedArray → Bool) (items : List PlacedArray) (x : PlacedArray) → 0 < length items → x ≡ get_or items 0 x → list_all p items ≡ true → p x ≡ true
first_of_all p [] x some is h = absurd (omega arith)
first_of_all p (y ∷ items) x some is h = ap p is ∙ (and_parts (p y) (list_all p items) h).0

pub first_ends : (body : Span) (items : List PlacedArray) (x : PlacedArray) → 0 < length items → x ≡ get_or items 0 x → ArraysEndWithin body [] [] items → ArrayEndsWithin body x
first_ends body items x some is end size le =
    within_more size size (omega arith) (stands_within size []) (λ p. true) (λ p h. refl) x (first_of_all (is_placed_within size []) items x some is (end size le refl))

-- what ends within what is left ends within the whole
pub ends_left : (r left : Rest) (n b d : ℕ) (a : PlacedArray) → IsLeft r left n b d → ArrayEnds left a → ArrayEnds r a
ends_left r left n b d a rest ends size le known =
    let h : IsBehind r left = behind_more r r left n b d (behind_itself r) rest in
    subst (λ (ds : List Dictionary). is_placed_within size ds a ≡ true) h.dictionaries (ends size (omega (arith, h.body, le)) (h.parts size known))

pub all_end_left : (r left : Rest) (n b d : ℕ) (arrays : List PlacedArray) → IsLeft r left n b d → ArraysEnd left arrays → ArraysEnd r arrays
all_end_left r left n b d arrays rest ends size le known =
    let h : IsBehind r left = behind_more r r left n b d (behind_itself r) rest in
    subst (λ (ds : List Dictionary). list_all (is_placed_within size ds) arrays ≡ true) h.dictionaries (ends size (omega (arith, h.body, le)) (h.parts size known))
