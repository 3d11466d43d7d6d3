-- What a loop over places picks: something where an item stands at the next place, else nothing.
use Rattle.std.proofs.Common.{◌≡◌, ℕ, ◌+◌, ◌<◌, ◌≤◌, List, [], ◌∷◌, ◌++◌, map, length, drop, get_or, sym, ap, ◌∙◌, append_assoc}
use Rattle.std.specs.Prelude.{Option, Some, None, slice_get}
use Rattle.std.specs.List.{cons_option}
use Rattle.std.proofs.lemmas.List.{map-append, append-nil, drop_all, get_or_default}
use Rattle.facts.specs.laws.Lists.{drop-item}
use Rattle.query.specs.Selection.{pick}

-- what stands at the places from one on
picked_from : {X : Type 0} (ps : List ℕ) (i : ℕ) (xs : List X) → i < length ps → pick (drop i ps) xs ≡ cons_option (slice_get xs (get_or ps i 0)) (pick (drop (i + 1) ps) xs)
picked_from ps i xs lt = ap (λ (qs : List ℕ). pick qs xs) (drop-item ps i (get_or ps i 0) lt (get_or_default ps i 0 (get_or ps i 0) lt))

pub one_picked : {X Y : Type 0} (f : Y → X) (ps : List ℕ) (i : ℕ) (xs : List X) (before more : List Y) (y : Y) (all : List X) → i < length ps → slice_get xs (get_or ps i 0) ≡ Some (f y)
    → more ≡ before ++ y ∷ [] → map f before ++ pick (drop i ps) xs ≡ all → map f more ++ pick (drop (i + 1) ps) xs ≡ all
one_picked {X = X} {Y = Y} f ps i xs before more y all lt there pushed h =
    let rest = pick (drop (i + 1) ps) xs in
    let next : pick (drop i ps) xs ≡ f y ∷ rest = picked_from ps i xs lt ∙ ap (λ (o : Option X). cons_option o rest) there in
    ap (λ (ys : List Y). map f ys ++ rest) pushed
    ∙ ap (λ (zs : List X). zs ++ rest) (map-append f before (y ∷ []))
    ∙ append_assoc (map f before) (f y ∷ []) rest
    ∙ ap (λ (zs : List X). map f before ++ zs) (sym next)
    ∙ h

pub none_picked : {X Y : Type 0} (f : Y → X) (ps : List ℕ) (i : ℕ) (xs : List X) (before more : List Y) (all : List X) → i < length ps → slice_get xs (get_or ps i 0) ≡ None → more ≡ before
    → map f before ++ pick (drop i ps) xs ≡ all → map f more ++ pick (drop (i + 1) ps) xs ≡ all
none_picked {X = X} f ps i xs before more all lt none same h =
    let rest = pick (drop (i + 1) ps) xs in
    let next : pick (drop i ps) xs ≡ rest = picked_from ps i xs lt ∙ ap (λ (o : Option X). cons_option o rest) none in
    (λ k. map f (same k) ++ sym next k) ∙ h

-- all places are after
pub all_picked : {X Y : Type 0} (f : Y → X) (ps : List ℕ) (i : ℕ) (xs : List X) (before : List Y) (all : List X) → length ps ≤ i → map f before ++ pick (drop i ps) xs ≡ all → map f before ≡ all
all_picked f ps i xs before all past h = sym (append-nil (map f before)) ∙ ap (λ (qs : List ℕ). map f before ++ pick qs xs) (sym (drop_all i ps past)) ∙ h
