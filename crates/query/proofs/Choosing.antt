-- The columns that are asked for, one after another.
use Rattle.std.proofs.Common.{◌≡◌, ℕ, ◌+◌, ◌<◌, ◌≤◌, ◌==◌, Bool, true, false, List, [], ◌∷◌, ◌++◌, map, length, take, drop, get_or, refl, sym, ap, ◌∙◌, arith}
use Rattle.std.specs.Prelude.{Option, Some, None, not, ◌||◌}
use Rattle.std.specs.List.{list_any, range_with_len}
use Rattle.std.specs.Option.{option_and_then}
use Rattle.std.proofs.lemmas.Bool.{and_from, and_parts, and_left, and_right, or_from, or_parts, or_left, or_right, eqb-true, eq-eqb, not-true, not_from_true, not_from_false}
use Rattle.std.proofs.lemmas.List.{map-append, length-map, take_more, take_all, take-append-drop}
use Rattle.std.proofs.lemmas.List.FromFn.{map-range_with_len_more}
use Rattle.std.proofs.lemmas.List.Folds.{list_any-append}
use Rattle.facts.specs.laws.Lists.{drop-item}
use Rattle.arrow_schema.specs.Column.{Column}
use Rattle.query.specs.Bound.{place_of}
use Rattle.query.specs.Selection.{joined, all_some, is_distinct, where_distinct, chosen}

pub chosen_names : (cs : List Column) (names : List (List ℕ)) → 0 < length names → chosen cs names ≡ option_and_then where_distinct (all_some (map (place_of cs) names))
unfolding chosen
chosen_names cs [] h = absurd (omega (arith, h))
chosen_names cs (name ∷ names) h = refl

all_found : (xs : List ℕ) → all_some (map Some xs) ≡ Some xs
all_found [] = refl
all_found (x ∷ xs) = rw (all_found xs) refl

one_missing : (xs : List ℕ) (os : List (Option ℕ)) → all_some (map Some xs ++ None ∷ os) ≡ None
one_missing [] os = refl
one_missing (x ∷ xs) os = rw (one_missing xs os) refl

found_before : (xs : List ℕ) (os : List (Option ℕ)) (ys : List ℕ) → all_some os ≡ Some ys → all_some (map Some xs ++ os) ≡ Some (xs ++ ys)
found_before [] os ys h = h
found_before (x ∷ xs) os ys h = rw (found_before xs os ys h) refl

missing_after : (xs : List ℕ) (os : List (Option ℕ)) → all_some os ≡ None → all_some (map Some xs ++ os) ≡ None
missing_after [] os h = h
missing_after (x ∷ xs) os h = rw (missing_after xs os h) refl

-- the list has it
has_it : (x : ℕ) (xs ys : List ℕ) → list_any (λ y. x == y) (xs ++ x ∷ ys) ≡ true
has_it x [] ys = or_left _ _ (eq-eqb x x refl)
has_it x (y ∷ xs) ys = or_right (x == y) _ (has_it x xs ys)

same_test : (x p : ℕ) (xs ys : List ℕ) → (x == p) ≡ true → list_any (λ y. x == y) (xs ++ p ∷ ys) ≡ true
same_test x p xs ys e = ap (λ q. list_any (λ y. x == y) (xs ++ q ∷ ys)) (sym (eqb-true x p e)) ∙ has_it x xs ys

twice_at : (x : ℕ) (xs : List ℕ) (p : ℕ) (ys : List ℕ) → ((x == p) || list_any (λ y. y == p) xs) ≡ true → (list_any (λ y. y == p) xs ≡ true → is_distinct (xs ++ p ∷ ys) ≡ false)
    → (b : Bool) → (x == p) ≡ b → is_distinct (x ∷ (xs ++ p ∷ ys)) ≡ false
twice_at x xs p ys h rest true e = and_left (not (list_any (λ y. x == y) (xs ++ p ∷ ys))) (is_distinct (xs ++ p ∷ ys)) (not_from_true _ (same_test x p xs ys e))
twice_at x xs p ys h rest false e =
    let later : list_any (λ y. y == p) xs ≡ true = rw e at h in
    and_right (not (list_any (λ y. x == y) (xs ++ p ∷ ys))) (is_distinct (xs ++ p ∷ ys)) (rest later)

twice : (xs : List ℕ) (p : ℕ) (ys : List ℕ) → list_any (λ y. y == p) xs ≡ true → is_distinct (xs ++ p ∷ ys) ≡ false
twice [] p ys h = cc
twice (x ∷ xs) p ys h = twice_at x xs p ys h (λ r. twice xs p ys r) (x == p) refl

not_distinct : (zs : List ℕ) → is_distinct zs ≡ false → where_distinct zs ≡ None
not_distinct zs h = rw h refl

-- one that was chosen before
pub chosen_twice : (xs : List ℕ) (p : ℕ) (os : List (Option ℕ)) → list_any (λ y. y == p) xs ≡ true → option_and_then where_distinct (all_some (map Some xs ++ Some p ∷ os)) ≡ None
chosen_twice xs p os h = rest_of (all_some os) refl
  where
    rest_of : (o : Option (List ℕ)) → all_some os ≡ o → option_and_then where_distinct (all_some (map Some xs ++ Some p ∷ os)) ≡ None
    rest_of None e = rw (missing_after xs (Some p ∷ os) (ap (joined (Some p)) e)) refl
    rest_of (Some ys) e = rw (found_before xs (Some p ∷ os) (p ∷ ys) (ap (joined (Some p)) e)) (not_distinct (xs ++ p ∷ ys) (twice xs p ys h))

-- one that is no column
pub chosen_missing : (xs : List ℕ) (os : List (Option ℕ)) → option_and_then where_distinct (all_some (map Some xs ++ None ∷ os)) ≡ None
chosen_missing xs os = rw (one_missing xs os) refl

-- all of them
pub chosen_all : (xs : List ℕ) → is_distinct xs ≡ true → option_and_then where_distinct (all_some (map Some xs)) ≡ Some xs
chosen_all xs h = rw (all_found xs, h) refl

other_test : (x : ℕ) (xs : List ℕ) (p : ℕ) → list_any (λ y. x == y) xs ≡ false → (x == p) ≡ false → list_any (λ y. x == y) (xs ++ p ∷ []) ≡ false
other_test x xs p h e = list_any-append (λ y. x == y) xs (p ∷ []) ∙ or_from _ _ h (or_from _ _ e refl)

-- one more that is new
pub still_distinct : (xs : List ℕ) (p : ℕ) → is_distinct xs ≡ true → list_any (λ y. y == p) xs ≡ false → is_distinct (xs ++ p ∷ []) ≡ true
still_distinct [] p d h = refl
still_distinct (x ∷ xs) p d h =
    let both = and_parts (not (list_any (λ y. x == y) xs)) (is_distinct xs) d in
    let new = or_parts (x == p) (list_any (λ y. y == p) xs) h in
    and_from _ _ (not_from_false _ (other_test x xs p (not-true _ both.0) new.0)) (still_distinct xs p both.1 new.1)

-- all places, one by one
pub one_place_more : (a n j : ℕ) → a + n ≡ j → range_with_len a (n + 1) ≡ range_with_len a n ++ j ∷ []
one_place_more a n j h = sym (map_same (range_with_len a (n + 1))) ∙ (map-range_with_len_more (λ (x : ℕ). x) a n j h ∙ ap (λ (xs : List ℕ). xs ++ j ∷ []) (map_same (range_with_len a n)))
  where
    map_same : (xs : List ℕ) → map (λ x. x) xs ≡ xs
    map_same [] = refl
    map_same (x ∷ xs) = ap (λ (ys : List ℕ). x ∷ ys) (map_same xs)

-- a list with the element at a place in sight, under two maps
pub parted : {X Y Z : Type 0} (g : Y → Z) (h : X → Y) (xs : List X) (i : ℕ) (x : X) → i < length xs → x ≡ get_or xs i x
    → map g (map h xs) ≡ map g (map h (take i xs)) ++ g (h x) ∷ map g (map h (drop (i + 1) xs))
parted {X = X} g h xs i x lt is =
    ap (λ (ys : List X). map g (map h ys)) (sym (take-append-drop i xs) ∙ ap (λ (ys : List X). take i xs ++ ys) (drop-item xs i x lt is))
    ∙ (ap (map g) (map-append h (take i xs) (x ∷ drop (i + 1) xs)) ∙ map-append g (map h (take i xs)) (h x ∷ map h (drop (i + 1) xs)))

pub one_more_name : {X Y Z : Type 0} (g : Y → Z) (h : X → Y) (xs : List X) (i : ℕ) (x : X) → i < length xs → x ≡ get_or xs i x
    → map g (map h (take (i + 1) xs)) ≡ map g (map h (take i xs)) ++ g (h x) ∷ []
one_more_name {X = X} g h xs i x lt is =
    ap (λ (ys : List X). map g (map h ys)) (take_more xs i x lt ∙ ap (λ (y : X). take i xs ++ y ∷ []) (sym is))
    ∙ (ap (map g) (map-append h (take i xs) (x ∷ [])) ∙ map-append g (map h (take i xs)) (h x ∷ []))

some_name : {X : Type 0} (h : X → List ℕ) (xs : List X) (i : ℕ) → i < length xs → 0 < length (map h xs)
some_name h xs i lt = omega (arith, length-map xs h, lt)

pub name_missing : {X : Type 0} (cs : List Column) (h : X → List ℕ) (xs : List X) (i : ℕ) (x : X) (places : List ℕ) → i < length xs → x ≡ get_or xs i x
    → map (place_of cs) (map h (take i xs)) ≡ map Some places → place_of cs (h x) ≡ None → chosen cs (map h xs) ≡ None
name_missing cs h xs i x places lt is found e =
    chosen_names cs (map h xs) (some_name h xs i lt)
    ∙ rw (parted (place_of cs) h xs i x lt is, found, e) (chosen_missing places (map (place_of cs) (map h (drop (i + 1) xs))))

pub name_twice : {X : Type 0} (cs : List Column) (h : X → List ℕ) (xs : List X) (i : ℕ) (x : X) (places : List ℕ) (p : ℕ) → i < length xs → x ≡ get_or xs i x
    → map (place_of cs) (map h (take i xs)) ≡ map Some places → place_of cs (h x) ≡ Some p → list_any (λ y. y == p) places ≡ true → chosen cs (map h xs) ≡ None
name_twice cs h xs i x places p lt is found e again =
    chosen_names cs (map h xs) (some_name h xs i lt)
    ∙ rw (parted (place_of cs) h xs i x lt is, found, e) (chosen_twice places p (map (place_of cs) (map h (drop (i + 1) xs))) again)

pub names_all : {X : Type 0} (cs : List Column) (h : X → List ℕ) (xs : List X) (i : ℕ) (places : List ℕ) → 0 < length xs → length xs ≤ i
    → map (place_of cs) (map h (take i xs)) ≡ map Some places → is_distinct places ≡ true → chosen cs (map h xs) ≡ Some places
names_all cs h xs i places some all found d =
    chosen_names cs (map h xs) (some_name h xs 0 some)
    ∙ rw (sym (ap (λ ys. map (place_of cs) (map h ys)) (take_all i xs all)) ∙ found) (chosen_all places d)
