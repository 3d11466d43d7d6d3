-- Conditions, bound one after another.
use Rattle.std.proofs.Common.{◌≡◌, ℕ, ◌+◌, ◌<◌, ◌≤◌, List, [], ◌∷◌, ◌++◌, map, length, take, drop, get_or, refl, sym, ap, ◌∙◌}
use Rattle.std.proofs.lemmas.List.{take_all, map-append}
use Rattle.facts.specs.laws.Lists.{take-item}
use Rattle.query.proofs.Choosing.{parted}
use Rattle.std.specs.Prelude.{Result, Ok, Err}
use Rattle.query.specs.declared.errors.QueryError.{QueryError}
use Rattle.query.specs.declared.errors.QueryError.TheVariants.{UnknownColumn, BadCondition, NotComparable, OutOfMemory}
use Rattle.query.specs.Bound.{SelectionRefusal, unknown_column, bad_condition, not_comparable}
use Rattle.query.specs.Selection.{all_ok}
use Rattle.query.specs.View.{Reports}

pub all_bound : {X Y E : Type 0} (f : X → Y) (xs : List X) → all_ok {E = E} (map (λ x. Ok (f x)) xs) ≡ Ok (map f xs)
all_bound {E = E} f [] = refl
all_bound {E = E} f (x ∷ xs) = rw (all_bound {E = E} f xs) refl

pub one_refused : {X Y E : Type 0} (f : X → Y) (xs : List X) (e : E) (rs : List (Result Y E)) → all_ok (map (λ x. Ok (f x)) xs ++ Err e ∷ rs) ≡ Err e
one_refused f [] e rs = refl
one_refused f (x ∷ xs) e rs = rw (one_refused f xs e rs) refl

-- what one reports is what all report, where that is their first refusal
pub reports_first : {X Y : Type 0} (e : QueryError) (r : Result X SelectionRefusal) (all : Result Y SelectionRefusal) → ((x : SelectionRefusal) → r ≡ Err x → all ≡ Err x) → Reports e r → Reports e all
reports_first UnknownColumn r all first h = first unknown_column h
reports_first BadCondition r all first h = first bad_condition h
reports_first NotComparable r all first h = first not_comparable h
reports_first OutOfMemory r all first h = tt

-- the first refusal among conditions
first_refused : {X Y Z B : Type 0} (g : Y → Result Z SelectionRefusal) (h : X → Y) (view : B → Z) (xs : List X) (i : ℕ) (x : X) (bs : List B) → i < length xs → x ≡ get_or xs i x
    → map g (map h (take i xs)) ≡ map (λ b. Ok (view b)) bs → (e : SelectionRefusal) → g (h x) ≡ Err e → all_ok (map g (map h xs)) ≡ Err e
first_refused g h view xs i x bs lt is so_far e here =
    rw (parted g h xs i x lt is, so_far, here) (one_refused view bs e (map g (map h (drop (i + 1) xs))))

pub report_first : {X Y Z B : Type 0} (g : Y → Result Z SelectionRefusal) (h : X → Y) (view : B → Z) (xs : List X) (i : ℕ) (x : X) (bs : List B) → i < length xs → x ≡ get_or xs i x
    → map g (map h (take i xs)) ≡ map (λ b. Ok (view b)) bs → (e : QueryError) → Reports e (g (h x)) → Reports e (all_ok (map g (map h xs)))
report_first g h view xs i x bs lt is so_far e r = reports_first e (g (h x)) (all_ok (map g (map h xs))) (first_refused g h view xs i x bs lt is so_far) r

pub all_of_them : {X Y Z B : Type 0} (g : Y → Result Z SelectionRefusal) (h : X → Y) (view : B → Z) (xs : List X) (i : ℕ) (bs : List B) → length xs ≤ i
    → map g (map h (take i xs)) ≡ map (λ b. Ok (view b)) bs → all_ok (map g (map h xs)) ≡ Ok (map view bs)
all_of_them {X = X} g h view xs i bs all so_far = ap all_ok (sym (ap (λ (ys : List X). map g (map h ys)) (take_all i xs all)) ∙ so_far) ∙ all_bound view bs

-- one more condition is bound
pub one_more_bound : {X Y Z B : Type 0} (g : Y → Result Z SelectionRefusal) (h : X → Y) (view : B → Z) (xs : List X) (i : ℕ) (x : X) (bs : List B) (b : B) → i < length xs → x ≡ get_or xs i x
    → map g (map h (take i xs)) ≡ map (λ b. Ok (view b)) bs → g (h x) ≡ Ok (view b) → map g (map h (take (i + 1) xs)) ≡ map (λ b. Ok (view b)) (bs ++ b ∷ [])
one_more_bound {X = X} g h view xs i x bs b lt is so_far here =
    ap (λ (ys : List X). map g (map h ys)) (take-item xs i x lt is)
    ∙ ap (map g) (map-append h (take i xs) (x ∷ []))
    ∙ map-append g (map h (take i xs)) (h x ∷ [])
    ∙ rw (so_far, here) (sym (map-append (λ b. Ok (view b)) bs (b ∷ [])))
