-- Rows are tested and weighed one by one.
use Rattle.std.proofs.Common.{◌≡◌, ℕ, ◌+◌, ◌≤◌, ◌<◌, ◌⊎◌, inl, inr, Bool, true, false, ◌&&◌, List, [], ◌∷◌, map, length, drop, get_or, refl, ap, sym, ◌∙◌, arith}
use Rattle.std.specs.Prelude.{Some, None, Result, Ok, Err, not, nat_le, if◌then◌else◌}
use Rattle.std.specs.List.{list_all, position_from}
use Rattle.std.proofs.lemmas.Bool.{le-leb, lt-leb, and_from, and_parts}
use Rattle.std.proofs.lemmas.List.{at_drop_all, drop-map, drop_more}
use Rattle.std.proofs.lemmas.List.Sums.{sum_by-cons, AllPass-from_list_all}
use Rattle.std.proofs.lemmas.Iterator.Adapters.{position_from-zero}
use Rattle.arrow_schema.specs.Column.{PlainSchema}
use Rattle.arrow_schema.specs.Limits.{IsWithinLimits}
use Rattle.cells.specs.Cell.{Cell}
use Rattle.cells.specs.Weight.{row_weight, table_weight, capped_weight}
use Rattle.cells.specs.Row.{is_row, accepted_weight}
use Rattle.values.specs.Table.{first_unfit, weighed, table_from, IsTable, too_heavy, unfit}

-- what a loop answers from here: the weight of all rows as it is reported, or the first that is not taken
abbrev pub reported_from : PlainSchema → ℕ → ℕ → List (List Cell) → Result ℕ ℕ
reported_from s i total [] = Ok total
reported_from s i total (row ∷ rows) = if is_row s row then reported_from s (i + 1) (capped_weight (total + row_weight s row)) rows else Err i

taken : (b : Bool) (x : Result ℕ ℕ) (i w : ℕ) → (if b then x else Err i) ≡ Ok w → (b ≡ true) × (x ≡ Ok w)
taken true x i w h = (refl, h)
taken false x i w h = cc

refused : (b : Bool) (x : Result ℕ ℕ) (i k : ℕ) → (if b then x else Err i) ≡ Err k → ((b ≡ true) × (x ≡ Err k)) ⊎ ((b ≡ false) × (i ≡ k))
refused true x i k h = inl (refl, h)
refused false x i k h = inr (refl, cc)

-- all rows are taken
pub all_taken : (s : PlainSchema) (i t w : ℕ) (rows : List (List Cell)) → reported_from s i t rows ≡ Ok w → list_all (is_row s) rows ≡ true
all_taken s i t w [] h = refl
all_taken s i t w (r ∷ rs) h =
    let step = taken (is_row s r) (reported_from s (i + 1) (capped_weight (t + row_weight s r)) rs) i w h in
    and_from _ _ step.0 (all_taken s (i + 1) (capped_weight (t + row_weight s r)) w rs step.1)

none_found : (s : PlainSchema) (i : ℕ) (rows : List (List Cell)) → list_all (is_row s) rows ≡ true → position_from (λ row. not (is_row s row)) i rows ≡ None
none_found s i [] h = refl
none_found s i (r ∷ rs) h =
    let both = and_parts (is_row s r) (list_all (is_row s) rs) h in
    rw both.0 (none_found s (i + 1) rs both.1)

first_found : (s : PlainSchema) (i t k : ℕ) (rows : List (List Cell)) → reported_from s i t rows ≡ Err k → position_from (λ row. not (is_row s row)) i rows ≡ Some k
first_found s i t k [] h = cc
first_found s i t k (r ∷ rs) h =
    elim (refused (is_row s r) (reported_from s (i + 1) (capped_weight (t + row_weight s r)) rs) i k h) [
      | inl e ↦ rw e.0 (first_found s (i + 1) (capped_weight (t + row_weight s r)) k rs e.1)
      | inr e ↦ rw (e.0, e.1) refl
    ]

capped_sum : (s : PlainSchema) (i t w : ℕ) (rows : List (List Cell)) → capped_weight t ≡ t → reported_from s i t rows ≡ Ok w → w ≡ capped_weight (t + table_weight s rows)
capped_sum s i t w [] small h =
    let same : t ≡ w = cc in
    omega (arith, same, small)
capped_sum s i t w (r ∷ rs) small h =
    let step = taken (is_row s r) (reported_from s (i + 1) (capped_weight (t + row_weight s r)) rs) i w h in
    let others = capped_sum s (i + 1) (capped_weight (t + row_weight s r)) w rs (omega arith) step.1 in
    omega (arith, others, sum_by-cons (row_weight s) r rs)

-- no row is refused exactly where all are taken
all_from_none : (s : PlainSchema) (i : ℕ) (rows : List (List Cell)) → position_from (λ row. not (is_row s row)) i rows ≡ None → list_all (is_row s) rows ≡ true
all_from_none s i [] h = refl
all_from_none s i (r ∷ rs) h = from (is_row s r) h (all_from_none s (i + 1) rs) where
  from : (b : Bool) → (if not b then Some i else position_from (λ row. not (is_row s row)) (i + 1) rs) ≡ None
      → (position_from (λ row. not (is_row s row)) (i + 1) rs ≡ None → list_all (is_row s) rs ≡ true) → (b && list_all (is_row s) rs) ≡ true
  from true e others = others e
  from false e others = cc

pub all_rows : (s : PlainSchema) (rows : List (List Cell)) → first_unfit s rows ≡ None → list_all (is_row s) rows ≡ true
unfolding first_unfit
all_rows s rows h = all_from_none s 0 rows (sym (position_from-zero (λ row. not (is_row s row)) rows) ∙ h)

pub none_unfit : (s : PlainSchema) (rows : List (List Cell)) → list_all (is_row s) rows ≡ true → first_unfit s rows ≡ None
unfolding first_unfit
none_unfit s rows all = position_from-zero (λ row. not (is_row s row)) rows ∙ none_found s 0 rows all

-- the answer of a loop over all rows
pub no_unfit : (s : PlainSchema) (w : ℕ) (rows : List (List Cell)) → reported_from s 0 0 rows ≡ Ok w → first_unfit s rows ≡ None
no_unfit s w rows h = none_unfit s rows (all_taken s 0 0 w rows h)

pub reported_all : (s : PlainSchema) (w : ℕ) (rows : List (List Cell)) → reported_from s 0 0 rows ≡ Ok w → w ≡ capped_weight (table_weight s rows)
reported_all s w rows h = omega (arith, capped_sum s 0 0 w rows (omega arith) h)

pub is_unfit : (s : PlainSchema) (k : ℕ) (rows : List (List Cell)) → reported_from s 0 0 rows ≡ Err k → table_from s rows ≡ Err (unfit k)
unfolding first_unfit table_from
is_unfit s k rows h = ap (weighed s rows) (position_from-zero (λ row. not (is_row s row)) rows ∙ first_found s 0 0 k rows h)

-- the loop goes on after a row that is taken, and stops at one that is not
step_on : (s : PlainSchema) (i t w : ℕ) (row : List Cell) (rows : List (List Cell)) → Some w ≡ accepted_weight s row → reported_from s i t (row ∷ rows) ≡ reported_from s (i + 1) (capped_weight (t + w)) rows
step_on s i t w row rows h = on (is_row s row) (row_weight s row) h where
  on : (b : Bool) (v : ℕ) → Some w ≡ (if b then Some v else None) → (if b then reported_from s (i + 1) (capped_weight (t + v)) rows else Err i) ≡ reported_from s (i + 1) (capped_weight (t + w)) rows
  on true v e = let same : v ≡ w = cc in ap (λ (u : ℕ). reported_from s (i + 1) (capped_weight (t + u)) rows) same
  on false v e = cc

step_off : (s : PlainSchema) (i t : ℕ) (row : List Cell) (rows : List (List Cell)) → None ≡ accepted_weight s row → reported_from s i t (row ∷ rows) ≡ Err i
step_off s i t row rows h = off (is_row s row) (row_weight s row) h where
  off : (b : Bool) (v : ℕ) → None ≡ (if b then Some v else None) → (if b then reported_from s (i + 1) (capped_weight (t + v)) rows else Err i) ≡ Err i
  off true v e = cc
  off false v e = refl

pub goes_on : (s : PlainSchema) (all : List (List Cell)) (i t w : ℕ) (row : List Cell) → drop i all ≡ row ∷ drop (i + 1) all → Some w ≡ accepted_weight s row
    → reported_from s i t (drop i all) ≡ reported_from s (i + 1) (capped_weight (t + w)) (drop (i + 1) all)
goes_on s all i t w row d h = ap (reported_from s i t) d ∙ step_on s i t w row (drop (i + 1) all) h

pub stops : (s : PlainSchema) (all : List (List Cell)) (i t : ℕ) (row : List Cell) → drop i all ≡ row ∷ drop (i + 1) all → None ≡ accepted_weight s row
    → reported_from s i t (drop i all) ≡ Err i
stops s all i t row d h = ap (reported_from s i t) d ∙ step_off s i t row (drop (i + 1) all) h

pub ends : (s : PlainSchema) (all : List (List Cell)) (i t : ℕ) → length all ≤ i → reported_from s i t (drop i all) ≡ Ok t
ends s all i t le = at_drop_all (reported_from s i t) all i le

-- the rows of a list of rows
pub next_of : {A : Type 0} (f : A → List Cell) (rows : List A) (i : ℕ) (x : A) → i < length rows → x ≡ get_or rows i x → drop i (map f rows) ≡ f x ∷ drop (i + 1) (map f rows)
next_of {A = A} f rows i x lt is =
    drop-map f i rows
    ∙ (ap (λ (xs : List A). map f xs) (drop_more rows i x lt ∙ ap (λ (y : A). y ∷ drop (i + 1) rows) (sym is))
    ∙ ap (λ (xs : List (List Cell)). f x ∷ xs) (sym (drop-map f (i + 1) rows)))

-- what they weigh together decides
pub is_light : (s : PlainSchema) (w : ℕ) (rows : List (List Cell)) → first_unfit s rows ≡ None → w ≡ capped_weight (table_weight s rows) → w ≤ 268435456
    → table_from s rows ≡ Ok (record { schema = s; rows = rows })
unfolding table_from
is_light s w rows none e le =
    let light : nat_le (table_weight s rows) 268435456 ≡ true = le-leb _ _ (omega arith) in
    rw (none, light) refl

pub is_heavy : (s : PlainSchema) (w : ℕ) (rows : List (List Cell)) → first_unfit s rows ≡ None → w ≡ capped_weight (table_weight s rows) → 268435456 < w
    → table_from s rows ≡ Err too_heavy
unfolding table_from
is_heavy s w rows none e lt =
    let heavy : nat_le (table_weight s rows) 268435456 ≡ false = lt-leb _ _ (omega arith) in
    rw (none, heavy) refl

pub is_table : (s : PlainSchema) (w : ℕ) (rows : List (List Cell)) → IsWithinLimits s → first_unfit s rows ≡ None → w ≡ capped_weight (table_weight s rows) → w ≤ 268435456
    → IsTable (record { schema = s; rows = rows })
is_table s w rows limits none e le = record {
  schema = limits;
  rows = AllPass-from_list_all (is_row s) rows (all_rows s rows none);
  weight = omega arith;
}
