-- What rows weigh, by the spans of their columns.
use Rattle.std.specs.Prelude.{◌||◌, nat_lt, if◌then◌else◌}
use Rattle.std.specs.List.{list_any, range_with_len}
use Rattle.std.proofs.Common.{Some, None, ◌≡◌, ℕ, zero, suc, ◌+◌, ◌-◌, ◌≤◌, ◌<◌, Bool, true, false, List, map, refl, sym, ap, arith, ◌∙◌}
use Rattle.std.proofs.Math.Bool.{or_assoc, or-false}
use Rattle.std.proofs.lemmas.Bool.{le-ltb, lt-ltb, or_right}
use Rattle.arrow_schema.specs.Column.{Column, Columns, no_column, and_column, columns_of, PlainSchema}
use Rattle.cells.specs.declared.limits.TheConstants.{MAX_ROW_WEIGHT, MAX_TABLE_WEIGHT}
use Rattle.cells.specs.Cell.{Cell, Cells}
use Rattle.cells.specs.laws.Cells.{cells_list}
use Rattle.cells.specs.Weight.{parts_weight, weight, row_weight, table_weight, capped_weight}
use Rattle.columns.specs.Array.{Arrays, first_array, other_arrays}
use Rattle.columns.specs.CellAt.{cell_at, part_cells, row_at, rows_in}
use Rattle.arrays.specs.Checks.{are_too_heavy}
use Rattle.arrays.specs.inner.Weights.{sum_from, parts_span_weight, rows_weight, weight_within}
use Rattle.arrays.proofs.SpanWeights.{next, split}
use Rattle.arrays.proofs.KindWeights.{parts_more}

-- rows weigh as much as the spans of their columns
rows_spanned : (s : PlainSchema) (arrays : Arrays) (start n : ℕ) → sum_from (row_weight s) (row_at (columns_of s.columns) arrays) start n ≡ rows_weight (columns_of s.columns) arrays start n
rows_spanned s arrays start n =
    let cs : Columns = columns_of s.columns in
    parts_more cs arrays (row_weight s) (row_at cs arrays) start n (λ i. ap (λ (xs : Cells). 1 + parts_weight cs xs) (cells_list (part_cells cs arrays i)))

pub rows_spanned_from : (s : PlainSchema) (columns : List Column) (arrays : Arrays) (start n w : ℕ) → s.columns ≡ columns → w ≡ capped_weight (rows_weight (columns_of columns) arrays start n)
    → w ≡ capped_weight (table_weight s (map (row_at (columns_of s.columns) arrays) (range_with_len start n)))
rows_spanned_from s columns arrays start n w same is =
    is ∙ ap (λ (cs : List Column). capped_weight (rows_weight (columns_of cs) arrays start n)) (sym same) ∙ sym (ap capped_weight (rows_spanned s arrays start n))

one_row : (s : PlainSchema) (arrays : Arrays) (i : ℕ) → row_weight s (row_at (columns_of s.columns) arrays i) ≡ rows_weight (columns_of s.columns) arrays i 1
one_row s arrays i =
    let one = next (row_weight s) (row_at (columns_of s.columns) arrays) i 0 in
    let all = rows_spanned s arrays i 1 in
    let none : sum_from (row_weight s) (row_at (columns_of s.columns) arrays) (i + 1) 0 ≡ 0 = refl in
    omega (arith, one, all, none)

pub any_row : {X : Type 0} (p : X → Bool) (q : ℕ → Bool) (f : ℕ → X) (start n : ℕ) → ((i : ℕ) → p (f i) ≡ q i) → list_any p (map f (range_with_len start n)) ≡ list_any q (range_with_len start n)
any_row p q f start zero h = refl
any_row p q f start (suc n) h = λ j. h start j || any_row p q f (start + 1) n h j

abbrev heavy : PlainSchema → List Cell → Bool
heavy s row = nat_lt MAX_ROW_WEIGHT (row_weight s row)

abbrev pub is_heavy : Columns → Arrays → ℕ → Bool
is_heavy columns arrays i = nat_lt MAX_ROW_WEIGHT (rows_weight columns arrays i 1)

rows_heavy : (s : PlainSchema) (arrays : Arrays) (rows : ℕ) → list_any (heavy s) (rows_in (columns_of s.columns) arrays rows) ≡ list_any (is_heavy (columns_of s.columns) arrays) (range_with_len 0 rows)
rows_heavy s arrays rows = any_row (heavy s) (is_heavy (columns_of s.columns) arrays) (row_at (columns_of s.columns) arrays) 0 rows (λ i. ap (nat_lt MAX_ROW_WEIGHT) (one_row s arrays i))

pub heavy_together : (s : PlainSchema) (before : ℕ) (arrays : Arrays) (rows : ℕ) → MAX_TABLE_WEIGHT < before + rows_weight (columns_of s.columns) arrays 0 rows
    → are_too_heavy s before (rows_in (columns_of s.columns) arrays rows) ≡ true
heavy_together s before arrays rows h =
    let whole : table_weight s (rows_in (columns_of s.columns) arrays rows) ≡ rows_weight (columns_of s.columns) arrays 0 rows = rows_spanned s arrays 0 rows in
    let over : nat_lt MAX_TABLE_WEIGHT (before + table_weight s (rows_in (columns_of s.columns) arrays rows)) ≡ true = rw whole (lt-ltb MAX_TABLE_WEIGHT (before + rows_weight (columns_of s.columns) arrays 0 rows) h) in
    or_right (list_any (heavy s) (rows_in (columns_of s.columns) arrays rows)) _ over

pub heavy_alone : (s : PlainSchema) (before : ℕ) (arrays : Arrays) (rows : ℕ) → before + rows_weight (columns_of s.columns) arrays 0 rows ≤ MAX_TABLE_WEIGHT
    → are_too_heavy s before (rows_in (columns_of s.columns) arrays rows) ≡ list_any (is_heavy (columns_of s.columns) arrays) (range_with_len 0 rows)
heavy_alone s before arrays rows h =
    let whole : table_weight s (rows_in (columns_of s.columns) arrays rows) ≡ rows_weight (columns_of s.columns) arrays 0 rows = rows_spanned s arrays 0 rows in
    let within : nat_lt MAX_TABLE_WEIGHT (before + table_weight s (rows_in (columns_of s.columns) arrays rows)) ≡ false = rw whole (le-ltb MAX_TABLE_WEIGHT (before + rows_weight (columns_of s.columns) arrays 0 rows) h) in
    rw within (or-false (list_any (heavy s) (rows_in (columns_of s.columns) arrays rows)) ∙ rows_heavy s arrays rows)

pub heavy_found : (s : PlainSchema) (before : ℕ) (arrays : Arrays) (rows : ℕ) → list_any (is_heavy (columns_of s.columns) arrays) (range_with_len 0 rows) ≡ true
    → are_too_heavy s before (rows_in (columns_of s.columns) arrays rows) ≡ true
heavy_found s before arrays rows h = rw (rows_heavy s arrays rows ∙ h) refl

-- ---- what is answered of them

pub none_within : (s : PlainSchema) (before : ℕ) (rows : List (List Cell)) → are_too_heavy s before rows ≡ true → None ≡ weight_within s before rows
none_within s before rows h = rw h refl

pub some_within : (s : PlainSchema) (before : ℕ) (arrays : Arrays) (rows w : ℕ) → are_too_heavy s before (rows_in (columns_of s.columns) arrays rows) ≡ false
    → w ≡ rows_weight (columns_of s.columns) arrays 0 rows → Some w ≡ weight_within s before (rows_in (columns_of s.columns) arrays rows)
some_within s before arrays rows w h is = rw h (ap Some (is ∙ sym (rows_spanned s arrays 0 rows)))

pub found_none : (heavy : Bool) (w : ℕ) → None ≡ (if heavy then None else Some w) → heavy ≡ true
found_none true w h = refl
found_none false w h = absurd cc

pub found_some : (heavy : Bool) (w v : ℕ) → Some v ≡ (if heavy then None else Some w) → (heavy ≡ false) × (v ≡ w)
found_some true w v h = absurd cc
found_some false w v h = (refl, cc)

-- ---- by halves

parts_halved : (cs : Columns) (arrays : Arrays) (start m n : ℕ)
    → parts_span_weight cs arrays start (m + n) ≡ parts_span_weight cs arrays start m + parts_span_weight cs arrays (start + m) n
unfolding parts_span_weight
parts_halved no_column arrays start m n = refl
parts_halved (and_column c cs) arrays start m n =
    let here = split (weight c) (cell_at c (first_array arrays)) start m n in
    let others = parts_halved cs (other_arrays arrays) start m n in
    omega (arith, here, others)

rows_halved : (cs : Columns) (arrays : Arrays) (start m n : ℕ) → rows_weight cs arrays start (m + n) ≡ rows_weight cs arrays start m + rows_weight cs arrays (start + m) n
rows_halved cs arrays start m n = omega (arith, parts_halved cs arrays start m n)

-- no row weighs more than all
pub none_heavy : (cs : Columns) (arrays : Arrays) (start n : ℕ) → rows_weight cs arrays start n ≤ MAX_ROW_WEIGHT → list_any (is_heavy cs arrays) (range_with_len start n) ≡ false
none_heavy cs arrays start zero le = refl
none_heavy cs arrays start (suc n) le =
    let e : 1 + n ≡ suc n = omega arith in
    let parts : rows_weight cs arrays start (1 + n) ≡ rows_weight cs arrays start 1 + rows_weight cs arrays (start + 1) n = rows_halved cs arrays start 1 n in
    let all : rows_weight cs arrays start (1 + n) ≤ MAX_ROW_WEIGHT = rw e le in
    let here : is_heavy cs arrays start ≡ false = le-ltb MAX_ROW_WEIGHT (rows_weight cs arrays start 1) (omega (arith, parts, all)) in
    rw here (none_heavy cs arrays (start + 1) n (omega (arith, parts, all)))

pub no_rows : (cs : Columns) (arrays : Arrays) (start : ℕ) → rows_weight cs arrays start 0 ≡ 0
no_rows cs arrays start =
    let e : start + 0 ≡ start = omega arith in
    let both : rows_weight cs arrays start (0 + 0) ≡ rows_weight cs arrays start 0 + rows_weight cs arrays (start + 0) 0 = rows_halved cs arrays start 0 0 in
    omega (arith, rw e at both)

-- of one row it is known
pub one_heavy : (cs : Columns) (arrays : Arrays) (start n : ℕ) → n < 2 → MAX_ROW_WEIGHT < rows_weight cs arrays start n → list_any (is_heavy cs arrays) (range_with_len start n) ≡ true
one_heavy cs arrays start zero lt over = absurd (omega (arith, no_rows cs arrays start, over))
one_heavy cs arrays start (suc zero) lt over = let here : is_heavy cs arrays start ≡ true = lt-ltb MAX_ROW_WEIGHT (rows_weight cs arrays start 1) over in rw here refl
one_heavy cs arrays start (suc (suc n)) lt over = absurd (omega (arith, lt))

any_halved : (p : ℕ → Bool) (start m n : ℕ) → list_any p (range_with_len start (m + n)) ≡ (list_any p (range_with_len start m) || list_any p (range_with_len (start + m) n))
any_halved p start zero n =
    let e : 0 + n ≡ n = omega arith in
    let d : start + 0 ≡ start = omega arith in
    rw (e, d) refl
any_halved p start (suc m) n =
    let e : suc m + n ≡ suc (m + n) = omega arith in
    let d : start + suc m ≡ start + 1 + m = omega arith in
    rw (e, d) (ap (λ (b : Bool). p start || b) (any_halved p (start + 1) m n)
    ∙ sym (or_assoc (p start) (list_any p (range_with_len (start + 1) m)) (list_any p (range_with_len (start + 1 + m) n))))

-- ---- the front part of some rows, and the others

pub rows_cut : (cs : Columns) (arrays : Arrays) (start n m : ℕ) → m ≤ n → rows_weight cs arrays start n ≡ rows_weight cs arrays start m + rows_weight cs arrays (start + m) (n - m)
rows_cut cs arrays start n m le = let e : m + (n - m) ≡ n = omega arith in ap (rows_weight cs arrays start) (sym e) ∙ rows_halved cs arrays start m (n - m)

any_cut : (p : ℕ → Bool) (start n m : ℕ) → m ≤ n → list_any p (range_with_len start n) ≡ (list_any p (range_with_len start m) || list_any p (range_with_len (start + m) (n - m)))
any_cut p start n m le = let e : m + (n - m) ≡ n = omega arith in ap (λ (k : ℕ). list_any p (range_with_len start k)) (sym e) ∙ any_halved p start m (n - m)

pub found_in_front : (p : ℕ → Bool) (start n m : ℕ) (found : Bool) → m ≤ n → found ≡ true → true ≡ list_any p (range_with_len start m) → found ≡ list_any p (range_with_len start n)
found_in_front p start n m found le is front =
    let all : list_any p (range_with_len start n) ≡ true = any_cut p start n m le ∙ rw (← front) refl in
    is ∙ sym all

pub found_behind : (p : ℕ → Bool) (start n m : ℕ) (found : Bool) → m ≤ n → false ≡ list_any p (range_with_len start m) → found ≡ list_any p (range_with_len (start + m) (n - m))
    → found ≡ list_any p (range_with_len start n)
found_behind p start n m found le front behind =
    let all : list_any p (range_with_len start n) ≡ list_any p (range_with_len (start + m) (n - m)) = any_cut p start n m le ∙ rw (← front) refl in
    behind ∙ sym all

-- ---- some rows more

pub rows_after : (cs : Columns) (arrays : Arrays) (start n : ℕ) → rows_weight cs arrays 0 (start + n) ≡ rows_weight cs arrays 0 start + rows_weight cs arrays start n
rows_after cs arrays start n = let z : 0 + start ≡ start = omega arith in rw z at (rows_halved cs arrays 0 start n)

pub any_after : (p : ℕ → Bool) (start n : ℕ) → list_any p (range_with_len 0 (start + n)) ≡ (list_any p (range_with_len 0 start) || list_any p (range_with_len start n))
any_after p start n = let z : 0 + start ≡ start = omega arith in rw z at (any_halved p 0 start n)

-- they weigh no more than all
pub rows_within : (cs : Columns) (arrays : Arrays) (start n rows : ℕ) → start + n ≤ rows → rows_weight cs arrays 0 start + rows_weight cs arrays start n ≤ rows_weight cs arrays 0 rows
rows_within cs arrays start n rows le = omega (arith, rows_cut cs arrays 0 rows (start + n) le, rows_after cs arrays start n)

pub any_within : (p : ℕ → Bool) (start n rows : ℕ) → start + n ≤ rows → list_any p (range_with_len start n) ≡ true → list_any p (range_with_len 0 rows) ≡ true
any_within p start n rows le h =
    let front : list_any p (range_with_len 0 (start + n)) ≡ true = any_after p start n ∙ or_right (list_any p (range_with_len 0 start)) _ h in
    any_cut p 0 rows (start + n) le ∙ rw front refl
