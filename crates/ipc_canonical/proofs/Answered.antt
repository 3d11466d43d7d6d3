-- The rows and entries of a written batch pass what is asked of what is visible.
use Rattle.std.specs.Prelude.{◌==◌, not, nat_lt, nat_le, ◌||◌}
use Rattle.std.specs.List.{AllByRecursion, AllPass, list_all, list_any}
use Rattle.std.proofs.Common.{◌≡◌, ℕ, ◌+◌, ◌≤◌, Bool, true, false, List, [], ◌∷◌, ◌++◌, Some, None, Ok, refl, ◌∙◌}
use Rattle.std.proofs.lemmas.Bool.{and_parts, and_from, or_from, leb-true, le-ltb, eqb-true}
use Rattle.std.proofs.lemmas.List.Sums.{list_all-from_AllPass}
use Rattle.arrow_schema.specs.Column.{Column, PlainSchema, column, columns_of, no_column, and_column}
use Rattle.cells.specs.Cell.{Cell, cells_of}
use Rattle.cells.specs.declared.limits.TheConstants.{MAX_ROW_WEIGHT, MAX_TABLE_WEIGHT}
use Rattle.cells.specs.Fit.{each_fits}
use Rattle.cells.specs.Row.{is_row, row_fits}
use Rattle.cells.specs.Weight.{row_weight, table_weight}
use Rattle.facts.specs.Checks.{when, first_some}
use Rattle.facts.specs.laws.Checks.{first_some-after}
use Rattle.ipc_message.specs.declared.fault.Fault.TheVariants.{DictionaryIndex, NotUtf8, NullForbidden, TooHeavy}
use Rattle.ipc_message.specs.Raw.{RawBatch}
use Rattle.columns.specs.Array.{Array, Arrays, no_array, and_array, slots_in, first_array}
use Rattle.columns.specs.Tests.{arrays_at, every_array}
use Rattle.columns.specs.CellAt.{rows_in}
use Rattle.columns.specs.Visible.{visible_in, names_no_entry, is_no_text, is_forbidden}
use Rattle.columns.specs.Alone.{alone}
use Rattle.arrays.specs.Checks.{batch_arrays, array_checks, slot_checks, are_too_heavy}
use Rattle.arrays.specs.Dictionaries.{entry_checks, entries_read}
use Rattle.ipc_canonical.proofs.Checked.{none_found}

-- ---- rows

light_rows : (s : PlainSchema) (rows : List (List Cell)) → list_all (is_row s) rows ≡ true → list_any (λ row. nat_lt MAX_ROW_WEIGHT (row_weight s row)) rows ≡ false
unfolding is_row
light_rows s [] all = refl
light_rows s (row ∷ rows) all =
    let p = and_parts (is_row s row) (list_all (is_row s) rows) all in
    let q = and_parts (nat_le (row_weight s row) MAX_ROW_WEIGHT) _ (and_parts (row_fits s row) _ p.0).1 in
    or_from _ _ (le-ltb MAX_ROW_WEIGHT (row_weight s row) (leb-true _ _ q.0)) (light_rows s rows p.1)

rows_fit : (s : PlainSchema) (rows : List (List Cell)) → list_all (is_row s) rows ≡ true → list_all (λ row. each_fits (columns_of s.columns) (cells_of row)) rows ≡ true
unfolding is_row
rows_fit s [] all = refl
rows_fit s (row ∷ rows) all =
    let p = and_parts (is_row s row) (list_all (is_row s) rows) all in
    and_from _ _ (and_parts (row_fits s row) _ p.0).0 (rows_fit s rows p.1)

pub fit_of_rows : (s : PlainSchema) (rows : List (List Cell)) → AllPass (is_row s) rows → list_all (λ row. each_fits (columns_of s.columns) (cells_of row)) rows ≡ true
fit_of_rows s rows all = rows_fit s rows (list_all-from_AllPass (is_row s) rows all)

pub light : (s : PlainSchema) (before : ℕ) (rows : List (List Cell)) → AllPass (is_row s) rows → before + table_weight s rows ≤ MAX_TABLE_WEIGHT → are_too_heavy s before rows ≡ false
light s before rows all weighs = or_from _ _ (light_rows s rows (list_all-from_AllPass (is_row s) rows all)) (le-ltb MAX_TABLE_WEIGHT (before + table_weight s rows) weighs)

pub slots_pass : (s : PlainSchema) (before n : ℕ) (xs : Arrays) → list_any names_no_entry (visible_in (columns_of s.columns) xs n) ≡ false → list_any is_no_text (visible_in (columns_of s.columns) xs n) ≡ false
    → list_any is_forbidden (visible_in (columns_of s.columns) xs n) ≡ false → are_too_heavy s before (rows_in (columns_of s.columns) xs n) ≡ false → first_some (slot_checks s before n xs) ≡ None
slots_pass s before n xs a b c d =
    let seen = visible_in (columns_of s.columns) xs n in
    none_found
    ((list_any names_no_entry seen, DictionaryIndex)
    ∷ (list_any is_no_text seen, NotUtf8)
    ∷ (list_any is_forbidden seen, NullForbidden)
    ∷ (are_too_heavy s before (rows_in (columns_of s.columns) xs n), TooHeavy)
    ∷ [])
    (or_from _ _ a (or_from _ _ b (or_from _ _ c (or_from _ _ d refl))))

-- ---- entries

pub entries_are : (c : Column) (b : RawBatch) (bytes : List ℕ) (a : Array) (xs : Arrays) → batch_arrays (alone c) b bytes [] ≡ xs → first_array xs ≡ a → first_some (array_checks (alone c) b bytes xs) ≡ None
    → list_any is_no_text (visible_in (alone c) xs b.length) ≡ false → entries_read c b bytes ≡ Ok a
unfolding entry_checks
entries_are c b bytes a xs e is first texts =
    let text : Bool = list_any is_no_text (visible_in (alone c) xs b.length) in
    let none : first_some (array_checks (alone c) b bytes xs ++ when text NotUtf8 ∷ []) ≡ None =
    first_some-after (array_checks (alone c) b bytes xs) (when text NotUtf8 ∷ []) first ∙ none_found ((text, NotUtf8) ∷ []) (or_from _ _ texts refl) in
    rw (e, is, none) refl

is_equal : (b : Bool) → (not b || false) ≡ false → b ≡ true
is_equal true h = refl
is_equal false h = cc

-- as many slots as rows
pub one_count : (a : Array) (n : ℕ) → list_any (λ x. not (slots_in x == n)) (a ∷ []) ≡ false → slots_in a ≡ n
one_count a n h = eqb-true _ _ (is_equal (slots_in a == n) h)

-- the first array of a batch is the one of its first column
pub first_few : (most : ℕ) (c : Column) (a : Array) → AllByRecursion (λ t. slots_in t.array ≤ most) (every_array (and_column c no_column) (and_array a no_array)) → slots_in a ≤ most
unfolding arrays_at
first_few most (column name nullable kind None pairs) a all = all.0
first_few most (column name nullable kind (Some index) pairs) a all = all.0
