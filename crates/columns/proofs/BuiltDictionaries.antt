-- The dictionaries of written arrays: each is written as a batch of its entries, one to a row.
use Rattle.std.specs.Prelude.{◌&&◌}
use Rattle.std.specs.List.{AllByRecursion, AllPass, flat_map, list_all}
use Rattle.std.proofs.Common.{◌≡◌, ℕ, ◌+◌, ◌≤◌, Bool, true, false, List, [], ◌∷◌, ◌++◌, map, length, sum_by, Some, None, refl, arith, ap, sym, ◌∙◌, subst}
use Rattle.std.proofs.lemmas.Bool.{and_parts, and_from, not-true}
use Rattle.std.proofs.lemmas.List.{map-append}
use Rattle.std.proofs.lemmas.List.Concat.{flat_map-cons}
use Rattle.std.proofs.lemmas.List.Sums.{sum_by-cons, list_all-from_AllPass}
use Rattle.arrow_schema.specs.Column.{Kind, Column, Columns, nulls, lists, large_lists, fixed_lists, structs, column, no_column, and_column}
use Rattle.arrow_schema.specs.Limits.{is_nested, has_flat_dictionary}
use Rattle.arrow_schema.specs.Preorder.{preorder_all}
use Rattle.cells.specs.Cell.{Cell, cells_of}
use Rattle.cells.specs.Dictionary.{entries_of}
use Rattle.cells.specs.Fit.{null_or, fits, fits_kind, each_fits}
use Rattle.cells.specs.Weight.{weight, kind_weight, parts_weight}
use Rattle.columns.specs.Alone.{cells_weight, own_column, own_array, IsBuiltAlone}
use Rattle.columns.specs.Array.{Array, Arrays, no_array, and_array, array_list, dictionary_in}
use Rattle.columns.specs.Buffers.{value_column, typed_dictionaries, dictionaries_of}
use Rattle.columns.specs.Buildable.{are_nulls_or_fit, is_null_or_entry, names_entries, can_build, can_build_below, can_build_rows, has_each_part}
use Rattle.columns.specs.Built.{built, built_kind, built_parts, first_cell}
use Rattle.columns.specs.Layouts.{own_dictionary_arrays, dictionary_arrays}
use Rattle.columns.specs.Tests.{Typed, typed, arrays_at, arrays_below, every_array}
use Rattle.columns.proofs.BuiltShape.{parts_of_rows, each_of_rows}
use Rattle.columns.proofs.EachBuilt.{all_of_each, parts_each}
use Rattle.columns.proofs.Pieces.{entries_weigh}

-- ---- only a dictionary column has a dictionary

kind_alone : (k : Kind) (cells : List Cell) → dictionary_in (built_kind k cells) ≡ no_array
unfolding built
kind_alone nulls cells = refl
kind_alone _ cells = refl

-- the arrays of some dictionaries, each by itself
abbrev pub arrays_apart : List Typed → List (List Array)
arrays_apart ts = map (λ t. t.array ∷ []) ts

none_there : (name : List ℕ) (nullable : Bool) (kind : Kind) (a : Array) → dictionary_in a ≡ no_array → (c : Column) → typed_dictionaries (typed c a) ≡ []
none_there name nullable kind a e c = ap (λ (xs : Arrays). map (λ (x : Array). typed (value_column c) x) (array_list xs)) e

own_known : (c : Column) (cells : List Cell) → own_dictionary_arrays (typed c (built c cells)) ≡ arrays_apart (typed_dictionaries (typed c (built c cells)))
unfolding built
own_known (column name nullable kind None pairs) cells =
    ap arrays_apart (sym (none_there name nullable kind (built_kind kind cells) (kind_alone kind cells) (column name nullable kind None pairs)))
own_known (column name nullable kind (Some index) pairs) cells = refl

all_known : (ts : List Typed) → AllByRecursion (λ t. own_dictionary_arrays t ≡ arrays_apart (typed_dictionaries t)) ts → flat_map own_dictionary_arrays ts ≡ arrays_apart (flat_map typed_dictionaries ts)
all_known [] a = refl
all_known (t ∷ ts) a =
    let rest = all_known ts a.1 in
    flat_map-cons own_dictionary_arrays t ts
    ∙ ap (λ (xs : List (List Array)). xs ++ flat_map own_dictionary_arrays ts) a.0
    ∙ ap (λ (xs : List (List Array)). arrays_apart (typed_dictionaries t) ++ xs) rest
    ∙ sym (map-append (λ (u : Typed). u.array ∷ []) (typed_dictionaries t) (flat_map typed_dictionaries ts))
    ∙ ap arrays_apart (sym (flat_map-cons typed_dictionaries t ts))

pub dictionaries_known : (cs : Columns) (rows : List (List Cell)) → can_build_rows cs rows ≡ true
    → dictionary_arrays cs (built_parts cs rows) ≡ arrays_apart (dictionaries_of cs (built_parts cs rows))
dictionaries_known cs rows can =
    all_known (every_array cs (built_parts cs rows))
    (each_of_rows (λ t. own_dictionary_arrays t ≡ arrays_apart (typed_dictionaries t)) (cells_weight cs rows) (λ c cells pass can small. own_known c cells) cs rows can (omega arith))

-- ---- entries, one to a row

abbrev pub rows_of : List Cell → List (List Cell)
rows_of cells = map (λ x. x ∷ []) cells

firsts : (cells : List Cell) → map first_cell (rows_of cells) ≡ cells
firsts [] = refl
firsts (x ∷ xs) = ap (λ (ys : List Cell). x ∷ ys) (firsts xs)

each_has : (c : Column) (cells : List Cell) → list_all (has_each_part (and_column c no_column)) (rows_of cells) ≡ true
each_has c [] = refl
each_has c (x ∷ xs) = each_has c xs

each_row_fits : (k : Kind) (cells : List Cell) → are_nulls_or_fit k cells ≡ true → list_all (λ row. each_fits (and_column (column [] true k None []) no_column) (cells_of row)) (rows_of cells) ≡ true
unfolding fits
each_row_fits k [] fit = refl
each_row_fits k (x ∷ xs) fit =
    let p = and_parts (null_or true (fits_kind k) x) (list_all (null_or true (fits_kind k)) xs) fit in
    and_from _ _ (and_from _ _ p.0 refl) (each_row_fits k xs p.1)

rows_weigh : (c : Column) (cells : List Cell) → cells_weight (and_column c no_column) (rows_of cells) ≡ sum_by (weight c) cells
unfolding weight
rows_weigh c [] = refl
rows_weigh c (x ∷ xs) =
    let rest = rows_weigh c xs in
    let w : List Cell → ℕ = λ row. parts_weight (and_column c no_column) (cells_of row) in
    let left : sum_by w ((x ∷ []) ∷ rows_of xs) ≡ weight c x + 0 + sum_by w (rows_of xs) = sum_by-cons w (x ∷ []) (rows_of xs) in
    let right : sum_by (weight c) (x ∷ xs) ≡ weight c x + sum_by (weight c) xs = sum_by-cons (weight c) x xs in
    omega (arith, rest, left, right)

entries_alone : (most : ℕ) (k : Kind) (es : List Cell) → are_nulls_or_fit k es ≡ true → can_build_below k es ≡ true → sum_by (kind_weight k) es ≤ most
    → IsBuiltAlone most (typed (column [] true k None []) (built_kind k es))
unfolding built can_build weight
entries_alone most k es fit can small =
    let c : Column = column [] true k None [] in
    let back = firsts es in
    record {
      rows = rows_of es;
      array = ap (λ (xs : List Cell). and_array (built_kind k xs) no_array) (sym back);
      can = and_from _ _ (each_has c es) (and_from _ _ (subst (λ (xs : List Cell). (are_nulls_or_fit k xs && can_build_below k xs) ≡ true) (sym back) (and_from _ _ fit can)) refl);
      fit = each_row_fits k es fit;
      weighs = omega (arith, rows_weigh c es, small);
    }

own_alone : (most : ℕ) (c : Column) (cells : List Cell) → can_build c cells ≡ true → sum_by (weight c) cells ≤ most → AllByRecursion (IsBuiltAlone most) (typed_dictionaries (typed c (built c cells)))
unfolding built can_build weight
own_alone most (column name nullable kind None pairs) cells can small =
    subst (λ (ts : List Typed). AllByRecursion (IsBuiltAlone most) ts) (sym (none_there name nullable kind (built_kind kind cells) (kind_alone kind cells) (column name nullable kind None pairs))) tt
own_alone most (column name nullable kind (Some index) pairs) cells can small =
    let es : List Cell = entries_of cells in
    let later : Bool = are_nulls_or_fit kind es && can_build_below kind es in
    let last : later ≡ true = (and_parts (names_entries index (length es)) later (and_parts (list_all is_null_or_entry cells) (names_entries index (length es) && later) can).1).1 in
    let p = and_parts (are_nulls_or_fit kind es) (can_build_below kind es) last in
    let weighs = entries_weigh (kind_weight kind) [] cells in
    (entries_alone most kind es p.0 p.1 (omega (arith, weighs, small)), tt)

pub dictionaries_alone : (most : ℕ) (cs : Columns) (rows : List (List Cell)) → can_build_rows cs rows ≡ true → cells_weight cs rows ≤ most
    → AllByRecursion (IsBuiltAlone most) (dictionaries_of cs (built_parts cs rows))
dictionaries_alone most cs rows can small =
    all_of_each (IsBuiltAlone most) typed_dictionaries (every_array cs (built_parts cs rows))
    (each_of_rows (λ t. AllByRecursion (IsBuiltAlone most) (typed_dictionaries t)) most (λ c cells pass can small. own_alone most c cells can small) cs rows can small)

-- ---- a dictionary has none of its own

abbrev pub HasNone : Typed → Type 0
HasNone t = dictionary_arrays (own_column t) (own_array t) ≡ []

none_below : (k : Kind) (a : Array) → is_nested k ≡ false → arrays_below k a ≡ []
unfolding arrays_at
none_below (lists item) a flat = cc
none_below (large_lists item) a flat = cc
none_below (fixed_lists size item) a flat = cc
none_below (structs columns) a flat = cc
none_below _ a flat = refl

flat_has_none : (k : Kind) (a : Array) → is_nested k ≡ false → HasNone (typed (column [] true k None []) a)
unfolding arrays_at
flat_has_none k a flat = ap (λ (ts : List Typed). flat_map own_dictionary_arrays ((typed (column [] true k None []) a ∷ ts) ++ [])) (none_below k a flat)

own_none : (c : Column) (cells : List Cell) → has_flat_dictionary c ≡ true → AllByRecursion HasNone (typed_dictionaries (typed c (built c cells)))
unfolding built
own_none (column name nullable kind None pairs) cells flat =
    subst (λ (ts : List Typed). AllByRecursion HasNone ts) (sym (none_there name nullable kind (built_kind kind cells) (kind_alone kind cells) (column name nullable kind None pairs))) tt
own_none (column name nullable kind (Some index) pairs) cells flat = (flat_has_none kind (built_kind kind (entries_of cells)) (not-true (is_nested kind) flat), tt)

pub dictionaries_flat : (cs : Columns) (rows : List (List Cell)) → AllPass has_flat_dictionary (preorder_all cs) → can_build_rows cs rows ≡ true
    → AllByRecursion HasNone (dictionaries_of cs (built_parts cs rows))
dictionaries_flat cs rows flat can =
    all_of_each HasNone typed_dictionaries (every_array cs (built_parts cs rows))
    (parts_each has_flat_dictionary (cells_weight cs rows) (λ t. AllByRecursion HasNone (typed_dictionaries t)) (λ c cells pass can small. own_none c cells pass) cs rows
    (list_all-from_AllPass has_flat_dictionary (preorder_all cs) flat) (parts_of_rows cs rows can) (omega arith))
