-- The arrays that rows are written as: how many slots each has, how many nodes and buffers there are, and how long these are.
use Rattle.std.specs.Prelude.{◌==◌, not, nat_lt, ◌&&◌}
use Rattle.std.specs.List.{AllByRecursion, flat_map, list_all, list_any}
use Rattle.std.proofs.Common.{◌≡◌, ℕ, ◌+◌, ◌*◌, ◌/◌, ◌≤◌, Bool, true, false, List, [], ◌∷◌, map, length, sum_by, Some, None, refl, arith, ap, sym, ◌∙◌, length-append}
use Rattle.std.proofs.lemmas.Bool.{and_parts, or_from, eq-eqb, le-ltb}
use Rattle.std.proofs.lemmas.List.{length-map}
use Rattle.std.proofs.lemmas.List.Concat.{flat_map-cons}
use Rattle.std.proofs.lemmas.List.Sums.{sum_by-cons, sum_by-append, sum_by-le-sum_by}
use Rattle.byteorder.specs.Endian.{little_bytes}
use Rattle.byteorder.specs.Numbers.{length-bytes_low_first}
use Rattle.bitmap.specs.Bits.{packed}
use Rattle.bitmap.specs.laws.Packed.{length-packed_in}
use Rattle.arrow_schema.specs.Column.{DateKind, days, date_milliseconds, Kind, Column, Columns, nulls, booleans, integers, dates, timestamps, texts, large_texts, binaries, large_binaries, fixed_binaries, lists, large_lists, fixed_lists, structs, column, no_column, and_column, columns_of, PlainSchema, is_bit_width}
use Rattle.arrow_schema.specs.Preorder.{preorder, preorder_below, preorder_all}
use Rattle.cells.specs.Cell.{Cell, cells_of}
use Rattle.cells.specs.Dictionary.{entries_of, item_list, part_list}
use Rattle.cells.specs.Fit.{fits, date_bits}
use Rattle.cells.specs.Nulls.{is_there}
use Rattle.cells.specs.Weight.{weight, kind_weight, parts_weight, row_weight, table_weight}
use Rattle.columns.specs.Alone.{cells_weight}
use Rattle.columns.specs.Array.{Array, Arrays, slots_in, items_in, children_in, first_array, other_arrays, array_list, no_array}
use Rattle.columns.specs.Buffers.{node_of, nodes_of, buffers_of, kind_buffers, column_buffers}
use Rattle.columns.specs.Buildable.{are_nulls_or_fit, is_null_or_entry, names_entries, can_build, can_build_below, can_build_parts, can_build_rows, has_each_part}
use Rattle.columns.specs.Built.{is_set, validity_of, integer_bytes, fixed_bytes, contents_of, fixed_items, offsets_of, sums_from, entry_index, index_bytes, built, built_kind, built_parts, first_cell, other_cells}
use Rattle.columns.specs.Tests.{Typed, arrays_at, arrays_below, every_array, has_short_part, has_short_child}
use Rattle.columns.proofs.BuiltSound.{slots_of_built}
use Rattle.columns.proofs.EachBuilt.{HoldsOfBuilt, all_true, none_of_all, parts_each}
use Rattle.columns.proofs.Found.{every_size, every_width, length-integer}
use Rattle.columns.specs.laws.Integers.{width_cases}
use Rattle.columns.proofs.Pieces.{count_weigh}
use Rattle.columns.proofs.ReadArrays.{as_many_buffers, buffers_with, same_all}
use Rattle.columns.proofs.Spans.{HaveWidth, all_width, count_sums}
use Rattle.columns.proofs.Weights.{size_below, some_weight, contents_weigh}

-- ---- slots

pub all_slots : (cs : Columns) (rows : List (List Cell)) (n : ℕ) → length rows ≡ n → list_any (λ a. not (slots_in a == n)) (array_list (built_parts cs rows)) ≡ false
unfolding built
all_slots no_column rows n e = refl
all_slots (and_column c cs) rows n e =
    let here : slots_in (built c (map first_cell rows)) ≡ n = slots_of_built c (map first_cell rows) ∙ length-map rows first_cell ∙ e in
    or_from _ _ (ap not (eq-eqb _ _ here)) (all_slots cs (map other_cells rows) n (length-map rows other_cells ∙ e))

none_shorter : (cs : Columns) (rows : List (List Cell)) (n : ℕ) → length rows ≡ n → list_any (λ child. nat_lt (slots_in child) n) (array_list (built_parts cs rows)) ≡ false
unfolding built
none_shorter no_column rows n e = refl
none_shorter (and_column c cs) rows n e =
    let here : slots_in (built c (map first_cell rows)) ≡ n = slots_of_built c (map first_cell rows) ∙ length-map rows first_cell ∙ e in
    or_from _ _ (le-ltb _ _ (omega (arith, here))) (none_shorter cs (map other_cells rows) n (length-map rows other_cells ∙ e))

kind_children : (k : Kind) (cells : List Cell) → are_nulls_or_fit k cells ≡ true → has_short_part k (built_kind k cells) ≡ false
unfolding built fits
kind_children (fixed_lists size item) cells fit =
    let slots = slots_of_built item (flat_map (fixed_items size) cells) in
    let count = all_width (fixed_items size) size cells (every_size size (fits item) cells fit) in
    le-ltb (slots_in (built item (flat_map (fixed_items size) cells))) (length cells * size) (omega (arith, slots, count))
kind_children (structs columns) cells fit = none_shorter columns (map part_list cells) (length cells) (length-map cells part_list)
kind_children _ cells fit = refl

own_children : (c : Column) (cells : List Cell) → can_build c cells ≡ true → has_short_child c (built c cells) ≡ false
unfolding built can_build
own_children (column name nullable kind None pairs) cells can = kind_children kind cells (and_parts (are_nulls_or_fit kind cells) (can_build_below kind cells) can).0
own_children (column name nullable kind (Some index) pairs) cells can = refl

pub parts_of_rows : (cs : Columns) (rows : List (List Cell)) → can_build_rows cs rows ≡ true → can_build_parts cs rows ≡ true
parts_of_rows cs rows can = (and_parts (list_all (has_each_part cs) rows) (can_build_parts cs rows) can).1

-- of every array, whatever the cells weigh
pub each_of_rows : (P : Typed → Type 0) (most : ℕ) → HoldsOfBuilt (λ c. true) most P → (cs : Columns) (rows : List (List Cell)) → can_build_rows cs rows ≡ true → cells_weight cs rows ≤ most
    → AllByRecursion P (every_array cs (built_parts cs rows))
each_of_rows P most h cs rows can small = parts_each (λ c. true) most P h cs rows (all_true (preorder_all cs)) (parts_of_rows cs rows can) small

pub none_short_children : (cs : Columns) (rows : List (List Cell)) → can_build_rows cs rows ≡ true → list_any (λ t. has_short_child t.column t.array) (every_array cs (built_parts cs rows)) ≡ false
none_short_children cs rows can =
    none_of_all (λ t. has_short_child t.column t.array) (every_array cs (built_parts cs rows))
    (each_of_rows (λ t. has_short_child t.column t.array ≡ false) (cells_weight cs rows) (λ c cells pass can small. own_children c cells can) cs rows can (omega arith))

-- ---- counts

pub as_many_nodes : (cs : Columns) (xs : Arrays) → length (nodes_of cs xs) ≡ length (nodes_of cs no_array)
as_many_nodes cs xs =
    length-map (every_array cs xs) node_of
    ∙ sym (length-map (every_array cs xs) (λ (t : Typed). t.column))
    ∙ ap length (same_all cs xs no_array)
    ∙ length-map (every_array cs no_array) (λ (t : Typed). t.column)
    ∙ sym (length-map (every_array cs no_array) node_of)

pub buffers_alike : (cs : Columns) (xs : Arrays) → length (buffers_of cs xs) ≡ length (buffers_of cs no_array)
buffers_alike cs xs = as_many_buffers (every_array cs xs) (every_array cs no_array) (same_all cs xs no_array)

mutual
  unfolding arrays_at preorder

  few_at : (c : Column) (a : Array) → length (arrays_at c a) ≤ length (preorder c)
  few_at (column name nullable kind None pairs) a = let below = few_below kind a in omega (arith, below)
  few_at (column name nullable kind (Some index) pairs) a = omega arith

  few_below : (k : Kind) (a : Array) → length (arrays_below k a) ≤ length (preorder_below k)
  few_below (lists item) a = few_at item (items_in a)
  few_below (large_lists item) a = few_at item (items_in a)
  few_below (fixed_lists size item) a = few_at item (items_in a)
  few_below (structs columns) a = few_of columns (children_in a)
  few_below _ a = omega arith

  few_of : (cs : Columns) (xs : Arrays) → length (every_array cs xs) ≤ length (preorder_all cs)
  few_of no_column xs = omega arith
  few_of (and_column c cs) xs =
      let here = few_at c (first_array xs) in
      let rest = few_of cs (other_arrays xs) in
      omega (arith, here, rest, length-append (arrays_at c (first_array xs)) (every_array cs (other_arrays xs)), length-append (preorder c) (preorder_all cs))

pub few_nodes : (cs : Columns) (xs : Arrays) → length (nodes_of cs xs) ≤ length (preorder_all cs)
few_nodes cs xs = let few = few_of cs xs in omega (arith, few, length-map (every_array cs xs) node_of)

kind_few : (k : Kind) (a : Array) → length (kind_buffers k a) ≤ 3
kind_few nulls a = omega arith
kind_few _ a = omega arith

column_few : (c : Column) (a : Array) → length (column_buffers c a) ≤ 3
column_few (column name nullable kind None pairs) a = kind_few kind a
column_few (column name nullable kind (Some index) pairs) a = omega arith

few_with : (ts : List Typed) → length (flat_map buffers_with ts) ≤ 3 * length ts
few_with [] = omega arith
few_with (t ∷ ts) =
    let rest = few_with ts in
    let here = column_few t.column t.array in
    let whole = ap length (flat_map-cons buffers_with t ts) ∙ length-append (buffers_with t) (flat_map buffers_with ts) in
    omega (arith, rest, here, whole)

pub few_buffers : (cs : Columns) (xs : Arrays) → length (buffers_of cs xs) ≤ 3 * length (nodes_of cs xs)
few_buffers cs xs = let few = few_with (every_array cs xs) in omega (arith, few, length-map (every_array cs xs) node_of)

-- ---- how many slots, and how many bytes

own_slots : (most : ℕ) (c : Column) (cells : List Cell) → sum_by (weight c) cells ≤ most → slots_in (built c cells) ≤ most
own_slots most c cells small = omega (arith, slots_of_built c cells, count_weigh (weight c) (some_weight c) cells, small)

pub slots_few : (most : ℕ) (cs : Columns) (rows : List (List Cell)) → can_build_rows cs rows ≡ true → cells_weight cs rows ≤ most
    → AllByRecursion (λ t. slots_in t.array ≤ most) (every_array cs (built_parts cs rows))
slots_few most cs rows can small = each_of_rows (λ t. slots_in t.array ≤ most) most (λ c cells pass can small. own_slots most c cells small) cs rows can small

-- a row weighs more than its cells
pub cells_below : (s : PlainSchema) (rows : List (List Cell)) → cells_weight (columns_of s.columns) rows ≤ table_weight s rows
cells_below s rows = sum_by-le-sum_by (λ row. parts_weight (columns_of s.columns) (cells_of row)) (row_weight s) rows (λ row. omega arith)

-- values of 8 bytes at most
of_eight : {X : Type 0} (f : X → List ℕ) → ((x : X) → length (f x) ≤ 8) → (xs : List X) → length (flat_map f xs) ≤ 8 * length xs
of_eight f h [] = let e : length (flat_map f []) ≡ 0 = refl in omega (arith, e)
of_eight f h (x ∷ xs) =
    let rest = of_eight f h xs in
    let here = h x in
    let whole = ap length (flat_map-cons f x xs) ∙ length-append (f x) (flat_map f xs) in
    omega (arith, rest, here, whole)

validity_small : (cells : List Cell) → length (validity_of cells) ≤ length cells
validity_small cells = by_all (list_all is_there cells) refl
  where
    by_all : (b : Bool) → list_all is_there cells ≡ b → length (validity_of cells) ≤ length cells
    by_all true h = rw h (omega arith)
    by_all false h = rw h (let count = length-packed_in ((length (map is_there cells) + 7) / 8) (map is_there cells) in omega (arith, count, length-map cells is_there))

bits_small : (cells : List Cell) → length (packed (map is_set cells)) ≤ length cells
bits_small cells = let count = length-packed_in ((length (map is_set cells) + 7) / 8) (map is_set cells) in omega (arith, count, length-map cells is_set)

offsets_small : (w : ℕ) → w ≤ 8 → (f : Cell → ℕ) (cells : List Cell) → length (offsets_of w (map f cells)) ≤ 8 * length cells + 8
offsets_small w le f cells =
    let each = of_eight (little_bytes w) (λ n. omega (arith, length-bytes_low_first 0 w n, le)) (sums_from 0 (map f cells)) in
    omega (arith, each, count_sums 0 (map f cells), length-map cells f)

integers_small : (w : ℕ) → w ≤ 8 → (cells : List Cell) → length (flat_map (integer_bytes w) cells) ≤ 8 * length cells
integers_small w le cells = of_eight (integer_bytes w) (λ x. omega (arith, length-integer w x, le)) cells

-- values of a width weigh more than it
wide_small : (f : Cell → List ℕ) (width : ℕ) (cells : List Cell) → HaveWidth f width cells → length (flat_map f cells) ≤ sum_by (λ (x : Cell). 1 + width) cells
wide_small f width [] h = let e : length (flat_map f []) ≡ 0 = refl in omega (arith, e)
wide_small f width (x ∷ xs) h =
    let rest = wide_small f width xs h.1 in
    let whole = ap length (flat_map-cons f x xs) ∙ length-append (f x) (flat_map f xs) in
    let sums : sum_by (λ (x : Cell). 1 + width) (x ∷ xs) ≡ 1 + width + sum_by (λ (x : Cell). 1 + width) xs = sum_by-cons (λ (x : Cell). 1 + width) x xs in
    omega (arith, rest, whole, h.0, sums)

date_narrow : (unit : DateKind) → date_bits unit / 8 ≤ 8
date_narrow days = omega arith
date_narrow date_milliseconds = omega arith

one : (a : List ℕ) → sum_by length (a ∷ []) ≡ length a
one a = omega (arith, sum_by-cons (λ (xs : List ℕ). length xs) a [])

two : (a b : List ℕ) → sum_by length (a ∷ b ∷ []) ≡ length a + length b
two a b = omega (arith, sum_by-cons (λ (xs : List ℕ). length xs) a (b ∷ []), one b)

three : (a b c : List ℕ) → sum_by length (a ∷ b ∷ c ∷ []) ≡ length a + length b + length c
three a b c = omega (arith, sum_by-cons (λ (xs : List ℕ). length xs) a (b ∷ c ∷ []), two b c)

binary_small : (w : ℕ) → w ≤ 8 → (k : Kind) (cells : List Cell) → ((x : Cell) → length (contents_of x) ≤ kind_weight k x)
    → sum_by length (validity_of cells ∷ offsets_of w (map (λ c. length (contents_of c)) cells) ∷ flat_map contents_of cells ∷ []) ≤ 9 * length cells + 8 + sum_by (kind_weight k) cells
binary_small w le k cells h =
    omega (arith, three (validity_of cells) (offsets_of w (map (λ c. length (contents_of c)) cells)) (flat_map contents_of cells), validity_small cells, offsets_small w le (λ c. length (contents_of c)) cells, size_below contents_of (kind_weight k) h cells)

kind_small : (k : Kind) (cells : List Cell) → are_nulls_or_fit k cells ≡ true → can_build_below k cells ≡ true
    → sum_by length (kind_buffers k (built_kind k cells)) ≤ 9 * length cells + 8 + sum_by (kind_weight k) cells
unfolding built can_build fits weight
kind_small nulls cells fit can = omega arith
kind_small booleans cells fit can = omega (arith, two (validity_of cells) (packed (map is_set cells)), validity_small cells, bits_small cells)
kind_small (integers bits signed) cells fit can =
    let width = (width_cases bits can).2 in
    omega (arith, two (validity_of cells) (flat_map (integer_bytes (bits / 8)) cells), validity_small cells, integers_small (bits / 8) width cells)
kind_small (dates unit) cells fit can =
    omega (arith, two (validity_of cells) (flat_map (integer_bytes (date_bits unit / 8)) cells), validity_small cells, integers_small (date_bits unit / 8) (date_narrow unit) cells)
kind_small (timestamps unit timezone) cells fit can = omega (arith, two (validity_of cells) (flat_map (integer_bytes 8) cells), validity_small cells, integers_small 8 (omega arith) cells)
kind_small texts cells fit can = binary_small 4 (omega arith) texts cells (λ x. omega (arith, contents_weigh x))
kind_small large_texts cells fit can = binary_small 8 (omega arith) large_texts cells (λ x. omega (arith, contents_weigh x))
kind_small binaries cells fit can = binary_small 4 (omega arith) binaries cells (λ x. omega (arith, contents_weigh x))
kind_small large_binaries cells fit can = binary_small 8 (omega arith) large_binaries cells (λ x. omega (arith, contents_weigh x))
kind_small (fixed_binaries width) cells fit can =
    let wide = wide_small (fixed_bytes width) width cells (every_width width cells fit) in
    omega (arith, two (validity_of cells) (flat_map (fixed_bytes width) cells), validity_small cells, wide)
kind_small (lists item) cells fit can =
    omega (arith, two (validity_of cells) (offsets_of 4 (map (λ c. length (item_list c)) cells)), validity_small cells, offsets_small 4 (omega arith) (λ c. length (item_list c)) cells)
kind_small (large_lists item) cells fit can =
    omega (arith, two (validity_of cells) (offsets_of 8 (map (λ c. length (item_list c)) cells)), validity_small cells, offsets_small 8 (omega arith) (λ c. length (item_list c)) cells)
kind_small (fixed_lists size item) cells fit can = omega (arith, one (validity_of cells), validity_small cells)
kind_small (structs columns) cells fit can = omega (arith, one (validity_of cells), validity_small cells)

own_small : (most : ℕ) (c : Column) (cells : List Cell) → can_build c cells ≡ true → sum_by (weight c) cells ≤ most → sum_by length (column_buffers c (built c cells)) ≤ 10 * most + 8
unfolding built can_build weight
own_small most (column name nullable kind None pairs) cells can small =
    let p = and_parts (are_nulls_or_fit kind cells) (can_build_below kind cells) can in
    let here = kind_small kind cells p.0 p.1 in
    let count = count_weigh (weight (column name nullable kind None pairs)) (some_weight (column name nullable kind None pairs)) cells in
    omega (arith, here, count, small)
own_small most (column name nullable kind (Some index) pairs) cells can small =
    let c : Column = column name nullable kind (Some index) pairs in
    let es : List Cell = entries_of cells in
    let later : Bool = are_nulls_or_fit kind es && can_build_below kind es in
    let names : names_entries index (length es) ≡ true = (and_parts (names_entries index (length es)) later (and_parts (list_all is_null_or_entry cells) (names_entries index (length es) && later) can).1).0 in
    let wide : is_bit_width index.bits ≡ true = (and_parts (is_bit_width index.bits) _ names).0 in
    let width : index.bits / 8 ≤ 8 = (width_cases index.bits wide).2 in
    let w : ℕ = index.bits / 8 in
    let each = of_eight (index_bytes index es) (λ x. omega (arith, length-bytes_low_first 0 w (entry_index es x), width)) cells in
    let count = count_weigh (weight c) (some_weight c) cells in
    omega (arith, two (validity_of cells) (flat_map (index_bytes index es) cells), validity_small cells, each, count, small)

total_small : (most : ℕ) (ts : List Typed) → AllByRecursion (λ t. sum_by length (column_buffers t.column t.array) ≤ most) ts → sum_by length (flat_map buffers_with ts) ≤ length ts * most
total_small most [] a = omega arith
total_small most (t ∷ ts) a =
    let rest = total_small most ts a.1 in
    let whole : sum_by length (flat_map buffers_with (t ∷ ts)) ≡ sum_by length (buffers_with t) + sum_by length (flat_map buffers_with ts) =
    ap (λ (bs : List (List ℕ)). sum_by length bs) (flat_map-cons buffers_with t ts) ∙ sum_by-append (λ (xs : List ℕ). length xs) (buffers_with t) (flat_map buffers_with ts) in
    omega (arith, rest, whole, a.0)

pub bytes_few : (most : ℕ) (cs : Columns) (rows : List (List Cell)) → can_build_rows cs rows ≡ true → cells_weight cs rows ≤ most
    → sum_by length (buffers_of cs (built_parts cs rows)) ≤ length (nodes_of cs (built_parts cs rows)) * (10 * most + 8)
bytes_few most cs rows can small =
    let each = each_of_rows (λ t. sum_by length (column_buffers t.column t.array) ≤ 10 * most + 8) most (λ c cells pass can small. own_small most c cells can small) cs rows can small in
    let total = total_small (10 * most + 8) (every_array cs (built_parts cs rows)) each in
    let count : length (nodes_of cs (built_parts cs rows)) * (10 * most + 8) ≡ length (every_array cs (built_parts cs rows)) * (10 * most + 8) =
    ap (λ (n : ℕ). n * (10 * most + 8)) (length-map (every_array cs (built_parts cs rows)) node_of) in
    omega (arith, total, count)
