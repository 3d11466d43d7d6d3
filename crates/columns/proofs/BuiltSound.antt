-- The arrays that cells are written as have no short buffer and no bad offset.
use Rattle.std.specs.Prelude.{◌&&◌, ◌||◌, ◌==◌, not, nat_lt}
use Rattle.std.specs.List.{flat_map, list_all, list_any, range_with_len}
use Rattle.std.proofs.Common.{◌≡◌, ℕ, ◌+◌, ◌-◌, ◌*◌, ◌/◌, ◌^◌, ◌<◌, ◌≤◌, Bool, true, false, List, [], ◌∷◌, map, length, Some, None, refl, arith, ap, ◌∙◌}
use Rattle.std.proofs.lemmas.Bool.{and_parts, or_from, or_parts, le-ltb, lt-leb, leb-true, eq-eqb}
use Rattle.std.proofs.lemmas.List.{length-map}
use Rattle.std.proofs.lemmas.List.Folds.{list_any-append}
use Rattle.std.proofs.Math.Bool.{and-false}
use Rattle.facts.specs.laws.Lists.{none_in_range}
use Rattle.byteorder.specs.Endian.{little_bytes}
use Rattle.byteorder.specs.Numbers.{length-bytes_low_first}
use Rattle.bitmap.specs.Bits.{packed, bytes_of}
use Rattle.bitmap.specs.laws.Packed.{length-packed_in}
use Rattle.arrow_schema.specs.Column.{Kind, Column, Columns, nulls, booleans, integers, dates, timestamps, texts, large_texts, binaries, large_binaries, fixed_binaries, lists, large_lists, fixed_lists, structs, column, no_column, and_column}
use Rattle.cells.specs.Cell.{Cell, null}
use Rattle.cells.specs.Dictionary.{entries_of, item_list, part_list}
use Rattle.cells.specs.Fit.{fits, date_bits}
use Rattle.columns.specs.Array.{Array, slots_in, offsets_in, no_array, and_array, Layout, bit_layout, fixed_layout, list_layout, fixed_list_layout, struct_layout, dictionary_layout}
use Rattle.columns.specs.Buildable.{are_nulls_or_fit, small_offset, large_offset, items_fit, can_build, can_build_below, can_build_parts, can_build_rows, has_each_part}
use Rattle.cells.specs.Nulls.{is_there}
use Rattle.columns.specs.Built.{is_set, with_validity, integer_bytes, fixed_bytes, contents_of, fixed_items, offsets_of, sums_from, entry_index, index_bytes, binary_of, list_offsets, built, built_kind, built_parts, first_cell, other_cells}
use Rattle.columns.specs.Buffers.{null_count}
use Rattle.columns.specs.CellAt.{number_at}
use Rattle.columns.specs.Tests.{Typed, arrays_at, arrays_below, every_array, has_short_validity, are_few_offsets, has_short_buffer, is_short, is_negative, are_unordered, has_bad_offsets, is_unordered, counts_wrong}
use Rattle.columns.proofs.Found.{length-integer, every_width}
use Rattle.columns.proofs.Spans.{HaveWidth, have_width, all_width, before, next_before, before_all, offset_at, count_sums}
use Rattle.columns.specs.laws.Rows.{slots_built}

-- ---- buffers that are long enough

validity_long : (cells : List Cell) (layout : Layout) → has_short_validity (with_validity cells layout) ≡ false
validity_long cells layout = by_all (list_all is_there cells) refl
  where
    by_all : (b : Bool) → list_all is_there cells ≡ b → has_short_validity (with_validity cells layout) ≡ false
    by_all true h = rw h refl
    by_all false h =
        let count : length (packed (map is_there cells)) ≡ bytes_of (length (map is_there cells)) = length-packed_in _ (map is_there cells) in
        let same : bytes_of (length (map is_there cells)) ≡ bytes_of (length cells) = ap bytes_of (length-map cells is_there) in
        let short : nat_lt (length (packed (map is_there cells))) (bytes_of (length cells)) ≡ false = le-ltb _ _ (omega (arith, count, same)) in
        rw (h, short) (and-false (not (length (packed (map is_there cells)) == 0)))

values_long : (f : Cell → List ℕ) (w : ℕ) (cells : List Cell) → HaveWidth f w cells → nat_lt (length (flat_map f cells)) (length cells * w) ≡ false
values_long f w cells h = le-ltb _ _ (omega (arith, all_width f w cells h))

bits_long : (p : Cell → Bool) (cells : List Cell) → nat_lt (length (packed (map p cells))) (bytes_of (length cells)) ≡ false
bits_long p cells =
    let count : length (packed (map p cells)) ≡ bytes_of (length (map p cells)) = length-packed_in _ (map p cells) in
    let same : bytes_of (length (map p cells)) ≡ bytes_of (length cells) = ap bytes_of (length-map cells p) in
    le-ltb _ _ (omega (arith, count, same))

offsets_long : (w : ℕ) (cells : List Cell) (sizes : List ℕ) → length sizes ≡ length cells → (not (length cells == 0) && nat_lt (length (offsets_of w sizes)) ((length cells + 1) * w)) ≡ false
offsets_long w cells sizes e =
    let count = all_width (little_bytes w) w (sums_from 0 sizes) (have_width (little_bytes w) w (length-bytes_low_first 0 w) (sums_from 0 sizes)) in
    let sums = count_sums 0 sizes in
    let more : length (sums_from 0 sizes) * w ≡ (length cells + 1) * w = ap (λ (n : ℕ). n * w) (sums ∙ ap (λ (n : ℕ). n + 1) e) in
    rw (le-ltb (length (offsets_of w sizes)) ((length cells + 1) * w) (omega (arith, count, more))) (and-false (not (length cells == 0)))

-- ---- offsets

ordered : {A : Type 0} (f : Cell → List A) (w limit most : ℕ) (cells : List Cell) (a : Array) → slots_in a ≡ length cells
    → ((k : ℕ) → k ≤ length cells → number_at w (offsets_in a) k ≡ before f cells k) → length (flat_map f cells) ≤ limit → limit < 2 ^ (8 * w - 1) → most ≡ length (flat_map f cells)
    → are_unordered w most a ≡ false
ordered f w limit most cells a slots at small below whole =
    let offset : ℕ → ℕ = number_at w (offsets_in a) in
    let n : ℕ = slots_in a in
    let negative : list_any (λ i. is_negative w (offset i)) (range_with_len 0 (n + 1)) ≡ false =
    none_in_range (λ i. is_negative w (offset i)) 0 (n + 1)
    (λ i low high. let o = at i (omega (arith, high, slots)) in let b = before_all f cells i (omega (arith, high, slots)) in lt-leb (2 ^ (8 * w - 1)) (offset i) (omega (arith, o, b, small, below))) in
    let falls : list_any (λ i. nat_lt (offset (i + 1)) (offset i)) (range_with_len 0 n) ≡ false =
    none_in_range (λ i. nat_lt (offset (i + 1)) (offset i)) 0 n
    (λ i low high.
    let o = at i (omega (arith, high, slots)) in
    let p = at (i + 1) (omega (arith, high, slots)) in
    let b = next_before f cells i null (omega (arith, high, slots)) in
    le-ltb (offset (i + 1)) (offset i) (omega (arith, o, p, b))) in
    let last = at n (omega (arith, slots)) in
    let end = before_all f cells n (omega (arith, slots)) in
    let past : nat_lt most (offset n) ≡ false = le-ltb most (offset n) (omega (arith, last, end, whole)) in
    let others : (list_any (λ i. nat_lt (offset (i + 1)) (offset i)) (range_with_len 0 n) || nat_lt most (offset n)) ≡ false = or_from _ _ falls past in
    let all : (list_any (λ i. is_negative w (offset i)) (range_with_len 0 (n + 1)) || (list_any (λ i. nat_lt (offset (i + 1)) (offset i)) (range_with_len 0 n) || nat_lt most (offset n))) ≡ false = or_from _ _ negative others in
    ap (λ (b : Bool). not (n == 0) && b) all ∙ and-false (not (n == 0))

-- ---- every type

abbrev pub is_bad : Typed → Bool
is_bad t = is_short t.column t.array || is_unordered t.column t.array

pub slots_of_built : (c : Column) (cells : List Cell) → slots_in (built c cells) ≡ length cells
unfolding built
slots_of_built (column name nullable kind None pairs) cells = slots_built kind cells
slots_of_built (column name nullable kind (Some index) pairs) cells = refl

-- the offsets of texts, binaries and lists
offsets_fine : {A : Type 0} (f : Cell → List A) (w limit most : ℕ) (cells : List Cell) (a : Array) → slots_in a ≡ length cells → offsets_in a ≡ offsets_of w (map (λ c. length (f c)) cells)
    → length (flat_map f cells) ≤ limit → limit < 2 ^ (8 * w - 1) → limit < 256 ^ w → most ≡ length (flat_map f cells) → (are_few_offsets w a ≡ false) × (are_unordered w most a ≡ false)
offsets_fine f w limit most cells a slots are small below fit whole =
    let sizes : List ℕ = map (λ c. length (f c)) cells in
    let long = offsets_long w cells sizes (length-map cells (λ c. length (f c))) in
    (rw (slots, are) long, ordered f w limit most cells a slots (λ k le. ap (λ (os : List ℕ). number_at w os k) are ∙ offset_at f w cells k le (omega (arith, small, fit))) small below whole)

both : (v b o : Bool) → v ≡ false → b ≡ false → o ≡ false → ((v || b) || o) ≡ false
both v b o hv hb ho = or_from (v || b) o (or_from v b hv hb) ho

kind_fine : (k : Kind) (cells : List Cell) → are_nulls_or_fit k cells ≡ true → can_build_below k cells ≡ true
    → let a : Array = built_kind k cells in ((has_short_validity a || has_short_buffer k a) || has_bad_offsets k a) ≡ false
unfolding built can_build fits
kind_fine nulls cells fit can = refl
kind_fine booleans cells fit can = both _ _ _ (validity_long cells (bit_layout (packed (map is_set cells)))) (bits_long is_set cells) refl
kind_fine (integers bits signed) cells fit can =
    both _ _ _ (validity_long cells (fixed_layout (flat_map (integer_bytes (bits / 8)) cells))) (values_long (integer_bytes (bits / 8)) (bits / 8) cells (have_width (integer_bytes (bits / 8)) (bits / 8) (length-integer (bits / 8)) cells)) refl
kind_fine (dates unit) cells fit can =
    let w : ℕ = date_bits unit / 8 in
    both _ _ _ (validity_long cells (fixed_layout (flat_map (integer_bytes w) cells))) (values_long (integer_bytes w) w cells (have_width (integer_bytes w) w (length-integer w) cells)) refl
kind_fine (timestamps unit timezone) cells fit can =
    both _ _ _ (validity_long cells (fixed_layout (flat_map (integer_bytes 8) cells))) (values_long (integer_bytes 8) 8 cells (have_width (integer_bytes 8) 8 (length-integer 8) cells)) refl
kind_fine texts cells fit can =
    let o = offsets_fine contents_of 4 small_offset (length (flat_map contents_of cells)) cells (built_kind texts cells) refl refl (leb-true _ _ can) (omega arith) (omega arith) refl in
    both _ _ _ (validity_long cells (binary_of 4 cells)) o.0 o.1
kind_fine large_texts cells fit can =
    let o = offsets_fine contents_of 8 large_offset (length (flat_map contents_of cells)) cells (built_kind large_texts cells) refl refl (leb-true _ _ can) (omega arith) (omega arith) refl in
    both _ _ _ (validity_long cells (binary_of 8 cells)) o.0 o.1
kind_fine binaries cells fit can =
    let o = offsets_fine contents_of 4 small_offset (length (flat_map contents_of cells)) cells (built_kind binaries cells) refl refl (leb-true _ _ can) (omega arith) (omega arith) refl in
    both _ _ _ (validity_long cells (binary_of 4 cells)) o.0 o.1
kind_fine large_binaries cells fit can =
    let o = offsets_fine contents_of 8 large_offset (length (flat_map contents_of cells)) cells (built_kind large_binaries cells) refl refl (leb-true _ _ can) (omega arith) (omega arith) refl in
    both _ _ _ (validity_long cells (binary_of 8 cells)) o.0 o.1
kind_fine (fixed_binaries width) cells fit can = both _ _ _ (validity_long cells (fixed_layout (flat_map (fixed_bytes width) cells))) (values_long (fixed_bytes width) width cells (every_width width cells fit)) refl
kind_fine (lists item) cells fit can =
    let p = and_parts (items_fit small_offset cells) _ can in
    let child : Array = built item (flat_map item_list cells) in
    let o = offsets_fine item_list 4 small_offset (slots_in child) cells (built_kind (lists item) cells) refl refl (leb-true _ _ p.0) (omega arith) (omega arith) (slots_of_built item (flat_map item_list cells)) in
    both _ _ _ (validity_long cells (list_layout (list_offsets 4 cells) child)) o.0 o.1
kind_fine (large_lists item) cells fit can =
    let p = and_parts (items_fit large_offset cells) _ can in
    let child : Array = built item (flat_map item_list cells) in
    let o = offsets_fine item_list 8 large_offset (slots_in child) cells (built_kind (large_lists item) cells) refl refl (leb-true _ _ p.0) (omega arith) (omega arith) (slots_of_built item (flat_map item_list cells)) in
    both _ _ _ (validity_long cells (list_layout (list_offsets 8 cells) child)) o.0 o.1
kind_fine (fixed_lists size item) cells fit can = both _ _ _ (validity_long cells (fixed_list_layout (built item (flat_map (fixed_items size) cells)))) refl refl
kind_fine (structs columns) cells fit can = both _ _ _ (validity_long cells (struct_layout (built_parts columns (map part_list cells)))) refl refl

mutual
  unfolding built can_build arrays_at

  pub column_fine : (c : Column) (cells : List Cell) → can_build c cells ≡ true → list_any is_bad (arrays_at c (built c cells)) ≡ false
  column_fine (column name nullable kind None pairs) cells can =
      let p = and_parts (are_nulls_or_fit kind cells) (can_build_below kind cells) can in
      or_from _ _ (kind_fine kind cells p.0 p.1) (below_fine kind cells p.1)
  column_fine (column name nullable kind (Some index) pairs) cells can =
      let es : List Cell = entries_of cells in
      let w : ℕ = index.bits / 8 in
      let indices = values_long (index_bytes index es) w cells (have_width (index_bytes index es) w (λ c. length-bytes_low_first 0 w (entry_index es c)) cells) in
      or_from _ _ (both _ _ _ (validity_long cells (dictionary_layout (flat_map (index_bytes index es) cells) (and_array (built_kind kind es) no_array))) indices refl) refl

  below_fine : (k : Kind) (cells : List Cell) → can_build_below k cells ≡ true → list_any is_bad (arrays_below k (built_kind k cells)) ≡ false
  below_fine (lists item) cells can = column_fine item (flat_map item_list cells) (and_parts (items_fit small_offset cells) _ can).1
  below_fine (large_lists item) cells can = column_fine item (flat_map item_list cells) (and_parts (items_fit large_offset cells) _ can).1
  below_fine (fixed_lists size item) cells can = column_fine item (flat_map (fixed_items size) cells) can
  below_fine (structs columns) cells can = parts_fine columns (map part_list cells) can
  below_fine _ cells can = refl

  pub parts_fine : (cs : Columns) (rows : List (List Cell)) → can_build_parts cs rows ≡ true → list_any is_bad (every_array cs (built_parts cs rows)) ≡ false
  parts_fine no_column rows can = refl
  parts_fine (and_column c cs) rows can =
      let p = and_parts (can_build c (map first_cell rows)) (can_build_parts cs (map other_cells rows)) can in
      list_any-append is_bad (arrays_at c (built c (map first_cell rows))) (every_array cs (built_parts cs (map other_cells rows)))
      ∙ or_from _ _ (column_fine c (map first_cell rows) p.0) (parts_fine cs (map other_cells rows) p.1)

-- ---- test by test

any_of : (p q : Typed → Bool) → ((t : Typed) → q t ≡ false → p t ≡ false) → (ts : List Typed) → list_any q ts ≡ false → list_any p ts ≡ false
any_of p q h [] all = refl
any_of p q h (t ∷ ts) all = let a = or_parts (q t) (list_any q ts) all in or_from _ _ (h t a.0) (any_of p q h ts a.1)

pub none_short : (cs : Columns) (rows : List (List Cell)) → can_build_rows cs rows ≡ true → list_any (λ t. is_short t.column t.array) (every_array cs (built_parts cs rows)) ≡ false
none_short cs rows can =
    any_of (λ t. is_short t.column t.array) is_bad (λ t h. (or_parts (is_short t.column t.array) (is_unordered t.column t.array) h).0) (every_array cs (built_parts cs rows))
    (parts_fine cs rows (and_parts (list_all (has_each_part cs) rows) (can_build_parts cs rows) can).1)

pub none_unordered : (cs : Columns) (rows : List (List Cell)) → can_build_rows cs rows ≡ true → list_any (λ t. is_unordered t.column t.array) (every_array cs (built_parts cs rows)) ≡ false
none_unordered cs rows can =
    any_of (λ t. is_unordered t.column t.array) is_bad (λ t h. (or_parts (is_short t.column t.array) (is_unordered t.column t.array) h).1) (every_array cs (built_parts cs rows))
    (parts_fine cs rows (and_parts (list_all (has_each_part cs) rows) (can_build_parts cs rows) can).1)

own_count_right : (c : Column) (a : Array) → counts_wrong (null_count c a) c a ≡ false
own_count_right (column name nullable nulls None pairs) a = refl
own_count_right (column name nullable kind dictionary pairs) a = ap not (eq-eqb _ _ refl)

pub none_miscounted : (ts : List Typed) → list_any (λ t. counts_wrong (null_count t.column t.array) t.column t.array) ts ≡ false
none_miscounted [] = refl
none_miscounted (t ∷ ts) = or_from _ _ (own_count_right t.column t.array) (none_miscounted ts)
