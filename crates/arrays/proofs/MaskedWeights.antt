-- What slots weigh of which some are null, or which are null where those of another array are.
use Rattle.std.proofs.Common.{◌≡◌, ℕ, ◌+◌, ◌-◌, ◌*◌, ◌≤◌, ◌<◌, Bool, true, false, List, ◌∷◌, Some, None, length, map, drop, refl, sym, ap, subst, arith, ◌∙◌}
use Rattle.std.specs.Prelude.{◌&&◌, if◌then◌else◌, option_map}
use Rattle.std.proofs.lemmas.List.{drop_all}
use Rattle.arrow_schema.specs.declared.types.Field.{Field}
use Rattle.arrow_schema.specs.View.{column_of, kind_of, index_of}
use Rattle.arrow_schema.specs.Column.{Kind, Column, Columns, texts, large_texts, binaries, large_binaries, lists, large_lists, structs, column, no_column, and_column, columns_of}
use Rattle.arrow_schema.specs.Parts.{kind_of_column, index_of_column}
use Rattle.arrow_schema.specs.laws.Parts.{kind_of_field, index_of_field}
use Rattle.cells.specs.Cell.{Cell, Cells, null, parts, no_cell, and_cell, cells_of}
use Rattle.cells.specs.Weight.{weight, kind_weight, parts_weight, sum_of, capped_weight}
use Rattle.columns.specs.declared.array.PlacedArray.{PlacedArray}
use Rattle.columns.specs.declared.array.Dictionary.{Dictionary}
use Rattle.columns.specs.Array.{Array, Arrays, slots_in, contents_in, items_in, children_in, first_array, other_arrays}
use Rattle.columns.specs.CellAt.{cell_at, contents_at, is_valid, kind_cell, part_cells, span_cells, span_size, span_start, unless_null}
use Rattle.columns.specs.Tests.{are_few_offsets, are_unordered, has_short_buffer, has_bad_offsets}
use Rattle.columns.specs.Sound.{is_kind_sound}
use Rattle.columns.specs.View.{placed_arrays}
use Rattle.columns.specs.laws.Offsets.{spans_fit}
use Rattle.columns.specs.laws.Rows.{other_placed}
use Rattle.columns.specs.laws.SoundParts.{sound_buffer, sound_offsets}
use Rattle.columns.specs.Offsets.{contents_width}
use Rattle.arrays.specs.inner.Varying.{may_vary_in}
use Rattle.arrays.specs.inner.Weights.{sum_from, span_weight, plain_weight, masked_cell, masked_weight, masked_parts_weight, masked_sizes, sized_width, unit_weight}
use Rattle.arrays.proofs.SpanWeights.{next, split, each_same, each_both, each_more, each_sized}
use Rattle.arrays.proofs.KindWeights.{size_taken, sum_listed}
use Rattle.arrays.proofs.SameWeights.{alike_cells}

-- ---- texts and binaries

size_at : (width : ℕ) (a : Array) (i : ℕ) → are_unordered width (length (contents_in a)) a ≡ false → i < slots_in a → length (contents_at width a i) ≡ span_size width a i
size_at width a i ordered lt = size_taken (span_size width a i) (span_start width a i) (contents_in a) (spans_fit width (length (contents_in a)) a i 1 ordered (omega arith) (omega arith))

one_more : (width own : ℕ) (a : Array) (i : ℕ) → own ≡ width → are_unordered width (length (contents_in a)) a ≡ false → i < slots_in a → 1 + length (contents_at own a i) ≡ 1 + span_size width a i
one_more width own a i is ordered lt = ap (λ (w : ℕ). 1 + length (contents_at w a i)) is ∙ ap (λ (n : ℕ). 1 + n) (size_at width a i ordered lt)

pub own_weight : (k : Kind) (width : ℕ) (a : Array) (i : ℕ) → contents_width k ≡ Some width → are_unordered width (length (contents_in a)) a ≡ false → i < slots_in a
    → kind_weight k (kind_cell k a i) ≡ 1 + span_size width a i
unfolding kind_weight kind_cell
own_weight texts width a i is ordered lt = let e : 4 ≡ width = cc in one_more width 4 a i e ordered lt
own_weight large_texts width a i is ordered lt = let e : 8 ≡ width = cc in one_more width 8 a i e ordered lt
own_weight binaries width a i is ordered lt = let e : 4 ≡ width = cc in one_more width 4 a i e ordered lt
own_weight large_binaries width a i is ordered lt = let e : 8 ≡ width = cc in one_more width 8 a i e ordered lt
own_weight _ width a i is ordered lt = absurd cc

pub null_weight : (k : Kind) (width : ℕ) → contents_width k ≡ Some width → kind_weight k null ≡ 1
unfolding kind_weight
null_weight texts width is = refl
null_weight large_texts width is = refl
null_weight binaries width is = refl
null_weight large_binaries width is = refl
null_weight _ width is = absurd cc

tests_of : (width own : ℕ) (a : Array) → own ≡ width → are_few_offsets own a ≡ false → are_unordered own (length (contents_in a)) a ≡ false
    → (are_few_offsets width a ≡ false) × (are_unordered width (length (contents_in a)) a ≡ false)
tests_of width own a is few ordered =
    (subst (λ (w : ℕ). are_few_offsets w a ≡ false) is few, subst (λ (w : ℕ). are_unordered w (length (contents_in a)) a ≡ false) is ordered)

sound_offsets_of : (k : Kind) (width : ℕ) (a : Array) → contents_width k ≡ Some width → has_short_buffer k a ≡ false → has_bad_offsets k a ≡ false
    → (are_few_offsets width a ≡ false) × (are_unordered width (length (contents_in a)) a ≡ false)
sound_offsets_of texts width a is few ordered = let e : 4 ≡ width = cc in tests_of width 4 a e few ordered
sound_offsets_of large_texts width a is few ordered = let e : 8 ≡ width = cc in tests_of width 8 a e few ordered
sound_offsets_of binaries width a is few ordered = let e : 4 ≡ width = cc in tests_of width 4 a e few ordered
sound_offsets_of large_binaries width a is few ordered = let e : 8 ≡ width = cc in tests_of width 8 a e few ordered
sound_offsets_of _ width a is few ordered = absurd cc

-- a sound array of them has offsets enough, in order
pub contents_sound : (k : Kind) (width : ℕ) (a : Array) → contents_width k ≡ Some width → is_kind_sound k a ≡ true
    → (are_few_offsets width a ≡ false) × (are_unordered width (length (contents_in a)) a ≡ false)
contents_sound k width a is sound = sound_offsets_of k width a is (sound_buffer k a sound) (sound_offsets k a sound)

lists_of : (width own most : ℕ) (a : Array) → own ≡ width → are_few_offsets own a ≡ false → are_unordered own most a ≡ false
    → (are_few_offsets width a ≡ false) × ((end : ℕ) × (are_unordered width end a ≡ false))
lists_of width own most a is few ordered =
    (subst (λ (w : ℕ). are_few_offsets w a ≡ false) is few, (most, subst (λ (w : ℕ). are_unordered w most a ≡ false) is ordered))

-- ---- and lists of items that weigh alike

items_alike : (width : ℕ) (item : Column) (a : Array) (i : ℕ) → may_vary_in item ≡ false
    → 1 + sum_of (weight item) (cells_of (span_cells width (cell_at item (items_in a)) a i)) ≡ 1 + span_size width a i * weight item null
items_alike width item a i h =
    let all = sum_listed (weight item) (span_cells width (cell_at item (items_in a)) a i) in
    let alike = alike_cells item (items_in a) (span_start width a i) (span_size width a i) h in
    omega (arith, all, alike)

list_width : (vary : Bool) (own width : ℕ) → (if vary then None else Some own) ≡ Some width → (vary ≡ false) × (own ≡ width)
list_width true own width is = absurd cc
list_width false own width is = (refl, cc)

-- where the offsets alone tell what a type weighs: what a valid slot does, and a null, and each byte or item
pub sized_weight : (k : Kind) (width : ℕ) (a : Array) (i : ℕ) → sized_width k ≡ Some width → is_kind_sound k a ≡ true → i < slots_in a
    → kind_weight k (kind_cell k a i) ≡ 1 + span_size width a i * unit_weight k
unfolding kind_weight kind_cell
sized_weight (lists item) width a i is sound lt =
    let h = list_width (may_vary_in item) 4 width is in
    ap (λ (w : ℕ). 1 + sum_of (weight item) (cells_of (span_cells w (cell_at item (items_in a)) a i))) h.1 ∙ items_alike width item a i h.0
sized_weight (large_lists item) width a i is sound lt =
    let h = list_width (may_vary_in item) 8 width is in
    ap (λ (w : ℕ). 1 + sum_of (weight item) (cells_of (span_cells w (cell_at item (items_in a)) a i))) h.1 ∙ items_alike width item a i h.0
sized_weight texts width a i is sound lt = let own = own_weight texts width a i is (contents_sound texts width a is sound).1 lt in omega (arith, own)
sized_weight large_texts width a i is sound lt = let own = own_weight large_texts width a i is (contents_sound large_texts width a is sound).1 lt in omega (arith, own)
sized_weight binaries width a i is sound lt = let own = own_weight binaries width a i is (contents_sound binaries width a is sound).1 lt in omega (arith, own)
sized_weight large_binaries width a i is sound lt = let own = own_weight large_binaries width a i is (contents_sound large_binaries width a is sound).1 lt in omega (arith, own)
sized_weight _ width a i is sound lt = absurd cc

pub sized_null : (k : Kind) (width : ℕ) → sized_width k ≡ Some width → kind_weight k null ≡ 1
unfolding kind_weight
sized_null (lists item) width is = refl
sized_null (large_lists item) width is = refl
sized_null texts width is = refl
sized_null large_texts width is = refl
sized_null binaries width is = refl
sized_null large_binaries width is = refl
sized_null _ width is = absurd cc

own_case : (w : Cell → ℕ) (cell : Cell) (size unit : ℕ) (valid : Bool) → w cell ≡ 1 + size * unit → w null ≡ 1
    → w (if valid then cell else null) ≡ 1 + (if valid && valid then size else 0) * unit
own_case w cell size unit true own none = own
own_case w cell size unit false own none = let e : 1 + 0 * unit ≡ 1 = omega arith in none ∙ sym e

masked_case : (w : Cell → ℕ) (cell : Cell) (size unit : ℕ) (mask valid : Bool) → w cell ≡ 1 + size * unit → w null ≡ 1
    → w (if mask then (if valid then cell else null) else null) ≡ 1 + (if mask && valid then size else 0) * unit
masked_case w cell size unit true true own none = own
masked_case w cell size unit true false own none = let e : 1 + 0 * unit ≡ 1 = omega arith in none ∙ sym e
masked_case w cell size unit false valid own none = let e : 1 + 0 * unit ≡ 1 = omega arith in none ∙ sym e

pub plain_sizes : (k : Kind) (width : ℕ) (a : Array) (start n : ℕ) → sized_width k ≡ Some width → is_kind_sound k a ≡ true → start + n ≤ slots_in a
    → plain_weight k a start n ≡ n + masked_sizes width a a start n * unit_weight k
plain_sizes k width a start n is sound le =
    each_sized (kind_weight k) (unless_null (kind_cell k) a) (λ i. if is_valid a i && is_valid a i then span_size width a i else 0) (unit_weight k) start n
    (λ i l r. own_case (kind_weight k) (kind_cell k a i) (span_size width a i) (unit_weight k) (is_valid a i) (sized_weight k width a i is sound (omega arith)) (sized_null k width is))

column_sizes : (c : Column) (width : ℕ) (mask a : Array) (start n : ℕ) → index_of_column c ≡ None → sized_width (kind_of_column c) ≡ Some width → is_kind_sound (kind_of_column c) a ≡ true
    → start + n ≤ slots_in a → masked_weight c mask a start n ≡ n + masked_sizes width mask a start n * unit_weight (kind_of_column c)
unfolding weight cell_at
column_sizes (column name nullable kind None pairs) width mask a start n plain is sound le =
    each_sized (kind_weight kind) (λ i. if is_valid mask i then unless_null (kind_cell kind) a i else null)
    (λ i. if is_valid mask i && is_valid a i then span_size width a i else 0) (unit_weight kind) start n
    (λ i l r. masked_case (kind_weight kind) (kind_cell kind a i) (span_size width a i) (unit_weight kind) (is_valid mask i) (is_valid a i) (sized_weight kind width a i is sound (omega arith)) (sized_null kind width is))
column_sizes (column name nullable kind (Some index) pairs) width mask a start n plain is sound le = absurd cc

pub masked_field_sizes : (field : Field) (width : ℕ) (mask a : Array) (start n : ℕ) → field.dictionary ≡ None → sized_width (kind_of field.data_type) ≡ Some width
    → is_kind_sound (kind_of field.data_type) a ≡ true → start + n ≤ slots_in a
    → masked_weight (column_of field) mask a start n ≡ n + masked_sizes width mask a start n * unit_weight (kind_of field.data_type)
masked_field_sizes field width mask a start n plain is sound le =
    column_sizes (column_of field) width mask a start n (index_of_field field ∙ ap (option_map index_of) plain) (ap sized_width (kind_of_field field) ∙ is)
    (ap (λ (k : Kind). is_kind_sound k a) (kind_of_field field) ∙ sound) le
    ∙ ap (λ (k : Kind). n + masked_sizes width mask a start n * unit_weight k) (kind_of_field field)

-- a sound array of such a type has offsets enough, in order
pub sized_sound : (k : Kind) (width : ℕ) (a : Array) → sized_width k ≡ Some width → is_kind_sound k a ≡ true
    → (are_few_offsets width a ≡ false) × ((most : ℕ) × (are_unordered width most a ≡ false))
sized_sound (lists item) width a is sound =
    let h = list_width (may_vary_in item) 4 width is in
    lists_of width 4 (slots_in (items_in a)) a h.1 (sound_buffer (lists item) a sound) (sound_offsets (lists item) a sound)
sized_sound (large_lists item) width a is sound =
    let h = list_width (may_vary_in item) 8 width is in
    lists_of width 8 (slots_in (items_in a)) a h.1 (sound_buffer (large_lists item) a sound) (sound_offsets (large_lists item) a sound)
sized_sound texts width a is sound = let own = contents_sound texts width a is sound in (own.0, (length (contents_in a), own.1))
sized_sound large_texts width a is sound = let own = contents_sound large_texts width a is sound in (own.0, (length (contents_in a), own.1))
sized_sound binaries width a is sound = let own = contents_sound binaries width a is sound in (own.0, (length (contents_in a), own.1))
sized_sound large_binaries width a is sound = let own = contents_sound large_binaries width a is sound in (own.0, (length (contents_in a), own.1))
sized_sound _ width a is sound = absurd cc

-- ---- structs

struct_case : (cs : Columns) (xs : Cells) (valid : Bool) → kind_weight (structs cs) (if valid then parts xs else null) ≡ 1 + parts_weight cs (if valid then xs else no_cell)
unfolding kind_weight
struct_case cs xs true = refl
struct_case cs xs false = refl

part_case : (c : Column) (cs : Columns) (x : Cell) (xs : Cells) (valid : Bool)
    → parts_weight (and_column c cs) (if valid then and_cell x xs else no_cell) ≡ weight c (if valid then x else null) + parts_weight cs (if valid then xs else no_cell)
unfolding parts_weight
part_case c cs x xs true = refl
part_case c cs x xs false = refl

parts_masked : (cs : Columns) (mask : Array) (arrays : Arrays) (start n : ℕ)
    → sum_from (parts_weight cs) (λ i. if is_valid mask i then part_cells cs arrays i else no_cell) start n ≡ masked_parts_weight cs mask arrays start n
unfolding parts_weight part_cells masked_parts_weight
parts_masked no_column mask arrays start n =
    each_same (parts_weight no_column) (λ i. if is_valid mask i then part_cells no_column arrays i else no_cell) 0 start n (λ i l r. refl) ∙ (let e : n * 0 ≡ 0 = omega arith in e)
parts_masked (and_column c cs) mask arrays start n =
    each_both (parts_weight (and_column c cs)) (λ i. if is_valid mask i then part_cells (and_column c cs) arrays i else no_cell) (weight c) (masked_cell c mask (first_array arrays))
    (parts_weight cs) (λ i. if is_valid mask i then part_cells cs (other_arrays arrays) i else no_cell) start n
    (λ i. part_case c cs (cell_at c (first_array arrays) i) (part_cells cs (other_arrays arrays) i) (is_valid mask i))
    ∙ ap (λ (k : ℕ). masked_weight c mask (first_array arrays) start n + k) (parts_masked cs mask (other_arrays arrays) start n)

pub structs_masked : (cs : Columns) (a : Array) (start n : ℕ) → plain_weight (structs cs) a start n ≡ n + masked_parts_weight cs a (children_in a) start n
unfolding kind_cell
structs_masked cs a start n =
    let all = each_more (kind_weight (structs cs)) (unless_null (kind_cell (structs cs)) a) (parts_weight cs) (λ i. if is_valid a i then part_cells cs (children_in a) i else no_cell) 1 start n
    (λ i l r. struct_case cs (part_cells cs (children_in a) i) (is_valid a i)) in
    omega (arith, all, parts_masked cs a (children_in a) start n)

-- the next field of some
pub masked_next : (bytes : List ℕ) (all : List Dictionary) (fs : List Field) (arrays : List PlacedArray) (i : ℕ) (f : Field) (mask a : Array) (start n : ℕ)
    → drop i fs ≡ f ∷ drop (i + 1) fs → a ≡ first_array (placed_arrays bytes all (drop i arrays))
    → masked_parts_weight (columns_of (map column_of (drop i fs))) mask (placed_arrays bytes all (drop i arrays)) start n
    ≡ masked_weight (column_of f) mask a start n + masked_parts_weight (columns_of (map column_of (drop (i + 1) fs))) mask (placed_arrays bytes all (drop (i + 1) arrays)) start n
unfolding masked_parts_weight
masked_next bytes all fs arrays i f mask a start n next_field is =
    let here : Arrays = placed_arrays bytes all (drop i arrays) in
    let cs : Columns = columns_of (map column_of (drop (i + 1) fs)) in
    ap (λ (gs : List Field). masked_parts_weight (columns_of (map column_of gs)) mask here start n) next_field
    ∙ λ j. masked_weight (column_of f) mask (sym is j) start n + masked_parts_weight cs mask (other_placed bytes all arrays i j) start n

pub masked_end : (fs : List Field) (i : ℕ) (mask : Array) (arrays : Arrays) (start n : ℕ) → length fs ≤ i → masked_parts_weight (columns_of (map column_of (drop i fs))) mask arrays start n ≡ 0
unfolding masked_parts_weight
masked_end fs i mask arrays start n all = ap (λ (gs : List Field). masked_parts_weight (columns_of (map column_of gs)) mask arrays start n) (drop_all i fs all)

-- ---- runs

-- a run, and what is left after it
pub masked_more : (c : Column) (mask a : Array) (start next end : ℕ) → start ≤ next → next ≤ end
    → masked_weight c mask a start (end - start) ≡ masked_weight c mask a start (next - start) + masked_weight c mask a next (end - next)
masked_more c mask a start next end le most =
    let e : next - start + (end - next) ≡ end - start = omega arith in
    let d : start + (next - start) ≡ next = omega arith in
    rw (e, d) at (split (weight c) (masked_cell c mask a) start (next - start) (end - next))

pub masked_valid_run : (c : Column) (mask a : Array) (start n : ℕ) → is_valid mask start ≡ true → ((i : ℕ) → start ≤ i → i < start + n → is_valid mask i ≡ is_valid mask start)
    → masked_weight c mask a start n ≡ span_weight c a start n
masked_valid_run c mask a start n valid alike =
    let e : n * 0 + span_weight c a start n ≡ span_weight c a start n = omega arith in
    each_more (weight c) (masked_cell c mask a) (weight c) (cell_at c a) 0 start n (λ i l r.
    let here : is_valid mask i ≡ true = alike i l r ∙ valid in
    let z : 0 + weight c (cell_at c a i) ≡ weight c (cell_at c a i) = omega arith in
    rw here (sym z))
    ∙ e

pub masked_null_run : (c : Column) (mask a : Array) (start n : ℕ) → is_valid mask start ≡ false → ((i : ℕ) → start ≤ i → i < start + n → is_valid mask i ≡ is_valid mask start)
    → masked_weight c mask a start n ≡ n * weight c null
masked_null_run c mask a start n hidden alike = each_same (weight c) (masked_cell c mask a) (weight c null) start n (λ i l r.
    let here : is_valid mask i ≡ false = alike i l r ∙ hidden in
    rw here refl)

column_null : (c : Column) → kind_weight (kind_of_column c) null ≡ weight c null
unfolding weight
column_null (column name nullable kind dictionary pairs) = refl

pub field_null : (field : Field) → kind_weight (kind_of field.data_type) null ≡ weight (column_of field) null
field_null field = ap (λ (k : Kind). kind_weight k null) (sym (kind_of_field field)) ∙ column_null (column_of field)

-- a run of valid slots more, and a run of nulls
pub valid_more : (whole total hidden of_null before part left weight new : ℕ) → capped_weight (total + (hidden * of_null + before)) ≡ whole → before ≡ part + left → weight ≡ capped_weight part
    → new ≡ capped_weight (total + weight) → (capped_weight (new + (hidden * of_null + left)) ≡ whole) × (capped_weight new ≡ new)
valid_more whole total hidden of_null before part left weight new sums more is total_is = (omega (arith, sums, more, is, total_is), omega (arith, total_is))

pub nulls_more : (whole total hidden of_null before n left : ℕ) → capped_weight (total + (hidden * of_null + before)) ≡ whole → before ≡ n * of_null + left
    → capped_weight (total + ((hidden + n) * of_null + left)) ≡ whole
nulls_more whole total hidden of_null before n left sums more =
    let both : (hidden + n) * of_null ≡ hidden * of_null + n * of_null = omega arith in
    omega (arith, sums, more, both)
