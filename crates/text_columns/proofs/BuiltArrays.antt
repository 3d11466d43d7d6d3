-- The arrays that the cells of columns are written as.
use Rattle.std.specs.Prelude.{◌&&◌, if◌then◌else◌, get_or, Option, Some, None, slice_get}
use Rattle.std.specs.Global.{Vec}
use Rattle.std.specs.List.{flat_map, list_all}
use Rattle.std.proofs.Common.{◌≡◌, ℕ, suc, ◌/◌, Bool, true, false, List, [], ◌∷◌, length, map, refl, arith, ap, sym, subst, ◌∙◌}
use Rattle.std.proofs.lemmas.List.{length-map}
use Rattle.arrow_schema.specs.laws.Columns.{columns_list}
use Rattle.bitmap.specs.Bits.{packed}
use Rattle.arrow_schema.specs.Column.{Index, Kind, Column, Columns, Pair, booleans, integers, dates, timestamps, nulls, texts, large_texts, binaries, large_binaries, fixed_binaries, lists, large_lists, fixed_lists, structs, column, columns_of, list_of}
use Rattle.cells.specs.Cell.{Cell, null}
use Rattle.cells.specs.Dictionary.{entries_of, item_list, part_list}
use Rattle.cells.specs.Fit.{fits_kind}
use Rattle.cells.specs.Nulls.{is_there}
use Rattle.columns.specs.Array.{Array, Layout, array, arrays_of, no_array, and_array, null_layout, bit_layout, fixed_layout, binary_layout, list_layout, fixed_list_layout, struct_layout, dictionary_layout}
use Rattle.columns.specs.Built.{built, built_kind, built_parts, fixed_items, first_cell, other_cells, validity_of, with_validity, index_bytes, integer_bytes, fixed_bytes, offsets_of, contents_of}
use Rattle.columns.specs.Offsets.{width_of}
use Rattle.text_columns.specs.declared.coding.Coding.{Coding}
use Rattle.text_columns.specs.declared.column_values.ColumnValues.{ColumnValues}
use Rattle.text_columns.specs.declared.column_values.ColumnValues.TheVariants.{Nulls, Booleans, Integers, Texts, Binaries, FixedBinaries}
use Rattle.text_columns.specs.declared.builder.ColumnBuilder.{ColumnBuilder, Flat, List', FixedList', Struct}
use Rattle.text_columns.specs.declared.builder.Names.{Names}
use Rattle.text_columns.specs.declared.builder.ListOffsets.{ListOffsets}
use Rattle.text_columns.specs.declared.builder.Slots.{Slots}
use Rattle.text_columns.specs.declared.flat.FlatBuilder.{FlatBuilder}
use Rattle.text_columns.specs.inner.Kept.{Holds, HoldsCells, IsCoded, IsOf, Keeps, KeepsAt, KeepsBelow, KeepsSlots, Takes, column_at, key_list, key_of}
use Rattle.text_columns.specs.inner.Placed.{AreBuilt, IsBuilt, array_of, column_layout, entries_array, has_bitmap, has_validity, layout_of, validity_in, validity_of_bits}
use Rattle.text_columns.proofs.Coded.{all_there, own_flat}
use Rattle.text_columns.proofs.StructFields.{fields_kept, held_by, no_struct_fixed_list, no_struct_list}

there_all : (cells : List Cell) → list_all (λ b. b) (map is_there cells) ≡ list_all is_there cells
there_all [] = refl
there_all (c ∷ cells) = ap (λ (b : Bool). is_there c && b) (there_all cells)

validity_is : (cells : List Cell) → validity_of_bits (map is_there cells) ≡ validity_of cells
validity_is cells = ap (λ (b : Bool). if b then [] else packed (map is_there cells)) (there_all cells)

with_is : (cells : List Cell) (valid : List Bool) (layout own : Layout) → valid ≡ map is_there cells → layout ≡ own → array (length valid) (validity_of_bits valid) layout ≡ with_validity cells own
with_is cells valid layout own is same =
    (λ j. array (length (is j)) (validity_of_bits (is j)) (same j)) ∙ (λ j. array (length-map cells is_there j) (validity_is cells j) own)

kind_built : (kind : Kind) (values : ColumnValues) (cells : List Cell) (valid : List Bool) → IsOf kind values → Holds values cells → valid ≡ map is_there cells
    → array (length valid) (validity_in (has_bitmap values) valid) (layout_of values) ≡ built_kind kind cells
unfolding built_kind
kind_built kind values cells valid h holds is = by kind values h holds
  where
    by : (kind : Kind) (values : ColumnValues) → IsOf kind values → Holds values cells → array (length valid) (validity_in (has_bitmap values) valid) (layout_of values) ≡ built_kind kind cells
    by nulls Nulls h holds = ap (λ (n : ℕ). array n [] null_layout) (ap length is ∙ length-map cells is_there)
    by booleans (Booleans bits) h holds = with_is cells valid (bit_layout (packed bits.items)) _ is (ap (λ (xs : List Bool). bit_layout (packed xs)) holds)
    by (integers bits signed) (Integers i counted bytes) h holds =
        with_is cells valid (fixed_layout bytes.items) _ is (ap fixed_layout (holds ∙ ap (λ (n : ℕ). flat_map (integer_bytes (n / 8)) cells) h.0))
    by (dates unit) (Integers i counted bytes) h holds =
        with_is cells valid (fixed_layout bytes.items) _ is (ap fixed_layout (holds ∙ ap (λ (n : ℕ). flat_map (integer_bytes (n / 8)) cells) h.0))
    by (timestamps unit timezone) (Integers i counted bytes) h holds =
        with_is cells valid (fixed_layout bytes.items) _ is (ap fixed_layout (holds ∙ ap (λ (n : ℕ). flat_map (integer_bytes (n / 8)) cells) h.0))
    by texts (Texts width offsets contents) h holds =
        with_is cells valid (binary_layout offsets.items contents.items) _ is
        (λ j. binary_layout ((holds.0 ∙ ap (λ w. offsets_of (width_of w) (map (λ c. length (contents_of c)) cells)) h) j) (holds.1 j))
    by large_texts (Texts width offsets contents) h holds =
        with_is cells valid (binary_layout offsets.items contents.items) _ is
        (λ j. binary_layout ((holds.0 ∙ ap (λ w. offsets_of (width_of w) (map (λ c. length (contents_of c)) cells)) h) j) (holds.1 j))
    by binaries (Binaries width offsets contents) h holds =
        with_is cells valid (binary_layout offsets.items contents.items) _ is
        (λ j. binary_layout ((holds.0 ∙ ap (λ w. offsets_of (width_of w) (map (λ c. length (contents_of c)) cells)) h) j) (holds.1 j))
    by large_binaries (Binaries width offsets contents) h holds =
        with_is cells valid (binary_layout offsets.items contents.items) _ is
        (λ j. binary_layout ((holds.0 ∙ ap (λ w. offsets_of (width_of w) (map (λ c. length (contents_of c)) cells)) h) j) (holds.1 j))
    by (fixed_binaries size) (FixedBinaries width bytes) h holds =
        with_is cells valid (fixed_layout bytes.items) _ is (ap fixed_layout (holds ∙ ap (λ (n : ℕ). flat_map (fixed_bytes n) cells) h))
    by _ values h holds = absurd h

-- the entries of a dictionary are all there
all_valid : (es : List Cell) → list_all is_there es ≡ true → list_all (λ b. b) (map is_there es) ≡ true
all_valid es h = there_all es ∙ h

no_bitmap : (has : Bool) (valid : List Bool) → list_all (λ b. b) valid ≡ true → validity_in has valid ≡ []
no_bitmap false valid h = refl
no_bitmap true valid h = ap (λ (b : Bool). if b then [] else packed valid) h

entries_built : (kind : Kind) (values : ColumnValues) (es : List Cell) (count : ℕ) → Takes kind es values → list_all (fits_kind kind) es ≡ true → count ≡ length es → entries_array values count ≡ built_kind kind es
entries_built kind values es count t fit size =
    let valid : List Bool = map is_there es in
    let there = all_valid es (all_there kind es (own_flat kind values t.kind_is) fit) in
    (λ j. array ((size ∙ sym (length-map es is_there)) j) (sym (no_bitmap (has_bitmap values) valid there) j) (layout_of values)) ∙ kind_built kind values es valid t.kind_is t.holds refl

coded_built : (index : Index) (kind : Kind) (cells : List Cell) (values : ColumnValues) (d : Coding) (valid : List Bool) → IsCoded index kind cells values d → valid ≡ map is_there cells
    → array (length valid) (validity_of_bits valid) (column_layout (Some d) values)
    ≡ with_validity cells (dictionary_layout (flat_map (index_bytes index (entries_of cells)) cells) (and_array (built_kind kind (entries_of cells)) no_array))
coded_built index kind cells values d valid h is =
    let count : length d.keys.keys ≡ length (entries_of cells) = sym (length-map d.keys.keys (λ k. k.items)) ∙ ap length h.keys ∙ length-map (entries_of cells) (key_of kind) in
    let entries = entries_built kind values (entries_of cells) (length d.keys.keys) h.entries h.fit count in
    with_is cells valid (column_layout (Some d) values) _ is (λ j. dictionary_layout (h.indices j) (and_array (entries j) no_array))

pub flat_built : (b : FlatBuilder) → IsBuilt (Flat b) (array_of b)
unfolding built
flat_built b (column name nullable kind dictionary pairs) cells k = by dictionary b.coding k.2
  where
    by : (dictionary : Option Index) (o : Option Coding) → HoldsCells dictionary kind cells b.values o
        → array (length b.valid.items) (validity_in (has_validity o b.values) b.valid.items) (column_layout o b.values) ≡ built (column name nullable kind dictionary pairs) cells
    by None None h = kind_built kind b.values cells b.valid.items h.kind_is h.holds k.1
    by (Some index) (Some d) h = coded_built index kind cells b.values d b.valid.items h k.1
    by None (Some d) h = absurd h
    by (Some index) None h = absurd h

-- ---- lists

lists_built : (nullable : Bool) (dictionary : Option Index) (kind : Kind) (cells : List Cell) (slots : Slots) (offsets : ListOffsets) (p : _) (items : ColumnBuilder) (below : Array)
    → KeepsSlots nullable dictionary kind cells slots → KeepsBelow kind cells (List' slots offsets p items) → IsBuilt items below
    → array (length slots.valid.items) (validity_of_bits slots.valid.items) (list_layout offsets.offsets.items below) ≡ built_kind kind cells
unfolding built_kind
lists_built nullable dictionary (lists item) cells slots offsets p items below k h is =
    with_is cells slots.valid.items (list_layout offsets.offsets.items below) _ k.valid (λ j. list_layout (h.ends.ends j) (is item (flat_map item_list cells) h.below j))
lists_built nullable dictionary (large_lists item) cells slots offsets p items below k h is =
    with_is cells slots.valid.items (list_layout offsets.offsets.items below) _ k.valid (λ j. list_layout (h.ends.ends j) (is item (flat_map item_list cells) h.below j))
lists_built nullable dictionary (structs columns) cells slots offsets p items below k h is = absurd (no_struct_list columns (KeepsAt columns) cells slots offsets p items h)
lists_built nullable dictionary _ cells slots offsets p items below k h is = absurd h

fixed_lists_built : (nullable : Bool) (dictionary : Option Index) (kind : Kind) (cells : List Cell) (slots : Slots) (size : ℕ) (p : _) (items : ColumnBuilder) (below : Array)
    → KeepsSlots nullable dictionary kind cells slots → KeepsBelow kind cells (FixedList' slots size p items) → IsBuilt items below
    → array (length slots.valid.items) (validity_of_bits slots.valid.items) (fixed_list_layout below) ≡ built_kind kind cells
unfolding built_kind
fixed_lists_built nullable dictionary (fixed_lists size item) cells slots width p items below k h is =
    with_is cells slots.valid.items (fixed_list_layout below) _ k.valid (ap fixed_list_layout (is item (flat_map (fixed_items size) cells) h.below))
fixed_lists_built nullable dictionary (structs columns) cells slots width p items below k h is = absurd (no_struct_fixed_list columns (KeepsAt columns) cells slots width p items h)
fixed_lists_built nullable dictionary _ cells slots width p items below k h is = absurd h

plain_built : (name : List ℕ) (nullable : Bool) (kind : Kind) (dictionary : Option Index) (pairs : List Pair) (cells : List Cell) → dictionary ≡ None → built_kind kind cells ≡ built (column name nullable kind dictionary pairs) cells
unfolding built
plain_built name nullable kind None pairs cells e = refl
plain_built name nullable kind (Some index) pairs cells e = absurd cc

pub list_column : (slots : Slots) (offsets : ListOffsets) (p : _) (items : ColumnBuilder) (below : Array) → IsBuilt items below
    → IsBuilt (List' slots offsets p items) (array (length slots.valid.items) (validity_of_bits slots.valid.items) (list_layout offsets.offsets.items below))
list_column slots offsets p items below is (column name nullable kind dictionary pairs) cells k =
    lists_built nullable dictionary kind cells slots offsets p items below k.slots k.parts is ∙ plain_built name nullable kind dictionary pairs cells k.slots.plain

pub fixed_list_column : (slots : Slots) (size : ℕ) (p : _) (items : ColumnBuilder) (below : Array) → IsBuilt items below
    → IsBuilt (FixedList' slots size p items) (array (length slots.valid.items) (validity_of_bits slots.valid.items) (fixed_list_layout below))
fixed_list_column slots size p items below is (column name nullable kind dictionary pairs) cells k =
    fixed_lists_built nullable dictionary kind cells slots size p items below k.slots k.parts is ∙ plain_built name nullable kind dictionary pairs cells k.slots.plain

-- ---- all columns

first_column : (rows : List (List Cell)) → column_at 0 rows ≡ map first_cell rows
first_column [] = refl
first_column ([] ∷ rows) = ap (λ (xs : List Cell). null ∷ xs) (first_column rows)
first_column ((c ∷ row) ∷ rows) = ap (λ (xs : List Cell). c ∷ xs) (first_column rows)

other_column : (j : ℕ) (rows : List (List Cell)) → column_at (suc j) rows ≡ column_at j (map other_cells rows)
other_column j [] = refl
other_column j ([] ∷ rows) = ap (λ (xs : List Cell). null ∷ xs) (other_column j rows)
other_column j ((c ∷ row) ∷ rows) = ap (λ (xs : List Cell). get_or row j null ∷ xs) (other_column j rows)

pub all_built : (cs : List Column) (rows : List (List Cell)) (bs : List ColumnBuilder) (arrays : List Array) → length bs ≡ length cs → length arrays ≡ length bs
    → ((j : ℕ) (c : Column) (b : ColumnBuilder) → slice_get cs j ≡ Some c → slice_get bs j ≡ Some b → Keeps c (column_at j rows) b)
    → ((j : ℕ) (b : ColumnBuilder) (a : Array) → slice_get bs j ≡ Some b → slice_get arrays j ≡ Some a → IsBuilt b a)
    → arrays_of arrays ≡ built_parts (columns_of cs) rows
unfolding built_parts
all_built [] rows [] [] count same each is = refl
all_built [] rows (b ∷ bs) arrays count same each is = absurd (omega arith)
all_built [] rows [] (a ∷ arrays) count same each is = absurd (omega arith)
all_built (c ∷ cs) rows [] arrays count same each is = absurd (omega arith)
all_built (c ∷ cs) rows (b ∷ bs) [] count same each is = absurd (omega arith)
all_built (c ∷ cs) rows (b ∷ bs) (a ∷ arrays) count same each is =
    let here = is 0 b a refl refl c (column_at 0 rows) (each 0 c b refl refl) ∙ ap (built c) (first_column rows) in
    let others =
    all_built cs (map other_cells rows) bs arrays (omega arith) (omega arith)
    (λ j d e dc db. subst (λ (xs : List Cell). Keeps d xs e) (other_column j rows) (each (suc j) d e dc db))
    (λ j e x db da. is (suc j) e x db da) in
    λ j. and_array (here j) (others j)

-- ---- structs

structs_built : (nullable : Bool) (dictionary : Option Index) (kind : Kind) (cells : List Cell) (slots : Slots) (names : Names) (fields : Vec ColumnBuilder) (arrays : List Array)
    → KeepsSlots nullable dictionary kind cells slots → KeepsBelow kind cells (Struct slots names fields) → AreBuilt fields.items arrays
    → array (length slots.valid.items) (validity_of_bits slots.valid.items) (struct_layout (arrays_of arrays)) ≡ built_kind kind cells
unfolding built_kind
structs_built nullable dictionary (structs columns) cells slots names fields arrays k h are =
    let own = held_by columns cells slots names fields h in
    let all = fields_kept columns cells (key_list names.names.keys) fields.items own in
    with_is cells slots.valid.items (struct_layout (arrays_of arrays)) _ k.valid
    (ap struct_layout (all_built (list_of columns) (map part_list cells) fields.items arrays all.count are.count all.each are.each ∙ ap (λ (cs : Columns). built_parts cs (map part_list cells)) (columns_list columns)))
structs_built nullable dictionary _ cells slots names fields arrays k h are = absurd h

pub struct_column : (slots : Slots) (names : Names) (fields : Vec ColumnBuilder) (arrays : List Array) → AreBuilt fields.items arrays
    → IsBuilt (Struct slots names fields) (array (length slots.valid.items) (validity_of_bits slots.valid.items) (struct_layout (arrays_of arrays)))
struct_column slots names fields arrays are (column name nullable kind dictionary pairs) cells k =
    structs_built nullable dictionary kind cells slots names fields arrays k.slots k.parts are ∙ plain_built name nullable kind dictionary pairs cells k.slots.plain
