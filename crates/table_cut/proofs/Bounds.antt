-- What rows weigh, column by column, and how long the entries of a dictionary are.
use Rattle.std.specs.Prelude.{ℤ, pos, negsuc, Option, Some, get_or, nat_le, nat_lt, min, not, option_map, string_bytes, sum_by, if◌then◌else◌, ◌*◌, ◌/◌, ◌==◌, ◌&&◌}
use Rattle.std.specs.List.{list_all, range_with_len}
use Rattle.std.proofs.Common.{◌≡◌, ℕ, zero, suc, ◌+◌, ◌-◌, ◌≤◌, ◌<◌, Bool, true, false, List, [], ◌∷◌, map, length, take, drop, inl, inr, refl, sym, ap, subst, ◌∙◌, arith}
use Rattle.std.proofs.lemmas.Bool.Decides.{nat_tests}
use Rattle.std.proofs.lemmas.Bool.{and_from, and_parts, cases_lt, le-leb, leb-true}
use Rattle.std.proofs.lemmas.List.{append-nil, drop_all, length-drop, take_all}
use Rattle.std.proofs.lemmas.List.Sums.{sum_by-cons}
use Rattle.arrow_schema.specs.Column.{Index, Kind, Pair, Column, Columns, PlainSchema, column, no_column, and_column, columns_of, texts, large_texts, binaries, large_binaries}
use Rattle.arrow_schema.specs.View.{column_of, index_of, kind_of, pair_of}
use Rattle.arrow_schema.specs.declared.types.DictSpec.{DictSpec}
use Rattle.arrow_schema.specs.declared.types.Field.{Field}
use Rattle.arrow_schema.specs.laws.Parts.{field_parts}
use Rattle.cells.specs.Cell.{Cell, null, cells_of}
use Rattle.cells.specs.Weight.{capped_weight, kind_weight, parts_weight, row_weight, table_weight, weight}
use Rattle.columns.specs.Array.{Array, Arrays, array_list, arrays_of, first_array, other_arrays, contents_in, dictionary_in, indices_in, offsets_in, slots_in}
use Rattle.columns.specs.CellAt.{cell_at, cells_from, entries_of_kind, entry_at, index_at, is_valid, kind_cell, part_cells, row_at, span_size, span_start, unless_null}
use Rattle.columns.specs.Offsets.{contents_width}
use Rattle.columns.specs.Sound.{are_sound, is_kind_sound, is_sound}
use Rattle.columns.specs.Tests.{are_few, are_few_offsets, has_short_buffer, has_short_validity}
use Rattle.columns.specs.View.{fields_of, placed_arrays}
use Rattle.columns.specs.declared.array.PlacedArray.{PlacedArray}
use Rattle.table_cut.specs.declared.row_run.RowRun.{RowRun}
use Rattle.table_cut.specs.inner.Bounds.{column_weight, columns_weight}
use Rattle.table_cut.specs.inner.Columns.{arrays_from_place, array_at}
use Rattle.table_cut.specs.inner.EntrySizes.{AreNoLonger}
use Rattle.table_cut.proofs.ColumnLemmas.{arrays_next}

-- ---- rows, column by column

abbrev rest_weight : Columns → List Cell → ℕ
rest_weight cs row = parts_weight cs (cells_of row)

none_weigh : (arrays : Arrays) (places : List ℕ) → sum_by (rest_weight no_column) (map (row_at no_column arrays) places) ≡ 0
unfolding parts_weight
none_weigh arrays [] = refl
none_weigh arrays (i ∷ places) =
    let all = sum_by-cons (rest_weight no_column) (row_at no_column arrays i) (map (row_at no_column arrays) places) in
    let own : rest_weight no_column (row_at no_column arrays i) ≡ 0 = refl in
    omega (arith, all, own, none_weigh arrays places)

first_weighs : (c : Column) (cs : Columns) (arrays : Arrays) (places : List ℕ)
    → sum_by (rest_weight (and_column c cs)) (map (row_at (and_column c cs) arrays) places)
    ≡ sum_by (weight c) (map (cell_at c (first_array arrays)) places) + sum_by (rest_weight cs) (map (row_at cs (other_arrays arrays)) places)
unfolding parts_weight part_cells
first_weighs c cs arrays [] = refl
first_weighs c cs arrays (i ∷ places) =
    let all = sum_by-cons (rest_weight (and_column c cs)) (row_at (and_column c cs) arrays i) (map (row_at (and_column c cs) arrays) places) in
    let own = sum_by-cons (weight c) (cell_at c (first_array arrays) i) (map (cell_at c (first_array arrays)) places) in
    let rest = sum_by-cons (rest_weight cs) (row_at cs (other_arrays arrays) i) (map (row_at cs (other_arrays arrays)) places) in
    omega (arith, all, own, rest, first_weighs c cs arrays places)

columns_weigh : (j : ℕ) (cs : Columns) (r : RowRun) (n : ℕ)
    → sum_by (rest_weight cs) (map (row_at cs (arrays_from_place j r)) (range_with_len r.from n)) ≡ columns_weight j cs r n
unfolding columns_weight
columns_weigh j no_column r n = none_weigh (arrays_from_place j r) (range_with_len r.from n)
columns_weigh j (and_column c cs) r n =
    first_weighs c cs (arrays_from_place j r) (range_with_len r.from n)
    ∙ ap (λ (w : ℕ). column_weight j c r n + w)
    (ap (λ (arrays : Arrays). sum_by (rest_weight cs) (map (row_at cs arrays) (range_with_len r.from n))) (arrays_next j r) ∙ columns_weigh (j + 1) cs r n)

row_more : (s : PlainSchema) (f : ℕ → List Cell) (from n : ℕ)
    → table_weight s (map f (range_with_len from n)) ≡ n + sum_by (rest_weight (columns_of s.columns)) (map f (range_with_len from n))
row_more s f from zero = refl
row_more s f from (suc n) =
    let all = sum_by-cons (row_weight s) (f from) (map f (range_with_len (from + 1) n)) in
    let rest = sum_by-cons (rest_weight (columns_of s.columns)) (f from) (map f (range_with_len (from + 1) n)) in
    omega (arith, all, rest, row_more s f (from + 1) n)

-- n rows weigh one each, and what the columns do
pub rows_weigh : (s : PlainSchema) (j : ℕ) (r : RowRun) (n : ℕ)
    → table_weight s (map (row_at (columns_of s.columns) (arrays_from_place j r)) (range_with_len r.from n)) ≡ n + columns_weight j (columns_of s.columns) r n
rows_weigh s j r n =
    row_more s (row_at (columns_of s.columns) (arrays_from_place j r)) r.from n
    ∙ ap (λ (w : ℕ). n + w) (columns_weigh j (columns_of s.columns) r n)

pub one_column : (j : ℕ) (c : Column) (r : RowRun) (n : ℕ) → columns_weight j (and_column c no_column) r n ≡ column_weight j c r n
unfolding columns_weight
one_column j c r n = omega arith

pub next_column : (j : ℕ) (c : Column) (cs : Columns) (r : RowRun) (n : ℕ) → columns_weight j (and_column c cs) r n ≡ column_weight j c r n + columns_weight (j + 1) cs r n
unfolding columns_weight
next_column j c cs r n = refl

pub no_columns : (j : ℕ) (r : RowRun) (n : ℕ) → columns_weight j no_column r n ≡ 0
unfolding columns_weight
no_columns j r n = refl

-- ---- cells that weigh no more than a bound

sum_bound : (w : Cell → ℕ) (f : ℕ → Cell) (b from n : ℕ) → ((i : ℕ) → w (f i) ≤ b) → sum_by w (cells_from f from n) ≤ n * b
sum_bound w f b from zero h = omega arith
sum_bound w f b from (suc n) h =
    let all = sum_by-cons w (f from) (cells_from f (from + 1) n) in
    let more : suc n * b ≡ b + n * b = omega arith in
    omega (arith, all, more, h from, sum_bound w f b (from + 1) n h)

pub column_light : (j : ℕ) (c : Column) (r : RowRun) (n size : ℕ) → ((i : ℕ) → weight c (cell_at c (array_at j r) i) ≤ 1 + size) → column_weight j c r n ≤ n + n * size
column_light j c r n size h =
    let all = sum_bound (weight c) (cell_at c (array_at j r)) (1 + size) r.from n h in
    let parts : n * (1 + size) ≡ n + n * size = omega arith in
    omega (arith, all, parts)

-- ---- the entries of a dictionary in one array

item_light : (w : Cell → ℕ) (f : ℕ → Cell) (b from n i : ℕ) → w null ≤ b → ((k : ℕ) → k < from + n → w (f k) ≤ b) → w (get_or (cells_from f from n) i null) ≤ b
item_light w f b from zero i none h = none
item_light w f b from (suc n) zero none h = h from (omega arith)
item_light w f b from (suc n) (suc i) none h = item_light w f b (from + 1) n i none (λ k lt. h k (omega arith))

front_short : (n : ℕ) (xs : List ℕ) → length (take n xs) ≤ n
front_short zero xs = omega arith
front_short (suc n) [] = omega arith
front_short (suc n) (x ∷ xs) = omega (arith, front_short n xs)

front_few : (n : ℕ) (xs : List ℕ) → length (take n xs) ≤ length xs
front_few zero xs = omega arith
front_few (suc n) [] = omega arith
front_few (suc n) (x ∷ xs) = omega (arith, front_few n xs)

rest_few : (n : ℕ) (xs : List ℕ) → length (drop n xs) ≤ length xs
rest_few zero xs = omega arith
rest_few (suc n) [] = omega arith
rest_few (suc n) (x ∷ xs) = omega (arith, rest_few n xs)

-- a part of some bytes
part_few : (n m : ℕ) (xs : List ℕ) → length (take n (drop m xs)) ≤ length xs
part_few n m xs = omega (arith, front_few n (drop m xs), rest_few m xs)

none_light : (kind : Kind) (w size : ℕ) → contents_width kind ≡ Some w → kind_weight kind null ≤ 1 + size
unfolding kind_weight
none_light texts w size is = omega arith
none_light large_texts w size is = omega arith
none_light binaries w size is = omega arith
none_light large_binaries w size is = omega arith
none_light _ w size is = cc

either_light : (w : Cell → ℕ) (b : Bool) (c : Cell) (most : ℕ) → w c ≤ most → w null ≤ most → w (if b then c else null) ≤ most
either_light w true c most own none = own
either_light w false c most own none = none

kind_light : (kind : Kind) (w : ℕ) (a : Array) (i : ℕ) → contents_width kind ≡ Some w → kind_weight kind (kind_cell kind a i) ≤ 1 + length (contents_in a)
unfolding kind_weight kind_cell
kind_light texts w a i is = let part = part_few (span_size 4 a i) (span_start 4 a i) (contents_in a) in omega (arith, part)
kind_light large_texts w a i is = let part = part_few (span_size 8 a i) (span_start 8 a i) (contents_in a) in omega (arith, part)
kind_light binaries w a i is = let part = part_few (span_size 4 a i) (span_start 4 a i) (contents_in a) in omega (arith, part)
kind_light large_binaries w a i is = let part = part_few (span_size 8 a i) (span_start 8 a i) (contents_in a) in omega (arith, part)
kind_light _ w a i is = cc

-- an entry, or a null if there is none
entry_light : (w : Cell → ℕ) (f : ℕ → Cell) (b n : ℕ) (z : ℤ) → w null ≤ b → ((k : ℕ) → k < n → w (f k) ≤ b) → w (entry_at (cells_from f 0 n) z) ≤ b
entry_light w f b n (pos i) none h = item_light w f b 0 n i none (λ k lt. h k (omega arith))
entry_light w f b n (negsuc i) none h = none

all_light : (kind : Kind) (a : Array) (b : ℕ) (z : ℤ) → kind_weight kind null ≤ b → ((k : ℕ) → k < slots_in a → kind_weight kind (kind_cell kind a k) ≤ b)
    → kind_weight kind (entry_at (entries_of_kind kind (arrays_of (a ∷ []))) z) ≤ b
all_light kind a b z none h =
    let f : ℕ → Cell = unless_null (kind_cell kind) a in
    let all : entries_of_kind kind (arrays_of (a ∷ [])) ≡ cells_from f 0 (slots_in a) = append-nil (cells_from f 0 (slots_in a)) in
    let light = entry_light (kind_weight kind) f b (slots_in a) z none (λ k lt. either_light (kind_weight kind) (is_valid a k) (kind_cell kind a k) b (h k lt) none) in
    subst (λ (cells : List Cell). kind_weight kind (entry_at cells z) ≤ b) (sym all) light

pub entries_light : (w : ℕ) (a : Array) → AreNoLonger w (length (contents_in a)) (arrays_of (a ∷ []))
entries_light w a = λ kind z is.
    let size : ℕ = length (contents_in a) in
    all_light kind a (1 + size) z (none_light kind w size is) (λ k lt. kind_light kind w a k is)

-- ---- entries whose offsets are no farther from each other than a bound

span_few : (v w : ℕ) (a : Array) (i size : ℕ) → v ≡ w → span_size w a i ≤ size → length (take (span_size v a i) (drop (span_start v a i) (contents_in a))) ≤ size
span_few v w a i size same few =
    let own = subst (λ (n : ℕ). span_size n a i ≤ size) (sym same) few in
    omega (arith, front_short (span_size v a i) (drop (span_start v a i) (contents_in a)), own)

span_light : (kind : Kind) (w : ℕ) (a : Array) (i size : ℕ) → contents_width kind ≡ Some w → span_size w a i ≤ size → kind_weight kind (kind_cell kind a i) ≤ 1 + size
unfolding kind_weight kind_cell
span_light texts w a i size is few = let part = span_few 4 w a i size (cc) few in omega (arith, part)
span_light large_texts w a i size is few = let part = span_few 8 w a i size (cc) few in omega (arith, part)
span_light binaries w a i size is few = let part = span_few 4 w a i size (cc) few in omega (arith, part)
span_light large_binaries w a i size is few = let part = span_few 8 w a i size (cc) few in omega (arith, part)
span_light _ w a i size is few = cc

pub spans_light : (w : ℕ) (a : Array) (size : ℕ) → ((i : ℕ) → i < slots_in a → span_size w a i ≤ size) → AreNoLonger w size (arrays_of (a ∷ []))
spans_light w a size h = λ kind z is. all_light kind a (1 + size) z (none_light kind w size is) (λ k lt. span_light kind w a k size is (h k lt))

-- ---- a column with such a dictionary

coded_column : (f : Field) (d : DictSpec) → f.dictionary ≡ Some d → column_of f ≡ column (string_bytes f.name) f.nullable (kind_of f.data_type) (Some (index_of d)) (map pair_of f.pairs.items)
coded_column f d is =
    field_parts f ∙ ap (λ (o : Option DictSpec). column (string_bytes f.name) f.nullable (kind_of f.data_type) (option_map index_of o) (map pair_of f.pairs.items)) is

slot_light : (c : Column) (name : List ℕ) (nullable : Bool) (kind : Kind) (index : Index) (pairs : List Pair) (w : ℕ) (a : Array) (size i : ℕ) → c ≡ column name nullable kind (Some index) pairs
    → contents_width kind ≡ Some w → AreNoLonger w size (dictionary_in a) → weight c (cell_at c a i) ≤ 1 + size
unfolding weight cell_at
slot_light c name nullable kind index pairs w a size i same is few =
    subst (λ (d : Column). weight d (cell_at d a i) ≤ 1 + size) (sym same)
    (either_light (kind_weight kind) (is_valid a i) (entry_at (entries_of_kind kind (dictionary_in a)) (index_at index a i)) (1 + size) (few kind (index_at index a i) is) (none_light kind w size is))

pub coded_light : (f : Field) (d : DictSpec) (w : ℕ) (a : Array) (size i : ℕ) → f.dictionary ≡ Some d → contents_width (kind_of f.data_type) ≡ Some w → AreNoLonger w size (dictionary_in a)
    → weight (column_of f) (cell_at (column_of f) a i) ≤ 1 + size
coded_light f d w a size i is wide few =
    slot_light (column_of f) (string_bytes f.name) f.nullable (kind_of f.data_type) (index_of d) (map pair_of f.pairs.items) w a size i (coded_column f d is) wide few

-- ---- the offsets of its entries

short_offsets : (kind : Kind) (w : ℕ) (a : Array) → contents_width kind ≡ Some w → has_short_buffer kind a ≡ are_few_offsets w a
short_offsets texts w a is = ap (λ (n : ℕ). are_few_offsets n a) (cc)
short_offsets large_texts w a is = ap (λ (n : ℕ). are_few_offsets n a) (cc)
short_offsets binaries w a is = ap (λ (n : ℕ). are_few_offsets n a) (cc)
short_offsets large_binaries w a is = ap (λ (n : ℕ). are_few_offsets n a) (cc)
short_offsets _ w a is = cc

each_enough : (kind : Kind) (w : ℕ) (arrays : List Array) → contents_width kind ≡ Some w → list_all (is_kind_sound kind) arrays ≡ true → list_all (λ a. not (are_few_offsets w a)) arrays ≡ true
each_enough kind w [] is sound = refl
each_enough kind w (a ∷ arrays) is sound =
    let both = and_parts (is_kind_sound kind a) (list_all (is_kind_sound kind) arrays) sound in
    let rest = and_parts (not (has_short_validity a)) _ both.0 in
    let own = and_parts (not (has_short_buffer kind a)) _ rest.1 in
    and_from _ _ (ap not (sym (short_offsets kind w a is)) ∙ own.0) (each_enough kind w arrays is both.1)

dictionary_sound : (c : Column) (name : List ℕ) (nullable : Bool) (kind : Kind) (index : Index) (pairs : List Pair) (a : Array) → c ≡ column name nullable kind (Some index) pairs
    → is_sound c a ≡ true → list_all (is_kind_sound kind) (array_list (dictionary_in a)) ≡ true
unfolding is_sound
dictionary_sound c name nullable kind index pairs a same sound =
    let rest = and_parts (not (has_short_validity a)) _ (sym (ap (λ (d : Column). is_sound d a) same) ∙ sound) in
    (and_parts (not (are_few (index.bits / 8) a (indices_in a))) _ rest.1).1

pub enough_offsets : (f : Field) (d : DictSpec) (w : ℕ) (a : Array) → f.dictionary ≡ Some d → contents_width (kind_of f.data_type) ≡ Some w → is_sound (column_of f) a ≡ true
    → list_all (λ x. not (are_few_offsets w x)) (array_list (dictionary_in a)) ≡ true
enough_offsets f d w a is wide sound =
    each_enough (kind_of f.data_type) w (array_list (dictionary_in a)) wide
    (dictionary_sound (column_of f) (string_bytes f.name) f.nullable (kind_of f.data_type) (index_of d) (map pair_of f.pairs.items) a (coded_column f d is) sound)

enough_by : (n m k : ℕ) → 0 < n → not (not (n == 0) && nat_lt m k) ≡ true → k ≤ m
enough_by zero m k some h = absurd (omega arith)
enough_by (suc n) m k some h = grind (arith, nat_tests)

pub offsets_there : (w : ℕ) (a : Array) → 0 < slots_in a → not (are_few_offsets w a) ≡ true → (slots_in a + 1) * w ≤ length (offsets_in a)
offsets_there w a some h = enough_by (slots_in a) (length (offsets_in a)) ((slots_in a + 1) * w) some h

pub only_item : {X : Type 0} (xs : List X) (x : X) → 1 ≤ length xs → length xs < 2 → x ≡ get_or xs 0 x → xs ≡ x ∷ []
only_item [] x some few is = absurd (omega arith)
only_item (y ∷ []) x some few is = ap (λ z. z ∷ []) (sym is)
only_item (y ∷ z ∷ zs) x some few is = absurd (omega arith)

-- ---- the column at a place, and those after it

pub first_sound : (fields : List Field) (field : Field) (r : RowRun) (i n : ℕ) → drop i fields ≡ field ∷ drop (i + 1) fields → n ≤ r.len
    → are_sound (fields_of (drop i fields)) (r.from + r.len) (arrays_from_place i r) ≡ true
    → (are_sound (fields_of (field ∷ [])) (r.from + n) (arrays_from_place i r) ≡ true) × (are_sound (fields_of (drop (i + 1) fields)) (r.from + r.len) (arrays_from_place (i + 1) r) ≡ true)
unfolding are_sound
first_sound fields field r i n item within sound =
    let here : are_sound (fields_of (field ∷ drop (i + 1) fields)) (r.from + r.len) (arrays_from_place i r) ≡ true =
    sym (ap (λ (fs : List Field). are_sound (fields_of fs) (r.from + r.len) (arrays_from_place i r)) item) ∙ sound in
    let long = and_parts (nat_le (r.from + r.len) (slots_in (array_at i r))) _ here in
    let parts = and_parts (is_sound (column_of field) (array_at i r)) _ long.1 in
    let most : r.from + r.len ≤ slots_in (array_at i r) = leb-true _ _ long.0 in (
      and_from _ _ (le-leb (r.from + n) (slots_in (array_at i r)) (omega (arith, most, within))) (and_from _ _ parts.0 refl),
      sym (ap (are_sound (fields_of (drop (i + 1) fields)) (r.from + r.len)) (arrays_next i r)) ∙ parts.1,
    )

front_item : (fields : List Field) (field : Field) (i : ℕ) → drop i fields ≡ field ∷ drop (i + 1) fields → column_of field ∷ [] ≡ map column_of (take (i + 1 - i) (drop i fields))
front_item fields field i item =
    let one : i + 1 - i ≡ 1 = omega arith in
    sym (ap (λ (k : ℕ). map column_of (take k (drop i fields))) one ∙ ap (λ (fs : List Field). map column_of (take 1 fs)) item)

rest_all : {X : Type 0} (xs : List X) (i low : ℕ) → low ≡ min i (length xs) → take (length xs - low) (drop low xs) ≡ drop i xs
rest_all xs i low is =
    let all = take_all (length xs - low) (drop low xs) (omega (arith, length-drop low xs)) in
    elim (cases_lt i (length xs)) [
      | inl lt ↦ (let same : low ≡ i = omega (arith, is, lt) in all ∙ ap (λ (k : ℕ). drop k xs) same)
      | inr ge ↦ all ∙ drop_all low xs (omega (arith, is, ge)) ∙ sym (drop_all i xs ge)
    ]

-- one column of a batch, weighed by itself
pub weighs_alone : (fields : List Field) (field : Field) (r : RowRun) (i low n w : ℕ) → drop i fields ≡ field ∷ drop (i + 1) fields → low ≡ min i (length r.arrays.now)
    → ((s : PlainSchema) → s.columns ≡ map column_of (take (i + 1 - i) (drop i fields))
    → w ≡ capped_weight (table_weight s (map (row_at (columns_of s.columns) (placed_arrays r.bytes.now r.dictionaries.now (take (length r.arrays.now - low) (drop low r.arrays.now)))) (range_with_len r.from n))))
    → w ≡ capped_weight (n + column_weight i (column_of field) r n)
weighs_alone fields field r i low n w item is h =
    let s : PlainSchema = record { columns = column_of field ∷ []; pairs = [] } in
    h s (front_item fields field i item)
    ∙ ap (λ (arrays : List PlacedArray). capped_weight (table_weight s (map (row_at (columns_of s.columns) (placed_arrays r.bytes.now r.dictionaries.now arrays)) (range_with_len r.from n))))
    (rest_all r.arrays.now i low is)
    ∙ ap capped_weight (rows_weigh s i r n ∙ ap (λ (v : ℕ). n + v) (one_column i (column_of field) r n))

pub one_sound : (field : Field) (n : ℕ) (arrays : Arrays) → are_sound (fields_of (field ∷ [])) n arrays ≡ true → is_sound (column_of field) (first_array arrays) ≡ true
unfolding are_sound
one_sound field n arrays sound =
    (and_parts (is_sound (column_of field) (first_array arrays)) _ (and_parts (nat_le n (slots_in (first_array arrays))) _ sound).1).0
