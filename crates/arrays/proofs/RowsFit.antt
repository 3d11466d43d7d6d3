-- The cells of arrays of which no test of slots finds anything fit their columns.
use Rattle.std.specs.Prelude.{ℤ, pos, negsuc, not, ◌&&◌, ◌==◌, nat_lt, nat_le, slice_index, if◌then◌else◌}
use Rattle.std.specs.List.{list_any, list_all, flat_map, range_with_len}
use Rattle.std.specs.Str.{is_utf8}
use Rattle.std.proofs.Common.{◌≡◌, ℕ, zero, suc, ◌+◌, ◌*◌, ◌/◌, ◌^◌, ◌≤◌, ◌<◌, Bool, true, false, List, [], ◌∷◌, ◌++◌, map, length, take, drop, get_or, Some, None, refl, sym, subst, arith, ◌∙◌, length-take, length-drop}
use Rattle.std.proofs.lemmas.Bool.{and_parts, and_from, or_parts, or_from, ltb-true, leb-true, ltb-false, not-false, not-true, eq-eqb}
use Rattle.std.proofs.Math.Nat.{mul-le-mul_right}
use Rattle.std.proofs.lemmas.List.Folds.{list_any-append, list_all-append}
use Rattle.std.proofs.lemmas.List.Sums.{list_all-from_AllPass}
use Rattle.byteorder.specs.Numbers.{little_from-lt}
use Rattle.arrow_schema.specs.Column.{is_bit_width, DateKind, days, date_milliseconds, Kind, Column, Columns, nulls, booleans, integers, dates, timestamps, texts, large_texts, binaries, large_binaries, fixed_binaries, lists, large_lists, fixed_lists, structs, column, no_column, and_column, columns_of, PlainSchema}
use Rattle.arrow_schema.specs.Limits.{IsWithinLimits, is_nested, is_kind_of_width, has_flat_dictionary, has_bit_widths}
use Rattle.arrow_schema.specs.Preorder.{preorder, preorder_below, preorder_all, every_column}
use Rattle.cells.specs.Cell.{Cell, Cells, null, cells_of}
use Rattle.cells.specs.Fit.{in_range, date_bits, all_cells, count_of, null_or, fits, fits_kind, each_fits}
use Rattle.cells.specs.Nulls.{is_null}
use Rattle.cells.specs.Row.{row_fits}
use Rattle.cells.specs.laws.Cells.{cells_list}
use Rattle.cells.specs.laws.Ranges.{integer_fits}
use Rattle.columns.specs.Array.{Array, Arrays, array, no_array, and_array, fixed_layout, list_layout, fixed_list_layout, struct_layout, dictionary_layout, slots_in, values_in, items_in, children_in, dictionary_in, indices_in, array_list, first_array, other_arrays}
use Rattle.columns.specs.CellAt.{is_valid, number_at, integer_at, contents_at, value_at, span_start, span_size, cells_from, unless_null, entries_of_kind, entry_at, index_at, cell_at, kind_cell, part_cells, rows_in, row_at}
use Rattle.columns.specs.Sound.{is_sound, is_kind_sound, has_sound_children, are_sound}
use Rattle.columns.specs.Tests.{arrays_at, arrays_below, every_array, are_few, are_unordered, has_short_validity}
use Rattle.columns.specs.Visible.{Slot, slot, visible, visible_below, visible_parts, visible_in, is_bad_text, is_no_text, is_forbidden}
use Rattle.columns.specs.laws.Offsets.{spans_fit}
use Rattle.columns.specs.laws.SoundParts.{sound_buffer, sound_offsets, sound_children}
use Rattle.columns.specs.laws.Held.{AreSoundColumns}
use Rattle.arrays.specs.Bytes.{are_bytes, has_bytes, have_bytes}
use Rattle.arrays.specs.Entries.{has_bad_entry}
use Rattle.arrays.specs.laws.Bytes.{are_bytes-drop}

-- ---- the tests of some slots

pub record Pass (slots : List Slot) : Type 0 where
  pub texts : list_any is_no_text slots ≡ false
  pub nulls : list_any is_forbidden slots ≡ false

any_parts : {X : Type 0} (p : X → Bool) (xs ys : List X) → list_any p (xs ++ ys) ≡ false → (list_any p xs ≡ false) × (list_any p ys ≡ false)
any_parts p xs ys h = or_parts (list_any p xs) (list_any p ys) (sym (list_any-append p xs ys) ∙ h)

any_join : {X : Type 0} (p : X → Bool) (xs ys : List X) → list_any p xs ≡ false → list_any p ys ≡ false → list_any p (xs ++ ys) ≡ false
any_join p xs ys a b = list_any-append p xs ys ∙ or_from (list_any p xs) (list_any p ys) a b

front_passes : (xs ys : List Slot) → Pass (xs ++ ys) → Pass xs
front_passes xs ys h = record { texts = (any_parts is_no_text xs ys h.texts).0; nulls = (any_parts is_forbidden xs ys h.nulls).0 }

rest_passes : (xs ys : List Slot) → Pass (xs ++ ys) → Pass ys
rest_passes xs ys h = record { texts = (any_parts is_no_text xs ys h.texts).1; nulls = (any_parts is_forbidden xs ys h.nulls).1 }

both_pass : (xs ys : List Slot) → Pass xs → Pass ys → Pass (xs ++ ys)
both_pass xs ys a b = record { texts = any_join is_no_text xs ys a.texts b.texts; nulls = any_join is_forbidden xs ys a.nulls b.nulls }

first_passes : (s : Slot) (ss : List Slot) → Pass (s ∷ ss) → (is_no_text s ≡ false) × (is_forbidden s ≡ false)
first_passes s ss h = ((or_parts (is_no_text s) (list_any is_no_text ss) h.texts).0, (or_parts (is_forbidden s) (list_any is_forbidden ss) h.nulls).0)

others_pass : (s : Slot) (ss : List Slot) → Pass (s ∷ ss) → Pass ss
others_pass s ss h = record { texts = (or_parts (is_no_text s) (list_any is_no_text ss) h.texts).1; nulls = (or_parts (is_forbidden s) (list_any is_forbidden ss) h.nulls).1 }

-- of one of the slots in a row
one_passes : (f : ℕ → List Slot) (start n j : ℕ) → Pass (flat_map f (range_with_len start n)) → j < n → Pass (f (start + j))
one_passes f start zero j h less = absurd (omega arith)
one_passes f start (suc n) zero h less =
    let e : start + 0 ≡ start = omega arith in
    rw e (front_passes (f start) (flat_map f (range_with_len (start + 1) n)) h)
one_passes f start (suc n) (suc j) h less =
    let e : start + suc j ≡ start + 1 + j = omega arith in
    rw e (one_passes f (start + 1) n j (rest_passes (f start) (flat_map f (range_with_len (start + 1) n)) h) (omega arith))

-- ---- cells in a row

all_from : (q : Cell → Bool) (g : ℕ → Cell) (start n : ℕ) → ((j : ℕ) → j < n → q (g (start + j)) ≡ true) → all_cells q (cells_of (cells_from g start n)) ≡ true
all_from q g start zero h = refl
all_from q g start (suc n) h =
    let e : start + 0 ≡ start = omega arith in
    let first : q (g start) ≡ true = rw e at (h 0 (omega arith)) in
    and_from _ _ first (all_from q g (start + 1) n (λ j less. let f : start + suc j ≡ start + 1 + j = omega arith in rw f at (h (suc j) (omega arith))))

each_from : (q : Cell → Bool) (g : ℕ → Cell) (start n : ℕ) → ((j : ℕ) → j < n → q (g (start + j)) ≡ true) → list_all q (cells_from g start n) ≡ true
each_from q g start zero h = refl
each_from q g start (suc n) h =
    let e : start + 0 ≡ start = omega arith in
    let first : q (g start) ≡ true = rw e at (h 0 (omega arith)) in
    and_from _ _ first (each_from q g (start + 1) n (λ j less. let f : start + suc j ≡ start + 1 + j = omega arith in rw f at (h (suc j) (omega arith))))

none_from : (q : Cell → Bool) (g : ℕ → Cell) (start n j : ℕ) → list_any q (cells_from g start n) ≡ false → j < n → q (g (start + j)) ≡ false
none_from q g start zero j h less = absurd (omega arith)
none_from q g start (suc n) zero h less =
    let e : start + 0 ≡ start = omega arith in
    rw e (or_parts (q (g start)) _ h).0
none_from q g start (suc n) (suc j) h less =
    let e : start + suc j ≡ start + 1 + j = omega arith in
    rw e (none_from q g (start + 1) n j (or_parts (q (g start)) _ h).1 (omega arith))

count_from : (g : ℕ → Cell) (start n : ℕ) → count_of (cells_of (cells_from g start n)) ≡ n
count_from g start zero = refl
count_from g start (suc n) = let rest = count_from g (start + 1) n in omega (arith, rest)

-- ---- bytes

small_byte : (xs : List ℕ) (k : ℕ) → are_bytes xs ≡ true → slice_index xs k < 256
small_byte [] k h = omega arith
small_byte (x ∷ xs) zero h = ltb-true x 256 (and_parts (nat_lt x 256) (are_bytes xs) h).0
small_byte (x ∷ xs) (suc k) h = small_byte xs k (and_parts (nat_lt x 256) (are_bytes xs) h).1

pub small_number : (width k : ℕ) (values : List ℕ) → are_bytes values ≡ true → number_at width values k < 256 ^ width
small_number width k values h = little_from-lt 0 width (drop (k * width) values) (λ i. small_byte (drop (k * width) values) i (are_bytes-drop (k * width) values h))

pub values_bytes : (a : Array) → has_bytes a ≡ true → are_bytes (values_in a) ≡ true
unfolding has_bytes
values_bytes (array slots validity (fixed_layout values)) h = h
values_bytes _ h = refl

pub items_bytes : (a : Array) → has_bytes a ≡ true → has_bytes (items_in a) ≡ true
unfolding has_bytes
items_bytes (array slots validity (list_layout offsets child)) h = h
items_bytes (array slots validity (fixed_list_layout child)) h = h
items_bytes _ h = refl

pub children_bytes : (a : Array) → has_bytes a ≡ true → have_bytes (children_in a) ≡ true
unfolding has_bytes
children_bytes (array slots validity (struct_layout children)) h = h
children_bytes _ h = refl

pub dictionary_bytes : (a : Array) → has_bytes a ≡ true → (are_bytes (indices_in a) ≡ true) × (have_bytes (dictionary_in a) ≡ true)
unfolding has_bytes
dictionary_bytes (array slots validity (dictionary_layout indices dictionary)) h = and_parts (are_bytes indices) (have_bytes dictionary) h
dictionary_bytes _ h = (refl, refl)

pub first_bytes : (arrays : Arrays) → have_bytes arrays ≡ true → (has_bytes (first_array arrays) ≡ true) × (have_bytes (other_arrays arrays) ≡ true)
unfolding has_bytes
first_bytes no_array h = (refl, refl)
first_bytes (and_array a others) h = and_parts (has_bytes a) (have_bytes others) h

-- ---- one cell

-- a null is taken, or there is none
null_or_from : (nullable : Bool) (p : Cell → Bool) (c : Cell) → (not nullable && is_null c) ≡ false → (is_null c ≡ false → p c ≡ true) → null_or nullable p c ≡ true
null_or_from true p null taken there = refl
null_or_from false p null taken there = absurd cc
null_or_from nullable p _ taken there = there refl

there_fits : (p : Cell → Bool) (c : Cell) → null_or true p c ≡ true → is_null c ≡ false → p c ≡ true
there_fits p null h there = absurd cc
there_fits p _ h there = h

date_wide : (unit : DateKind) → is_bit_width (date_bits unit) ≡ true
date_wide days = refl
date_wide date_milliseconds = refl

integer_here : (bits : ℕ) (signed : Bool) (values : List ℕ) (i : ℕ) → is_bit_width bits ≡ true → are_bytes values ≡ true → in_range bits signed (integer_at (bits / 8) signed values i) ≡ true
integer_here bits signed values i wide small = integer_fits bits signed (number_at (bits / 8) values i) wide (small_number (bits / 8) i values small)

-- the value at a place is whole
whole_value : (width slots i : ℕ) (values : List ℕ) → nat_lt (length values) (slots * width) ≡ false → i < slots → (length (value_at width values i) == width) ≡ true
whole_value width slots i values few less =
    let enough : slots * width ≤ length values = ltb-false (length values) (slots * width) few in
    let one : (i + 1) * width ≤ slots * width = mul-le-mul_right width (omega (arith, less)) in
    let split : (i + 1) * width ≡ i * width + width = omega arith in
    let long : width ≤ length (drop (i * width) values) = omega (arith, length-drop (i * width) values, enough, one, split) in
    let is : length (take width (drop (i * width) values)) ≡ width = omega (arith, length-take width (drop (i * width) values), long) in
    rw is (eq-eqb width width refl)

flat_fits : (k : Kind) (a : Array) (i : ℕ) → is_nested k ≡ false → is_kind_of_width k ≡ true → is_kind_sound k a ≡ true → has_bytes a ≡ true → i < slots_in a
    → is_bad_text (kind_cell k a i) ≡ false → is_null (kind_cell k a i) ≡ false → fits_kind k (kind_cell k a i) ≡ true
unfolding kind_cell fits_kind
flat_fits booleans a i flat wide sound small less good there = refl
flat_fits (integers bits signed) a i flat wide sound small less good there = integer_here bits signed (values_in a) i wide (values_bytes a small)
flat_fits (dates unit) a i flat wide sound small less good there = integer_here (date_bits unit) true (values_in a) i (date_wide unit) (values_bytes a small)
flat_fits (timestamps unit timezone) a i flat wide sound small less good there = integer_here 64 true (values_in a) i refl (values_bytes a small)
flat_fits texts a i flat wide sound small less good there = not-false (is_utf8 (contents_at 4 a i)) good
flat_fits large_texts a i flat wide sound small less good there = not-false (is_utf8 (contents_at 8 a i)) good
flat_fits binaries a i flat wide sound small less good there = refl
flat_fits large_binaries a i flat wide sound small less good there = refl
flat_fits (fixed_binaries width) a i flat wide sound small less good there = whole_value width (slots_in a) i (values_in a) (sound_buffer (fixed_binaries width) a sound) less
flat_fits _ a i flat wide sound small less good there = absurd cc

-- ---- entries of dictionaries

-- a value that there may be
value_or_null : (v : Bool) (p : Cell → Bool) (c : Cell) → (v ≡ true → is_null c ≡ false → p c ≡ true) → null_or true p (if v then c else null) ≡ true
value_or_null true p c h = null_or_from true p c refl (h refl)
value_or_null false p c h = refl

valid_text : (v : Bool) (c : Cell) → is_bad_text (if v then c else null) ≡ false → v ≡ true → is_bad_text c ≡ false
valid_text true c h e = h
valid_text false c h e = absurd cc

entry_fits : (k : Kind) (a : Array) (i : ℕ) → is_nested k ≡ false → is_kind_of_width k ≡ true → is_kind_sound k a ≡ true → has_bytes a ≡ true → i < slots_in a
    → is_bad_text (unless_null (kind_cell k) a i) ≡ false → null_or true (fits_kind k) (unless_null (kind_cell k) a i) ≡ true
entry_fits k a i flat wide sound small less good =
    value_or_null (is_valid a i) (fits_kind k) (kind_cell k a i) (λ valid there. flat_fits k a i flat wide sound small less (valid_text (is_valid a i) (kind_cell k a i) good valid) there)

entries_fit : (k : Kind) (ds : Arrays) → is_nested k ≡ false → is_kind_of_width k ≡ true → list_all (is_kind_sound k) (array_list ds) ≡ true → have_bytes ds ≡ true
    → list_any is_bad_text (entries_of_kind k ds) ≡ false → list_all (null_or true (fits_kind k)) (entries_of_kind k ds) ≡ true
unfolding has_bytes
entries_fit k no_array flat wide sound small goods = refl
entries_fit k (and_array a ds) flat wide sound small goods =
    let own : List Cell = cells_from (unless_null (kind_cell k) a) 0 (slots_in a) in
    let sounds = and_parts (is_kind_sound k a) (list_all (is_kind_sound k) (array_list ds)) sound in
    let smalls = and_parts (has_bytes a) (have_bytes ds) small in
    let good = any_parts is_bad_text own (entries_of_kind k ds) goods in
    let first : list_all (null_or true (fits_kind k)) own ≡ true =
    each_from (null_or true (fits_kind k)) (unless_null (kind_cell k) a) 0 (slots_in a)
    (λ j less. entry_fits k a (0 + j) flat wide sounds.0 smalls.0 (omega (arith, less)) (none_from is_bad_text (unless_null (kind_cell k) a) 0 (slots_in a) j good.0 less)) in
    list_all-append (null_or true (fits_kind k)) own (entries_of_kind k ds) ∙ and_from _ _ first (entries_fit k ds flat wide sounds.1 smalls.1 good.1)

named_entry : (q : Cell → Bool) (entries : List Cell) (n : ℕ) → q null ≡ true → list_all q entries ≡ true → q (get_or entries n null) ≡ true
named_entry q [] n h all = h
named_entry q (e ∷ entries) zero h all = (and_parts (q e) (list_all q entries) all).0
named_entry q (e ∷ entries) (suc n) h all = named_entry q entries n h (and_parts (q e) (list_all q entries) all).1

entry_taken : (q : Cell → Bool) (entries : List Cell) (n : ℤ) → q null ≡ true → list_all q entries ≡ true → q (entry_at entries n) ≡ true
entry_taken q entries (pos n) h all = named_entry q entries n h all
entry_taken q entries (negsuc n) h all = h

-- a null, or the entry that the index names
indexed_fits : (v : Bool) (p : Cell → Bool) (entries : List Cell) (n : ℤ) → list_all (null_or true p) entries ≡ true → is_null (if v then entry_at entries n else null) ≡ false
    → p (if v then entry_at entries n else null) ≡ true
indexed_fits true p entries n all there = there_fits p (entry_at entries n) (entry_taken (null_or true p) entries n refl all) there
indexed_fits false p entries n all there = absurd cc

-- ---- every column

pub front_sound : (xs ys : List Column) → AreSoundColumns (xs ++ ys) → AreSoundColumns xs
front_sound xs ys h = ((and_parts (list_all has_flat_dictionary xs) _ (sym (list_all-append has_flat_dictionary xs ys) ∙ h.0)).0, (and_parts (list_all has_bit_widths xs) _ (sym (list_all-append has_bit_widths xs ys) ∙ h.1)).0)

pub rest_sound : (xs ys : List Column) → AreSoundColumns (xs ++ ys) → AreSoundColumns ys
rest_sound xs ys h = ((and_parts (list_all has_flat_dictionary xs) _ (sym (list_all-append has_flat_dictionary xs ys) ∙ h.0)).1, (and_parts (list_all has_bit_widths xs) _ (sym (list_all-append has_bit_widths xs ys) ∙ h.1)).1)

item_there : (width most : ℕ) (a : Array) (i j : ℕ) → are_unordered width most a ≡ false → i < slots_in a → j < span_size width a i → span_start width a i + j < most
item_there width most a i j ordered less inside =
    let whole = spans_fit width most a i 1 ordered (omega (arith, less)) (omega (arith, less)) in
    omega (arith, whole, inside)

fixed_there : (size slots most i j : ℕ) → nat_le (slots * size) most ≡ true → i < slots → j < size → i * size + j < most
fixed_there size slots most i j enough less inside =
    let whole : slots * size ≤ most = leb-true (slots * size) most enough in
    let one : (i + 1) * size ≤ slots * size = mul-le-mul_right size (omega (arith, less)) in
    let split : (i + 1) * size ≡ i * size + size = omega arith in
    omega (arith, whole, one, split, inside)

valid_case : (v : Bool) (p : Cell → Bool) (c : Cell) → is_null (if v then c else null) ≡ false → (v ≡ true → is_null c ≡ false → p c ≡ true) → p (if v then c else null) ≡ true
valid_case true p c there h = h refl there
valid_case false p c there h = absurd cc

valid_pass : (v : Bool) (slots : List Slot) → Pass (if v then slots else []) → v ≡ true → Pass slots
valid_pass true slots pass e = pass
valid_pass false slots pass e = absurd cc

mutual
  unfolding visible visible_below visible_parts cell_at kind_cell part_cells fits fits_kind each_fits is_sound has_sound_children are_sound has_bytes arrays_at arrays_below every_array preorder preorder_below preorder_all

  slot_fits : (c : Column) (a : Array) (i : ℕ) → AreSoundColumns (preorder c) → is_sound c a ≡ true → has_bytes a ≡ true → list_any has_bad_entry (arrays_at c a) ≡ false → i < slots_in a
      → Pass (visible c a i) → fits c (cell_at c a i) ≡ true
  slot_fits (column name nullable kind (Some index) pairs) a i limits sound small entries less pass =
      let c : Column = column name nullable kind (Some index) pairs in
      let own = first_passes (slot c a i) [] pass in
      let flat = and_parts (not (is_nested kind)) (list_all has_flat_dictionary (preorder_below kind)) limits.0 in
      let wide = and_parts (is_kind_of_width kind && is_bit_width index.bits) (list_all has_bit_widths (preorder_below kind)) limits.1 in
      let sounds = (and_parts (not (are_few (index.bits / 8) a (indices_in a))) _ (and_parts (not (has_short_validity a)) _ sound).1).1 in
      let good = (or_parts (list_any is_bad_text (entries_of_kind kind (dictionary_in a))) false entries).0 in
      let fit = entries_fit kind (dictionary_in a) (not-true _ flat.0) (and_parts (is_kind_of_width kind) _ wide.0).0 sounds (dictionary_bytes a small).1 good in
      null_or_from nullable (fits_kind kind) (cell_at c a i) own.1 (λ there. indexed_fits (is_valid a i) (fits_kind kind) (entries_of_kind kind (dictionary_in a)) (index_at index a i) fit there)
  slot_fits (column name nullable kind None pairs) a i limits sound small entries less pass =
      let c : Column = column name nullable kind None pairs in
      let own = first_passes (slot c a i) (if is_valid a i then visible_below kind a i else []) pass in
      let flat = and_parts (not (false && is_nested kind)) (list_all has_flat_dictionary (preorder_below kind)) limits.0 in
      let wide = and_parts (is_kind_of_width kind && true) (list_all has_bit_widths (preorder_below kind)) limits.1 in
      null_or_from nullable (fits_kind kind) (cell_at c a i) own.1
      (λ there. valid_case (is_valid a i) (fits_kind kind) (kind_cell kind a i) there
      (λ valid present. kind_fits kind a i (flat.1, wide.1) (and_parts (is_kind_of_width kind) true wide.0).0 sound small (or_parts false (list_any has_bad_entry (arrays_below kind a)) entries).1 less
      (valid_text (is_valid a i) (kind_cell kind a i) own.0 valid)
      (valid_pass (is_valid a i) (visible_below kind a i) (others_pass (slot c a i) (if is_valid a i then visible_below kind a i else []) pass) valid) present))

  kind_fits : (k : Kind) (a : Array) (i : ℕ) → AreSoundColumns (preorder_below k) → is_kind_of_width k ≡ true → is_kind_sound k a ≡ true → has_bytes a ≡ true → list_any has_bad_entry (arrays_below k a) ≡ false
      → i < slots_in a → is_bad_text (kind_cell k a i) ≡ false → Pass (visible_below k a i) → is_null (kind_cell k a i) ≡ false → fits_kind k (kind_cell k a i) ≡ true
  kind_fits (lists item) a i limits wide sound small entries less good pass there =
      all_from (fits item) (cell_at item (items_in a)) (span_start 4 a i) (span_size 4 a i)
      (λ j inside. slot_fits item (items_in a) (span_start 4 a i + j) limits (sound_children (lists item) a sound) (items_bytes a small) entries
      (item_there 4 (slots_in (items_in a)) a i j (sound_offsets (lists item) a sound) less inside)
      (one_passes (visible item (items_in a)) (span_start 4 a i) (span_size 4 a i) j pass inside))
  kind_fits (large_lists item) a i limits wide sound small entries less good pass there =
      all_from (fits item) (cell_at item (items_in a)) (span_start 8 a i) (span_size 8 a i)
      (λ j inside. slot_fits item (items_in a) (span_start 8 a i + j) limits (sound_children (large_lists item) a sound) (items_bytes a small) entries
      (item_there 8 (slots_in (items_in a)) a i j (sound_offsets (large_lists item) a sound) less inside)
      (one_passes (visible item (items_in a)) (span_start 8 a i) (span_size 8 a i) j pass inside))
  kind_fits (fixed_lists size item) a i limits wide sound small entries less good pass there =
      let below = and_parts (nat_le (slots_in a * size) (slots_in (items_in a))) (is_sound item (items_in a)) (sound_children (fixed_lists size item) a sound) in
      and_from _ _ (rw (count_from (cell_at item (items_in a)) (i * size) size) (eq-eqb size size refl))
      (all_from (fits item) (cell_at item (items_in a)) (i * size) size
      (λ j inside. slot_fits item (items_in a) (i * size + j) limits below.1 (items_bytes a small) entries
      (fixed_there size (slots_in a) (slots_in (items_in a)) i j below.0 less inside)
      (one_passes (visible item (items_in a)) (i * size) size j pass inside)))
  kind_fits (structs columns) a i limits wide sound small entries less good pass there =
      parts_fit columns (children_in a) (slots_in a) i limits (sound_children (structs columns) a sound) (children_bytes a small) entries less pass
  kind_fits nulls a i limits wide sound small entries less good pass there = flat_fits nulls a i refl wide sound small less good there
  kind_fits booleans a i limits wide sound small entries less good pass there = flat_fits booleans a i refl wide sound small less good there
  kind_fits (integers bits signed) a i limits wide sound small entries less good pass there = flat_fits (integers bits signed) a i refl wide sound small less good there
  kind_fits (dates unit) a i limits wide sound small entries less good pass there = flat_fits (dates unit) a i refl wide sound small less good there
  kind_fits (timestamps unit timezone) a i limits wide sound small entries less good pass there = flat_fits (timestamps unit timezone) a i refl wide sound small less good there
  kind_fits texts a i limits wide sound small entries less good pass there = flat_fits texts a i refl wide sound small less good there
  kind_fits large_texts a i limits wide sound small entries less good pass there = flat_fits large_texts a i refl wide sound small less good there
  kind_fits binaries a i limits wide sound small entries less good pass there = flat_fits binaries a i refl wide sound small less good there
  kind_fits large_binaries a i limits wide sound small entries less good pass there = flat_fits large_binaries a i refl wide sound small less good there
  kind_fits (fixed_binaries width) a i limits wide sound small entries less good pass there = flat_fits (fixed_binaries width) a i refl wide sound small less good there

  pub parts_fit : (cs : Columns) (arrays : Arrays) (slots i : ℕ) → AreSoundColumns (preorder_all cs) → are_sound cs slots arrays ≡ true → have_bytes arrays ≡ true → list_any has_bad_entry (every_array cs arrays) ≡ false
      → i < slots → Pass (visible_parts cs arrays i) → each_fits cs (part_cells cs arrays i) ≡ true
  parts_fit no_column arrays slots i limits sound small entries less pass = refl
  parts_fit (and_column c cs) arrays slots i limits sound small entries less pass =
      let a : Array = first_array arrays in
      let long = and_parts (nat_le slots (slots_in a)) (is_sound c a && are_sound cs slots (other_arrays arrays)) sound in
      let sounds = and_parts (is_sound c a) (are_sound cs slots (other_arrays arrays)) long.1 in
      let smalls = first_bytes arrays small in
      let good = any_parts has_bad_entry (arrays_at c a) (every_array cs (other_arrays arrays)) entries in
      let reach : slots ≤ slots_in a = leb-true slots (slots_in a) long.0 in
      and_from _ _
      (slot_fits c a i (front_sound (preorder c) (preorder_all cs) limits) sounds.0 smalls.0 good.0 (omega (arith, reach, less)) (front_passes (visible c a i) (visible_parts cs (other_arrays arrays) i) pass))
      (parts_fit cs (other_arrays arrays) slots i (rest_sound (preorder c) (preorder_all cs) limits) sounds.1 smalls.1 good.1 less (rest_passes (visible c a i) (visible_parts cs (other_arrays arrays) i) pass))

-- ---- all rows of a batch

parts_pass : (cs : Columns) (arrays : Arrays) (rows i : ℕ) → Pass (visible_in cs arrays rows) → i < rows → Pass (visible_parts cs arrays i)
unfolding visible_in visible_parts
parts_pass no_column arrays rows i pass less = record { texts = refl; nulls = refl }
parts_pass (and_column c cs) arrays rows i pass less =
    let zero : 0 + i ≡ i = omega arith in
    let own : Pass (visible c (first_array arrays) i) = rw zero at (one_passes (visible c (first_array arrays)) 0 rows i (front_passes (flat_map (visible c (first_array arrays)) (range_with_len 0 rows)) (visible_in cs (other_arrays arrays) rows) pass) less) in
    both_pass (visible c (first_array arrays) i) (visible_parts cs (other_arrays arrays) i) own
    (parts_pass cs (other_arrays arrays) rows i (rest_passes (flat_map (visible c (first_array arrays)) (range_with_len 0 rows)) (visible_in cs (other_arrays arrays) rows) pass) less)

rows_from : (q : List Cell → Bool) (g : ℕ → List Cell) (start n : ℕ) → ((j : ℕ) → j < n → q (g (start + j)) ≡ true) → list_all q (map g (range_with_len start n)) ≡ true
rows_from q g start zero h = refl
rows_from q g start (suc n) h =
    let e : start + 0 ≡ start = omega arith in
    let first : q (g start) ≡ true = rw e at (h 0 (omega arith)) in
    and_from _ _ first (rows_from q g (start + 1) n (λ j less. let f : start + suc j ≡ start + 1 + j = omega arith in rw f at (h (suc j) (omega arith))))

pub sound_columns : (s : PlainSchema) → IsWithinLimits s → AreSoundColumns (every_column s)
sound_columns s limits = (list_all-from_AllPass has_flat_dictionary (every_column s) limits.dictionaries, list_all-from_AllPass has_bit_widths (every_column s) limits.widths)

pub rows_fit : (s : PlainSchema) (arrays : Arrays) (rows : ℕ) → IsWithinLimits s → are_sound (columns_of s.columns) rows arrays ≡ true → have_bytes arrays ≡ true
    → list_any has_bad_entry (every_array (columns_of s.columns) arrays) ≡ false → list_any is_no_text (visible_in (columns_of s.columns) arrays rows) ≡ false
    → list_any is_forbidden (visible_in (columns_of s.columns) arrays rows) ≡ false → list_all (row_fits s) (rows_in (columns_of s.columns) arrays rows) ≡ true
rows_fit s arrays rows limits sound small entries goods taken =
    let cs : Columns = columns_of s.columns in
    rows_from (row_fits s) (row_at cs arrays) 0 rows
    (λ j less. subst (λ (x : Cells). each_fits cs x ≡ true) (sym (cells_list (part_cells cs arrays (0 + j))))
    (parts_fit cs arrays rows (0 + j) (sound_columns s limits) sound small entries (omega (arith, less)) (parts_pass cs arrays rows (0 + j) (record { texts = goods; nulls = taken }) (omega (arith, less)))))
