-- The array that cells are written as has them, whatever the type.
use Rattle.std.specs.Prelude.{pos, nat_le, if◌then◌else◌, position, Some, None}
use Rattle.std.specs.List.{flat_map, list_all, range_with_len}
use Rattle.std.proofs.Common.{◌≡◌, ℕ, zero, suc, ◌+◌, ◌-◌, ◌*◌, ◌/◌, ◌^◌, ◌<◌, ◌≤◌, Bool, true, false, List, [], ◌∷◌, map, length, get_or, drop, refl, arith, ap, sym, ◌∙◌, append-nil}
use Rattle.std.proofs.lemmas.Bool.{and_parts, leb-true, lt-ltb}
use Rattle.std.specs.Prelude.{IsTrue, ◌↔◌, not}
use Rattle.std.specs.List.{Contains, prefix_len}
use Rattle.std.specs.Str.{is_utf8}
use Rattle.std.proofs.Common.{subst, drop_of_length-le}
use Rattle.std.proofs.Math.Seq.{drop-cons}
use Rattle.std.proofs.lemmas.List.Elements.{Contains-get_or}
use Rattle.std.proofs.lemmas.List.Quantifiers.{position-Some}
use Rattle.cells.specs.Entries.{AreEntries}
use Rattle.std.proofs.lemmas.List.{length-map, get_or-map, get_or_default}
use Rattle.bitmap.specs.Bits.{packed}
use Rattle.arrow_schema.specs.Column.{Index, is_bit_width, Kind, Column, Columns, DateKind, days, date_milliseconds, nulls, booleans, integers, dates, timestamps, texts, large_texts, binaries, large_binaries, fixed_binaries, lists, large_lists, fixed_lists, structs, column, no_column, and_column}
use Rattle.cells.specs.Cell.{Cell, Cells, null, items, parts, no_cell, and_cell, cells_of, cell_list}
use Rattle.cells.specs.Dictionary.{is_entry, entries_of, entry_in, item_list, part_list}
use Rattle.cells.specs.Fit.{null_or, fits, fits_kind, date_bits, parts_where, each_fits, all_cells}
use Rattle.columns.specs.Array.{Array, slots_in, no_array, and_array, dictionary_in, bit_layout, fixed_layout, list_layout, fixed_list_layout, struct_layout, dictionary_layout}
use Rattle.columns.specs.Buildable.{are_nulls_or_fit, names_entries, contents_fit, items_fit, small_offset, large_offset, can_build, can_build_below, can_build_parts, is_null_or_entry, has_each_part, can_build_rows}
use Rattle.cells.specs.Nulls.{is_there}
use Rattle.columns.specs.Built.{built, built_kind, built_parts, first_cell, other_cells, fixed_items, contents_of, place_or_zero, is_set, integer_bytes, fixed_bytes, binary_of, list_offsets, entry_index, index_bytes}
use Rattle.columns.specs.CellAt.{cell_at, kind_cell, part_cells, unless_null, cells_from, entry_at, entries_by, index_at, integer_at, cells_in, row_at, rows_in}
use Rattle.columns.specs.laws.Integers.{width_cases, index_fits}
use Rattle.columns.proofs.Spans.{have_width, at_width, run_all}
use Rattle.byteorder.specs.Endian.{little_number}
use Rattle.byteorder.specs.Numbers.{little_number-reads_back, length-bytes_low_first}
use Rattle.cells.specs.Integers.{integer_of}
use Rattle.cells.specs.laws.Cells.{cells_list, cells_listed}
use Rattle.std.proofs.lemmas.List.Concat.{flat_map-cons}
use Rattle.columns.proofs.BuiltSound.{slots_of_built}
use Rattle.columns.proofs.ReadBack.{PackedReadsBack, all_at, by_validity}
use Rattle.columns.proofs.Found.{fit_there, boolean_found, integer_found, text_found, bytes_found, fixed_found, AreFound, list_found, fixed_list_found}
use Rattle.columns.specs.laws.Rows.{slots_built}

-- ---- parts

pub has_parts : (fs : Columns) (cs : Cells) → each_fits fs cs ≡ true → has_each_part fs (cell_list cs) ≡ true
unfolding fits
has_parts no_column no_cell h = refl
has_parts no_column (and_cell c cs) h = cc
has_parts (and_column f fs) no_cell h = cc
has_parts (and_column f fs) (and_cell c cs) h = has_parts fs cs (and_parts (fits f c) (each_fits fs cs) h).1

-- the arrays of some rows have the row at a place
abbrev pub RowIsFound : Columns → List (List Cell) → Type 0
RowIsFound fs rows = (i : ℕ) → i < length rows → has_each_part fs (get_or rows i []) ≡ true → part_cells fs (built_parts fs rows) i ≡ cells_of (get_or rows i [])

no_part : (row : List Cell) → has_each_part no_column row ≡ true → no_cell ≡ cells_of row
no_part [] h = refl
no_part (c ∷ cs) h = cc

joined_row : (c : Column) (cs : Columns) (row : List Cell) → has_each_part (and_column c cs) row ≡ true
    → (has_each_part cs (other_cells row) ≡ true) × (and_cell (first_cell row) (cells_of (other_cells row)) ≡ cells_of row)
joined_row c cs [] h = cc
joined_row c cs (x ∷ xs) h = (h, refl)

struct_found : (fs : Columns) (cells : List Cell) (i : ℕ) (c : Cell) → get_or cells i null ≡ c → i < length cells → RowIsFound fs (map part_list cells) → parts_where (each_fits fs) c ≡ true
    → parts (part_cells fs (built_parts fs (map part_list cells)) i) ≡ c
struct_found fs cells i (parts cs) e lt found h =
    let row : get_or (map part_list cells) i [] ≡ cell_list cs = get_or-map part_list cells i null [] lt ∙ ap part_list e in
    let count : i < length (map part_list cells) = omega (arith, lt, length-map cells part_list) in
    ap parts (found i count (rw row (has_parts fs cs h)) ∙ ap cells_of row ∙ cells_list cs)
struct_found fs cells i _ e lt found h = cc

-- ---- every type

-- a value that is there is among the entries, and the index of an entry names it
abbrev pub EntriesAreFound : Type 0
EntriesAreFound = (cells : List Cell) (c : Cell) (i : ℕ) → i < length cells → get_or cells i null ≡ c → entry_in c ≡ Some c
    → (entry_index (entries_of cells) c < length (entries_of cells)) × (get_or (entries_of cells) (entry_index (entries_of cells) c) null ≡ c)

-- the array of these cells has each of them
abbrev pub KindIsFound : Kind → List Cell → Type 0
KindIsFound kind cells = AreFound (unless_null (kind_cell kind) (built_kind kind cells)) cells

abbrev pub ColumnIsFound : Column → List Cell → Type 0
ColumnIsFound c cells = AreFound (cell_at c (built c cells)) cells

null_found : (cells : List Cell) (i : ℕ) (c : Cell) → get_or cells i null ≡ c → null_or true (λ c. false) c ≡ true → null ≡ c
null_found cells i null e h = refl
null_found cells i _ e h = cc

-- what was found of a cell that is there
fit_at : (kind : Kind) (cells : List Cell) (i : ℕ) → are_nulls_or_fit kind cells ≡ true → i < length cells → is_there (get_or cells i null) ≡ true → fits_kind kind (get_or cells i null) ≡ true
fit_at kind cells i h lt there = fit_there (fits_kind kind) (get_or cells i null) (all_at (null_or true (fits_kind kind)) cells i null h lt) there

small_contents : (most : ℕ) (cells : List Cell) → contents_fit most cells ≡ true → length (flat_map contents_of cells) ≤ most
small_contents most cells h = leb-true _ _ h

-- dates are integers of 32 or 64 bits
date_width : (unit : DateKind) → (8 * (date_bits unit / 8) ≡ date_bits unit) × (1 ≤ date_bits unit / 8)
date_width days = (refl, omega arith)
date_width date_milliseconds = (refl, omega arith)

-- ---- dictionaries

-- the entries read back as themselves
pub entries_back : (kind : Kind) (entries : List Cell) → KindIsFound kind entries → entries_by (unless_null (kind_cell kind)) (and_array (built_kind kind entries) no_array) ≡ entries
entries_back kind entries found =
    let f : ℕ → Cell = unless_null (kind_cell kind) (built_kind kind entries) in
    flat_map-cons (λ (a : Array). cells_from (unless_null (kind_cell kind) a) 0 (slots_in a)) (built_kind kind entries) []
    ∙ append-nil (cells_from f 0 (slots_in (built_kind kind entries)))
    ∙ ap (cells_from f 0) (slots_built kind entries)
    ∙ run_all f entries found

pub entry_of_cell : (c : Cell) → is_null_or_entry c ≡ true → is_there c ≡ true → entry_in c ≡ Some c
entry_of_cell null h there = cc
entry_of_cell (items cs) h there = cc
entry_of_cell (parts cs) h there = cc
entry_of_cell _ h there = refl

-- an index within its type reads back
pub index_there : (index : Index) (entries cells : List Cell) (i n : ℕ) → i < length cells → names_entries index n ≡ true → entry_index entries (get_or cells i null) < n
    → integer_at (index.bits / 8) index.signed (flat_map (index_bytes index entries) cells) i ≡ pos (entry_index entries (get_or cells i null))
index_there index entries cells i n lt names below =
    let w : ℕ = index.bits / 8 in
    let k : ℕ = entry_index entries (get_or cells i null) in
    let p = and_parts (is_bit_width index.bits) (nat_le n (if index.signed then 2 ^ (index.bits - 1) else 2 ^ index.bits)) names in
    let width = width_cases index.bits p.0 in
    let r = at_width (index_bytes index entries) w cells i null (have_width (index_bytes index entries) w (λ c. length-bytes_low_first 0 w (entry_index entries c)) cells) lt in
    let most : n ≤ (if index.signed then 2 ^ (index.bits - 1) else 2 ^ index.bits) = leb-true _ _ p.1 in
    let fit : (k < 256 ^ w) × (integer_of w index.signed k ≡ pos k) = index_fits w index.signed k n below (rw width.0 most) width.1 in
    ap (λ (m : ℕ). integer_of w index.signed m) (ap (little_number w) r.1 ∙ little_number-reads_back w k r.0 fit.0) ∙ fit.1

mutual
  unfolding fits can_build cell_at built

  pub column_found : PackedReadsBack → EntriesAreFound → (c : Column) (cells : List Cell) → can_build c cells ≡ true → ColumnIsFound c cells
  column_found back entries (column name nullable kind None pairs) cells can i lt =
      let p = and_parts (are_nulls_or_fit kind cells) (can_build_below kind cells) can in
      kind_found back entries kind cells p.0 p.1 i lt
  column_found back entries (column name nullable kind (Some index) pairs) cells can i lt =
      let es : List Cell = entries_of cells in
      let p = and_parts (list_all is_null_or_entry cells) _ can in
      let q = and_parts (names_entries index (length es)) _ p.1 in
      let r = and_parts (are_nulls_or_fit kind es) (can_build_below kind es) q.1 in
      let back_again = entries_back kind es (kind_found back entries kind es r.0 r.1) in
      by_validity back cells (dictionary_layout (flat_map (index_bytes index es) cells) (and_array (built_kind kind es) no_array))
      (λ a j. entry_at (entries_by (unless_null (kind_cell kind)) (dictionary_in a)) (index_at index a j)) i lt
      (λ there.
      let e = entries cells (get_or cells i null) i lt refl (entry_of_cell (get_or cells i null) (all_at is_null_or_entry cells i null p.0 lt) there) in
      ap (λ (xs : List Cell). entry_at xs (integer_at (index.bits / 8) index.signed (flat_map (index_bytes index es) cells) i)) back_again
      ∙ ap (entry_at es) (index_there index es cells i (length es) lt q.0 e.0) ∙ e.1)

  pub kind_found : PackedReadsBack → EntriesAreFound → (kind : Kind) (cells : List Cell) → are_nulls_or_fit kind cells ≡ true → can_build_below kind cells ≡ true → KindIsFound kind cells
  kind_found back entries nulls cells h can i lt = null_found cells i _ refl (all_at (null_or true (fits_kind nulls)) cells i null h lt)
  kind_found back entries booleans cells h can i lt =
      by_validity back cells (bit_layout (packed (map is_set cells))) (kind_cell booleans) i lt
      (λ there. boolean_found back cells i _ refl lt (fit_at booleans cells i h lt there))
  kind_found back entries (integers bits signed) cells h can i lt =
      let w = width_cases bits can in
      by_validity back cells (fixed_layout (flat_map (integer_bytes (bits / 8)) cells)) (kind_cell (integers bits signed)) i lt
      (λ there. integer_found (bits / 8) signed cells i _ refl lt w.1 (rw w.0 (fit_at (integers bits signed) cells i h lt there)))
  kind_found back entries (dates unit) cells h can i lt =
      let w = date_width unit in
      by_validity back cells (fixed_layout (flat_map (integer_bytes (date_bits unit / 8)) cells)) (kind_cell (dates unit)) i lt
      (λ there. integer_found (date_bits unit / 8) true cells i _ refl lt w.1 (rw w.0 (fit_at (dates unit) cells i h lt there)))
  kind_found back entries (timestamps unit timezone) cells h can i lt =
      by_validity back cells (fixed_layout (flat_map (integer_bytes 8) cells)) (kind_cell (timestamps unit timezone)) i lt
      (λ there. integer_found 8 true cells i _ refl lt (omega arith) (fit_at (timestamps unit timezone) cells i h lt there))
  kind_found back entries texts cells h can i lt =
      by_validity back cells (binary_of 4 cells) (kind_cell texts) i lt
      (λ there. text_found 4 is_utf8 cells i _ refl lt (omega (arith, small_contents small_offset cells can)) (fit_at texts cells i h lt there))
  kind_found back entries large_texts cells h can i lt =
      by_validity back cells (binary_of 8 cells) (kind_cell large_texts) i lt
      (λ there. text_found 8 is_utf8 cells i _ refl lt (omega (arith, small_contents large_offset cells can)) (fit_at large_texts cells i h lt there))
  kind_found back entries binaries cells h can i lt =
      by_validity back cells (binary_of 4 cells) (kind_cell binaries) i lt
      (λ there. bytes_found 4 (λ t. true) cells i _ refl lt (omega (arith, small_contents small_offset cells can)) (fit_at binaries cells i h lt there))
  kind_found back entries large_binaries cells h can i lt =
      by_validity back cells (binary_of 8 cells) (kind_cell large_binaries) i lt
      (λ there. bytes_found 8 (λ t. true) cells i _ refl lt (omega (arith, small_contents large_offset cells can)) (fit_at large_binaries cells i h lt there))
  kind_found back entries (fixed_binaries width) cells h can i lt =
      by_validity back cells (fixed_layout (flat_map (fixed_bytes width) cells)) (kind_cell (fixed_binaries width)) i lt
      (λ there. fixed_found width cells i _ refl lt h (fit_at (fixed_binaries width) cells i h lt there))
  kind_found back entries (lists item) cells h can i lt =
      let p = and_parts (items_fit small_offset cells) (can_build item (flat_map item_list cells)) can in
      let child : Array = built item (flat_map item_list cells) in
      by_validity back cells (list_layout (list_offsets 4 cells) child) (kind_cell (lists item)) i lt
      (λ there. list_found 4 (all_cells (fits item)) cells i child (cell_at item child) _ refl lt (omega (arith, leb-true _ _ p.0)) (column_found back entries item (flat_map item_list cells) p.1) (fit_at (lists item) cells i h lt there))
  kind_found back entries (large_lists item) cells h can i lt =
      let p = and_parts (items_fit large_offset cells) (can_build item (flat_map item_list cells)) can in
      let child : Array = built item (flat_map item_list cells) in
      by_validity back cells (list_layout (list_offsets 8 cells) child) (kind_cell (large_lists item)) i lt
      (λ there. list_found 8 (all_cells (fits item)) cells i child (cell_at item child) _ refl lt (omega (arith, leb-true _ _ p.0)) (column_found back entries item (flat_map item_list cells) p.1) (fit_at (large_lists item) cells i h lt there))
  kind_found back entries (fixed_lists size item) cells h can i lt =
      let child : Array = built item (flat_map (fixed_items size) cells) in
      by_validity back cells (fixed_list_layout child) (kind_cell (fixed_lists size item)) i lt
      (λ there. fixed_list_found size (fits item) cells i (cell_at item child) _ refl lt h (column_found back entries item (flat_map (fixed_items size) cells) can) (fit_at (fixed_lists size item) cells i h lt there))
  kind_found back entries (structs columns) cells h can i lt =
      by_validity back cells (struct_layout (built_parts columns (map part_list cells))) (kind_cell (structs columns)) i lt
      (λ there. struct_found columns cells i _ refl lt (rows_found back entries columns (map part_list cells) can) (fit_at (structs columns) cells i h lt there))

  pub rows_found : PackedReadsBack → EntriesAreFound → (columns : Columns) (rows : List (List Cell)) → can_build_parts columns rows ≡ true → RowIsFound columns rows
  rows_found back entries no_column rows can i lt has = no_part (get_or rows i []) has
  rows_found back entries (and_column c cs) rows can i lt has =
      let p = and_parts (can_build c (map first_cell rows)) (can_build_parts cs (map other_cells rows)) can in
      let row : List Cell = get_or rows i [] in
      let j = joined_row c cs row has in
      let others : get_or (map other_cells rows) i [] ≡ other_cells row = get_or-map other_cells rows i [] [] lt in
      let first : cell_at c (built c (map first_cell rows)) i ≡ first_cell row =
      column_found back entries c (map first_cell rows) p.0 i (omega (arith, lt, length-map rows first_cell)) ∙ get_or-map first_cell rows i [] null lt in
      let rest : part_cells cs (built_parts cs (map other_cells rows)) i ≡ cells_of (other_cells row) =
      rows_found back entries cs (map other_cells rows) p.1 i (omega (arith, lt, length-map rows other_cells)) (rw others j.0) ∙ ap cells_of others in
      ap (λ (x : Cell). and_cell x (part_cells cs (built_parts cs (map other_cells rows)) i)) first ∙ ap (and_cell (first_cell row)) rest ∙ j.1

-- ---- all cells, and all rows

pub cells_are_back : PackedReadsBack → EntriesAreFound → (c : Column) (cells : List Cell) → can_build c cells ≡ true → cells_in c (built c cells) ≡ cells
unfolding built
cells_are_back back entries c cells can = ap (cells_from (cell_at c (built c cells)) 0) (slots_of_built c cells) ∙ run_all (cell_at c (built c cells)) cells (column_found back entries c cells can)

map_is : {X : Type 0} (f : ℕ → X) (xs : List X) (start n : ℕ) (d : X) → ((i : ℕ) → i < length xs → f i ≡ get_or xs i d) → start + n ≡ length xs → map f (range_with_len start n) ≡ drop start xs
map_is f xs start zero d h le = sym (drop_of_length-le xs (omega arith))
map_is f xs start (suc n) d h le =
    let here : drop start xs ≡ get_or xs start d ∷ drop (suc start) xs = drop-cons xs start d (omega arith) in
    let next : start + 1 ≡ suc start = omega arith in
    let rest = map_is f xs (suc start) n d h (omega arith) in
    rw (next, here, h start (omega arith), rest) refl

pub rows_are_back : PackedReadsBack → EntriesAreFound → (columns : Columns) (rows : List (List Cell)) → can_build_rows columns rows ≡ true
    → rows_in columns (built_parts columns rows) (length rows) ≡ rows
rows_are_back back entries columns rows can =
    let p = and_parts (list_all (has_each_part columns) rows) (can_build_parts columns rows) can in
    map_is (row_at columns (built_parts columns rows)) rows 0 (length rows) []
    (λ i lt. ap cell_list (rows_found back entries columns rows p.1 i lt (all_at (has_each_part columns) rows i [] p.0 lt)) ∙ cells_listed (get_or rows i []))
    (omega arith)

-- ---- entries

abbrev pub OneEntryIsOneValue : Type 0
OneEntryIsOneValue = (a b : Cell) → entry_in a ≡ Some a → IsTrue (is_entry a b) ↔ (a ≡ b)

below : (q : Cell → Bool) (xs : List Cell) (k : ℕ) → k < length xs → q (get_or xs k null) ≡ false → prefix_len q xs ≤ k
below q [] k lt h = absurd (omega arith)
below q (x ∷ xs) zero lt h = rw h (omega arith)
below q (x ∷ xs) (suc k) lt h = by_first (below q xs k (omega arith) h) (q x) refl
  where
    by_first : prefix_len q xs ≤ k → (b : Bool) → q x ≡ b → prefix_len q (x ∷ xs) ≤ suc k
    by_first rest true e = rw e (omega (arith, rest))
    by_first rest false e = rw e (omega arith)

found_place : (p : Cell → Bool) (xs : List Cell) (k : ℕ) → k < length xs → p (get_or xs k null) ≡ true
    → (place_or_zero (position p xs) < length xs) × (p (get_or xs (place_or_zero (position p xs)) null) ≡ true)
found_place p xs k lt h =
    let first = below (λ x. not (p x)) xs k lt (ap not h) in
    let is : position p xs ≡ Some (prefix_len (λ x. not (p x)) xs) = rw (lt-ltb (prefix_len (λ x. not (p x)) xs) (length xs) (omega (arith, first))) refl in
    let at = position-Some p xs (prefix_len (λ x. not (p x)) xs) null is in
    rw is (at.0, at.1)

pub entries_found : OneEntryIsOneValue → ((cells : List Cell) → AreEntries cells (entries_of cells)) → EntriesAreFound
entries_found one are cells c i lt e entry =
    let es : List Cell = entries_of cells in
    let has : Contains es c = ((are cells).values c).1 (entry, subst (Contains cells) e (Contains-get_or cells i null lt)) in
    let there : get_or es has.0 null ≡ c = get_or_default es has.0 null c has.1 ∙ has.2 in
    let f = found_place (is_entry c) es has.0 has.1 ((one c (get_or es has.0 null) entry).1 (sym there)) in
    (f.0, sym ((one c _ entry).0 f.1))
