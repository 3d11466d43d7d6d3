-- Where no visible slot is a text that is not UTF-8, all texts of a row are UTF-8, at every level.
use Rattle.std.specs.Prelude.{not, ◌&&◌, ℤ, pos, negsuc, if◌then◌else◌}
use Rattle.std.specs.List.{list_any, list_all, flat_map, range_with_len}
use Rattle.std.proofs.Common.{inl, inr, ◌≡◌, ℕ, zero, suc, ◌+◌, ◌≤◌, ◌<◌, ◌*◌, Bool, true, false, List, [], ◌∷◌, map, get_or, Some, None, Ok, refl, sym, subst, arith, ◌∙◌}
use Rattle.std.proofs.lemmas.Bool.{and_parts, or_parts, cases_lt, not-false}
use Rattle.std.proofs.lemmas.List.Folds.{list_all-append, list_any-append}
use Rattle.facts.specs.Checks.{first_some}
use Rattle.facts.specs.laws.Checks.{unless_passed, first_some-both}
use Rattle.arrow_schema.specs.Column.{Kind, Column, Columns, columns_of, PlainSchema, texts, large_texts, lists, large_lists, fixed_lists, structs, column, no_column, and_column}
use Rattle.arrow_schema.specs.Limits.{is_nested, has_flat_dictionary}
use Rattle.arrow_schema.specs.Preorder.{preorder, preorder_below, preorder_all, every_column}
use Rattle.cells.specs.Cell.{Cell, null, text, items, parts, cells_of}
use Rattle.columns.specs.Array.{Array, Arrays, slots_in, items_in, children_in, dictionary_in, array_list, first_array, other_arrays}
use Rattle.columns.specs.CellAt.{is_valid, cell_at, kind_cell, part_cells, cells_from, entry_at, entries_of_kind, index_at, span_start, span_size, unless_null}
use Rattle.columns.specs.Texts.{has_utf8_texts, have_utf8_texts}
use Rattle.columns.specs.Visible.{Slot, visible, visible_below, visible_parts, visible_in, is_bad_text, is_no_text, names_no_entry}
use Rattle.ipc_message.specs.Raw.{RawBatch}
use Rattle.arrays.specs.Checks.{batch_arrays, array_checks, slot_checks, batch_checks, batch_read}
use Rattle.arrays.proofs.BatchRead.{passed}

-- ---- entries: a cell of a flat type has no cells below it

abbrev is_flat_cell : Cell → Bool
is_flat_cell (items cs) = false
is_flat_cell (parts cs) = false
is_flat_cell _ = true

flat_texts : (c : Cell) → is_flat_cell c ≡ true → is_bad_text c ≡ false → has_utf8_texts c ≡ true
unfolding has_utf8_texts
flat_texts (text t) f h = not-false _ h
flat_texts (items cs) f h = absurd cc
flat_texts (parts cs) f h = absurd cc
flat_texts _ f h = refl

flat_kind : (k : Kind) (a : Array) (i : ℕ) → is_nested k ≡ false → is_flat_cell (kind_cell k a i) ≡ true
unfolding kind_cell
flat_kind (lists item) a i h = absurd cc
flat_kind (large_lists item) a i h = absurd cc
flat_kind (fixed_lists size item) a i h = absurd cc
flat_kind (structs columns) a i h = absurd cc
flat_kind _ a i h = refl

flat_unless : (b : Bool) (c : Cell) → is_flat_cell c ≡ true → is_flat_cell (if b then c else null) ≡ true
flat_unless true c h = h
flat_unless false c h = refl

flat_run : (f : ℕ → Cell) → ((i : ℕ) → is_flat_cell (f i) ≡ true) → (xs : List ℕ) → list_all is_flat_cell (map f xs) ≡ true
flat_run f h [] = refl
flat_run f h (x ∷ xs) = rw (h x) (flat_run f h xs)

flat_entries : (k : Kind) → is_nested k ≡ false → (xs : List Array) → list_all is_flat_cell (flat_map (λ a. cells_from (unless_null (kind_cell k) a) 0 (slots_in a)) xs) ≡ true
flat_entries k h [] = refl
flat_entries k h (x ∷ xs) =
    list_all-append is_flat_cell (cells_from (unless_null (kind_cell k) x) 0 (slots_in x)) (flat_map (λ a. cells_from (unless_null (kind_cell k) a) 0 (slots_in a)) xs)
    ∙ rw (flat_run (unless_null (kind_cell k) x) (λ i. flat_unless (is_valid x i) (kind_cell k x i) (flat_kind k x i h)) (range_with_len 0 (slots_in x))) (flat_entries k h xs)

flat_got : (entries : List Cell) (n : ℕ) → list_all is_flat_cell entries ≡ true → is_flat_cell (get_or entries n null) ≡ true
flat_got [] n h = refl
flat_got (x ∷ xs) zero h = (and_parts (is_flat_cell x) (list_all is_flat_cell xs) h).0
flat_got (x ∷ xs) (suc n) h = flat_got xs n (and_parts (is_flat_cell x) (list_all is_flat_cell xs) h).1

flat_entry : (entries : List Cell) (z : ℤ) → list_all is_flat_cell entries ≡ true → is_flat_cell (entry_at entries z) ≡ true
flat_entry entries (pos n) h = flat_got entries n h
flat_entry entries (negsuc n) h = refl

-- ---- by the columns

-- cells of slots, each of which has such texts where nothing is found by it
each_texts : (g : ℕ → List Slot) (f : ℕ → Cell) → ((i : ℕ) → list_any is_no_text (g i) ≡ false → has_utf8_texts (f i) ≡ true) → (xs : List ℕ) → list_any is_no_text (flat_map g xs) ≡ false
    → have_utf8_texts (cells_of (map f xs)) ≡ true
unfolding have_utf8_texts
each_texts g f each [] h = refl
each_texts g f each (x ∷ xs) h =
    let both = or_parts (list_any is_no_text (g x)) (list_any is_no_text (flat_map g xs)) (sym (list_any-append is_no_text (g x) (flat_map g xs)) ∙ h) in
    rw (each x both.0) (each_texts g f each xs both.1)

-- a slot, valid or not
if_texts : (b : Bool) (c : Cell) (below : List Slot) → (is_bad_text c ≡ false → list_any is_no_text below ≡ false → has_utf8_texts c ≡ true)
    → is_bad_text (if b then c else null) ≡ false → list_any is_no_text (if b then below else []) ≡ false → has_utf8_texts (if b then c else null) ≡ true
unfolding has_utf8_texts
if_texts true c below good own h = good own h
if_texts false c below good own h = refl

flat_of : (nested : Bool) → not (true && nested) ≡ true → nested ≡ false
flat_of true h = sym h
flat_of false h = refl

mutual
  unfolding cell_at kind_cell part_cells visible visible_below visible_parts has_utf8_texts have_utf8_texts preorder preorder_below preorder_all

  texts_at : (c : Column) (a : Array) (i : ℕ) → list_all has_flat_dictionary (preorder c) ≡ true → list_any is_no_text (visible c a i) ≡ false → has_utf8_texts (cell_at c a i) ≡ true
  texts_at (column name nullable kind (Some index) pairs) a i flat h =
      let nested : is_nested kind ≡ false = flat_of (is_nested kind) (and_parts (not (true && is_nested kind)) (list_all has_flat_dictionary (preorder_below kind)) flat).0 in
      let c : Cell = cell_at (column name nullable kind (Some index) pairs) a i in
      let entry = flat_entry (entries_of_kind kind (dictionary_in a)) (index_at index a i) (flat_entries kind nested (array_list (dictionary_in a))) in
      flat_texts c (flat_unless (is_valid a i) (entry_at (entries_of_kind kind (dictionary_in a)) (index_at index a i)) entry) (or_parts (is_bad_text c) false h).0
  texts_at (column name nullable kind None pairs) a i flat h =
      let below : List Slot = visible_below kind a i in
      let c : Cell = kind_cell kind a i in
      let both = or_parts (is_bad_text (if is_valid a i then c else null)) (list_any is_no_text (if is_valid a i then below else [])) h in
      if_texts (is_valid a i) c below (λ own rest. texts_below kind a i flat own rest) both.0 both.1

  texts_below : (k : Kind) (a : Array) (i : ℕ) → list_all has_flat_dictionary (preorder_below k) ≡ true → is_bad_text (kind_cell k a i) ≡ false → list_any is_no_text (visible_below k a i) ≡ false
      → has_utf8_texts (kind_cell k a i) ≡ true
  texts_below texts a i flat own h = not-false _ own
  texts_below large_texts a i flat own h = not-false _ own
  texts_below (lists item) a i flat own h =
      each_texts (visible item (items_in a)) (cell_at item (items_in a)) (λ k none. texts_at item (items_in a) k flat none) (range_with_len (span_start 4 a i) (span_size 4 a i)) h
  texts_below (large_lists item) a i flat own h =
      each_texts (visible item (items_in a)) (cell_at item (items_in a)) (λ k none. texts_at item (items_in a) k flat none) (range_with_len (span_start 8 a i) (span_size 8 a i)) h
  texts_below (fixed_lists size item) a i flat own h =
      each_texts (visible item (items_in a)) (cell_at item (items_in a)) (λ k none. texts_at item (items_in a) k flat none) (range_with_len (i * size) size) h
  texts_below (structs columns) a i flat own h = texts_of_parts columns (children_in a) i flat h
  texts_below _ a i flat own h = refl

  texts_of_parts : (cs : Columns) (arrays : Arrays) (i : ℕ) → list_all has_flat_dictionary (preorder_all cs) ≡ true → list_any is_no_text (visible_parts cs arrays i) ≡ false
      → have_utf8_texts (part_cells cs arrays i) ≡ true
  texts_of_parts no_column arrays i flat h = refl
  texts_of_parts (and_column c cs) arrays i flat h =
      let flats = and_parts (list_all has_flat_dictionary (preorder c)) (list_all has_flat_dictionary (preorder_all cs)) (sym (list_all-append has_flat_dictionary (preorder c) (preorder_all cs)) ∙ flat) in
      let both = or_parts (list_any is_no_text (visible c (first_array arrays) i)) (list_any is_no_text (visible_parts cs (other_arrays arrays) i))
      (sym (list_any-append is_no_text (visible c (first_array arrays) i) (visible_parts cs (other_arrays arrays) i)) ∙ h) in
      rw (texts_at c (first_array arrays) i flats.0 both.0) (texts_of_parts cs (other_arrays arrays) i flats.1 both.1)

-- ---- a row

one_of : (g : ℕ → List Slot) (start n i : ℕ) → start ≤ i → i < start + n → list_any is_no_text (flat_map g (range_with_len start n)) ≡ false → list_any is_no_text (g i) ≡ false
one_of g start zero i low high h = absurd (omega arith)
one_of g start (suc n) i low high h =
    let both = or_parts (list_any is_no_text (g start)) (list_any is_no_text (flat_map g (range_with_len (start + 1) n))) (sym (list_any-append is_no_text (g start) (flat_map g (range_with_len (start + 1) n))) ∙ h) in
    elim (cases_lt start i) [
      | inl later ↦ one_of g (start + 1) n i (omega arith) (omega arith) both.1
      | inr here ↦ (let e : i ≡ start = omega arith in rw e both.0)
    ]

row_texts : (cs : Columns) (arrays : Arrays) (rows i : ℕ) → list_all has_flat_dictionary (preorder_all cs) ≡ true → list_any is_no_text (visible_in cs arrays rows) ≡ false → i < rows
    → have_utf8_texts (part_cells cs arrays i) ≡ true
unfolding visible_in part_cells have_utf8_texts preorder_all
row_texts no_column arrays rows i flat h within = refl
row_texts (and_column c cs) arrays rows i flat h within =
    let flats = and_parts (list_all has_flat_dictionary (preorder c)) (list_all has_flat_dictionary (preorder_all cs)) (sym (list_all-append has_flat_dictionary (preorder c) (preorder_all cs)) ∙ flat) in
    let own : List Slot = flat_map (visible c (first_array arrays)) (range_with_len 0 rows) in
    let both = or_parts (list_any is_no_text own) (list_any is_no_text (visible_in cs (other_arrays arrays) rows)) (sym (list_any-append is_no_text own (visible_in cs (other_arrays arrays) rows)) ∙ h) in
    rw (texts_at c (first_array arrays) i flats.0 (one_of (visible c (first_array arrays)) 0 rows i (omega arith) (omega arith) both.0)) (row_texts cs (other_arrays arrays) rows i flats.1 both.1 within)

-- of a batch that was read
pub read_texts : (s : PlainSchema) (before : ℕ) (b : RawBatch) (body : List ℕ) (ds : List (List Array)) (arrays : Arrays) (i : ℕ) → list_all has_flat_dictionary (every_column s) ≡ true
    → batch_read s before b body ds ≡ Ok arrays → i < b.length → have_utf8_texts (part_cells (columns_of s.columns) arrays i) ≡ true
unfolding batch_read batch_checks
read_texts s before b body ds arrays i flat h within =
    let cs : Columns = columns_of s.columns in
    let own : Arrays = batch_arrays cs b body ds in
    let found = unless_passed (first_some (batch_checks s before b body ds)) (Ok own) arrays h in
    let same : own ≡ arrays = cc in
    let both = first_some-both (array_checks cs b body own) (slot_checks s before b.length own) found.0 in
    let one = passed (list_any names_no_entry (visible_in cs own b.length)) _ _ both.1 in
    let two = passed (list_any is_no_text (visible_in cs own b.length)) _ _ one.1 in
    subst (λ (x : Arrays). have_utf8_texts (part_cells cs x i) ≡ true) same (row_texts cs own b.length i flat two.0 within)
