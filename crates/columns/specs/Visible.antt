-- The visible slots of an array. Each slot of a column of the batch is visible, and so are the items and parts of a visible slot that is not null
-- (docs/definitions/columns.md). All other slots are hidden: nothing is required of them.
use Rattle.std.specs.Prelude.{ℕ, ◌+◌, ◌*◌, Bool, true, false, not, ◌&&◌, nat_le, ℤ, pos, negsuc, List, [], ◌∷◌, ◌++◌, length, Some, None, if◌then◌else◌}
use Rattle.std.specs.List.{flat_map, range_with_len}
use Rattle.std.specs.Str.{is_utf8}
use Rattle.arrow_schema.specs.Column.{Kind, Column, Columns, nulls, booleans, integers, dates, timestamps, texts, large_texts, binaries, large_binaries, fixed_binaries, lists, large_lists, fixed_lists, structs, column, no_column, and_column}
use Rattle.arrow_schema.specs.Parts.{is_nullable_column}
use Rattle.cells.specs.Cell.{Cell, text}
pub use Rattle.cells.specs.Nulls.{is_null}
use Rattle.columns.specs.Array.{Array, Arrays, items_in, children_in, dictionary_in, first_array, other_arrays}
use Rattle.columns.specs.CellAt.{is_valid, cell_at, span_start, span_size, index_at, entries_of_kind}

-- a slot, with its column and its array
pub record Slot : Type 0 where
  pub column : Column
  pub array : Array
  pub place : ℕ

abbrev pub slot : Column → Array → ℕ → Slot
slot c a i = record { column = c; array = a; place = i }

unfoldable mutual
  -- a visible slot and the slots below it that it makes visible, in preorder. The entries of a dictionary are checked when its batch is read
  pub visible : Column → Array → ℕ → List Slot
  visible (column name nullable kind (Some index) pairs) = λ a i. slot (column name nullable kind (Some index) pairs) a i ∷ []
  visible (column name nullable kind None pairs) = λ a i. slot (column name nullable kind None pairs) a i ∷ (if is_valid a i then visible_below kind a i else [])

  pub visible_below : Kind → Array → ℕ → List Slot
  visible_below (lists item) = λ a i. flat_map (visible item (items_in a)) (range_with_len (span_start 4 a i) (span_size 4 a i))
  visible_below (large_lists item) = λ a i. flat_map (visible item (items_in a)) (range_with_len (span_start 8 a i) (span_size 8 a i))
  visible_below (fixed_lists size item) = λ a i. flat_map (visible item (items_in a)) (range_with_len (i * size) size)
  visible_below (structs columns) = λ a i. visible_parts columns (children_in a) i
  visible_below nulls = λ a i. []
  visible_below booleans = λ a i. []
  visible_below (integers bits signed) = λ a i. []
  visible_below (dates unit) = λ a i. []
  visible_below (timestamps unit timezone) = λ a i. []
  visible_below texts = λ a i. []
  visible_below large_texts = λ a i. []
  visible_below binaries = λ a i. []
  visible_below large_binaries = λ a i. []
  visible_below (fixed_binaries width) = λ a i. []

  pub visible_parts : Columns → Arrays → ℕ → List Slot
  visible_parts no_column = λ arrays i. []
  visible_parts (and_column c cs) = λ arrays i. visible c (first_array arrays) i ++ visible_parts cs (other_arrays arrays) i

-- all visible slots of a batch with this many rows, column by column
unfoldable pub visible_in : Columns → Arrays → (rows : ℕ) → List Slot
visible_in no_column arrays rows = []
visible_in (and_column c cs) arrays rows = flat_map (visible c (first_array arrays)) (range_with_len 0 rows) ++ visible_in cs (other_arrays arrays) rows

-- ---- tests of a visible slot

abbrev pub cell_of : Slot → Cell
cell_of s = cell_at s.column s.array s.place

-- F23: a null in a column that is not nullable
abbrev pub is_forbidden : Slot → Bool
is_forbidden s = not (is_nullable_column s.column) && is_null (cell_of s)

-- F15: a text that is not UTF-8
abbrev pub is_bad_text : Cell → Bool
is_bad_text (text t) = not (is_utf8 t)
is_bad_text _ = false

abbrev pub is_no_text : Slot → Bool
is_no_text s = is_bad_text (cell_of s)

-- F26: a valid slot whose index is negative or past the last entry
abbrev pub is_past : ℤ → List Cell → Bool
is_past (pos n) entries = nat_le (length entries) n
is_past (negsuc n) entries = true

abbrev pub has_bad_index : Column → Array → ℕ → Bool
has_bad_index (column name nullable kind None pairs) a i = false
has_bad_index (column name nullable kind (Some index) pairs) a i = is_valid a i && is_past (index_at index a i) (entries_of_kind kind (dictionary_in a))

abbrev pub names_no_entry : Slot → Bool
names_no_entry s = has_bad_index s.column s.array s.place
