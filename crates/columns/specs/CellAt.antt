-- The cell at a slot of an array (Arrow columnar format, "Physical Memory Layout"), read from the bytes of the array alone.
use Rattle.std.specs.Prelude.{ℕ, ◌+◌, ◌-◌, ◌*◌, ◌/◌, Bool, true, ◌==◌, ◌||◌, ℤ, pos, negsuc, List, length, map, take, drop, get_or, Option, Some, None, if◌then◌else◌}
use Rattle.std.specs.List.{flat_map, range_with_len}
use Rattle.byteorder.specs.Endian.{little_number}
use Rattle.arrow_schema.specs.Column.{Index, Kind, Column, Columns, nulls, booleans, integers, dates, timestamps, texts, large_texts, binaries, large_binaries, fixed_binaries, lists, large_lists, fixed_lists, structs, column, no_column, and_column}
use Rattle.bitmap.specs.Bits.{bit}
use Rattle.cells.specs.Cell.{Cell, Cells, null, boolean, number, text, bytes, items, parts, no_cell, and_cell, cells_of, cell_list}
use Rattle.cells.specs.Fit.{date_bits}
use Rattle.cells.specs.Integers.{integer_of}
use Rattle.columns.specs.Array.{Array, Arrays, slots_in, validity_in, bits_in, values_in, offsets_in, contents_in, items_in, children_in, indices_in, dictionary_in, array_list, first_array, other_arrays}

-- "Validity bitmaps": a slot is valid if its bit is set; every slot is valid if the bitmap is empty
abbrev pub is_valid : Array → ℕ → Bool
is_valid a i = length (validity_in a) == 0 || bit (validity_in a) i

-- the little-endian number of this width at index k
abbrev pub number_at : (width : ℕ) → List ℕ → ℕ → ℕ
number_at width numbers k = little_number width (drop (k * width) numbers)

-- the same as an integer, in two's complement if it is signed
abbrev pub integer_at : (width : ℕ) → (signed : Bool) → List ℕ → ℕ → ℤ
integer_at width signed numbers k = integer_of width signed (number_at width numbers k)

-- the bytes of the value of this width at index k
abbrev pub value_at : (width : ℕ) → List ℕ → ℕ → List ℕ
value_at width values k = take width (drop (k * width) values)

-- ---- "Variable-size Binary Layout", "Variable-size List Layout": slot i spans from offset i up to offset i + 1. Offsets are signed, but read as
-- unsigned here: an array with a negative one is refused

abbrev pub span_start : (width : ℕ) → Array → ℕ → ℕ
span_start width a i = number_at width (offsets_in a) i

abbrev pub span_size : (width : ℕ) → Array → ℕ → ℕ
span_size width a i = number_at width (offsets_in a) (i + 1) - number_at width (offsets_in a) i

abbrev pub contents_at : (width : ℕ) → Array → ℕ → List ℕ
contents_at width a i = take (span_size width a i) (drop (span_start width a i) (contents_in a))

-- ---- cells

-- the n cells from slot `start` on
abbrev pub cells_from : (ℕ → Cell) → (start n : ℕ) → List Cell
cells_from f start n = map f (range_with_len start n)

-- the cells in the span of slot i
abbrev pub span_cells : (width : ℕ) → (ℕ → Cell) → Array → ℕ → List Cell
span_cells width f a i = cells_from f (span_start width a i) (span_size width a i)

-- the cell of a slot, or a null if the slot is not valid
abbrev pub unless_null : (Array → ℕ → Cell) → Array → ℕ → Cell
unless_null value a i = if is_valid a i then value a i else null

-- "Dictionary-encoded Layout": the entries of a dictionary are the cells of its arrays, one array after another
abbrev pub entries_by : (Array → ℕ → Cell) → Arrays → List Cell
entries_by f dictionary = flat_map (λ a. cells_from (f a) 0 (slots_in a)) (array_list dictionary)

-- the index of a slot
abbrev pub index_at : Index → Array → ℕ → ℤ
index_at index a i = integer_at (index.bits / 8) index.signed (indices_in a) i

-- the number that an index stands for, or none if it is negative
abbrev pub named_number : ℤ → Option ℕ
named_number (pos n) = Some n
named_number (negsuc n) = None

-- the entry that an index names; a negative index, or one past the last entry, names none and gives a null
abbrev pub entry_at : List Cell → ℤ → Cell
entry_at entries (pos n) = get_or entries n null
entry_at entries (negsuc n) = null

unfoldable mutual
  pub cell_at : Column → Array → ℕ → Cell
  cell_at (column name nullable kind None pairs) = unless_null (kind_cell kind)
  cell_at (column name nullable kind (Some index) pairs) = unless_null (λ a i. entry_at (entries_by (unless_null (kind_cell kind)) (dictionary_in a)) (index_at index a i))

  -- the cell of a valid slot
  pub kind_cell : Kind → Array → ℕ → Cell
  kind_cell nulls = λ a i. null
  kind_cell booleans = λ a i. boolean (bit (bits_in a) i)
  kind_cell (integers bits signed) = λ a i. number (integer_at (bits / 8) signed (values_in a) i)
  kind_cell (dates unit) = λ a i. number (integer_at (date_bits unit / 8) true (values_in a) i)
  kind_cell (timestamps unit timezone) = λ a i. number (integer_at 8 true (values_in a) i)
  kind_cell texts = λ a i. text (contents_at 4 a i)
  kind_cell large_texts = λ a i. text (contents_at 8 a i)
  kind_cell binaries = λ a i. bytes (contents_at 4 a i)
  kind_cell large_binaries = λ a i. bytes (contents_at 8 a i)
  kind_cell (fixed_binaries width) = λ a i. bytes (value_at width (values_in a) i)
  kind_cell (lists item) = λ a i. items (cells_of (span_cells 4 (cell_at item (items_in a)) a i))
  kind_cell (large_lists item) = λ a i. items (cells_of (span_cells 8 (cell_at item (items_in a)) a i))
  -- "Fixed-Size List Layout": item k of slot i is the child's slot i * size + k
  kind_cell (fixed_lists size item) = λ a i. items (cells_of (cells_from (cell_at item (items_in a)) (i * size) size))
  kind_cell (structs columns) = λ a i. parts (part_cells columns (children_in a) i)

  -- "Struct Layout": slot i has the children's slots i
  pub part_cells : Columns → Arrays → ℕ → Cells
  part_cells no_column = λ arrays i. no_cell
  part_cells (and_column c cs) = λ arrays i. and_cell (cell_at c (first_array arrays) i) (part_cells cs (other_arrays arrays) i)

-- the item at an index among all items of lists or fixed-size lists
abbrev pub item_at : Column → Array → ℕ → Cell
item_at item a = cell_at item (items_in a)

-- the entries of a dictionary of this type
abbrev pub entries_of_kind : Kind → Arrays → List Cell
entries_of_kind kind dictionary = entries_by (unless_null (kind_cell kind)) dictionary

-- the entry that the index of a slot names
abbrev pub indexed_cell : Index → Kind → Array → ℕ → Cell
indexed_cell index kind a i = entry_at (entries_of_kind kind (dictionary_in a)) (index_at index a i)

-- all cells of an array
abbrev pub cells_in : Column → Array → List Cell
cells_in c a = cells_from (cell_at c a) 0 (slots_in a)

-- "RecordBatch message": row i of a batch has the cell at slot i of each column's array
abbrev pub row_at : Columns → Arrays → ℕ → List Cell
row_at columns arrays i = cell_list (part_cells columns arrays i)

abbrev pub rows_in : Columns → Arrays → (rows : ℕ) → List (List Cell)
rows_in columns arrays rows = map (row_at columns arrays) (range_with_len 0 rows)
