-- The array that cells are written as. Which one it is, is this project's canonical form; its layouts are the standard's (Arrow columnar format,
-- "Physical Memory Layout"): no validity bitmap without a null, offsets from 0, zeros and empty spans at nulls, nothing hidden but nulls.
use Rattle.std.specs.Prelude.{ℕ, ◌+◌, ◌/◌, Bool, false, List, [], ◌∷◌, map, length, replicate, Option, Some, None, position, if◌then◌else◌}
use Rattle.std.specs.List.{flat_map, list_all}
use Rattle.byteorder.specs.Endian.{little_bytes}
use Rattle.arrow_schema.specs.Column.{Index, Kind, Column, Columns, nulls, booleans, integers, dates, timestamps, texts, large_texts, binaries, large_binaries, fixed_binaries, lists, large_lists, fixed_lists, structs, column, no_column, and_column}
use Rattle.bitmap.specs.Bits.{packed}
use Rattle.cells.specs.Cell.{Cell, null, boolean, number, text, bytes}
use Rattle.cells.specs.Nulls.{is_there}
use Rattle.cells.specs.Dictionary.{is_entry, entries_of, item_list, part_list}
use Rattle.cells.specs.Fit.{date_bits}
use Rattle.cells.specs.Integers.{number_of}
use Rattle.columns.specs.Array.{Array, Arrays, Layout, array, no_array, and_array, null_layout, bit_layout, fixed_layout, binary_layout, list_layout, fixed_list_layout, struct_layout, dictionary_layout}

abbrev pub validity_of : List Cell → List ℕ
validity_of cells = if list_all is_there cells then [] else packed (map is_there cells)

abbrev pub with_validity : List Cell → Layout → Array
with_validity cells layout = array (length cells) (validity_of cells) layout

-- ---- what a cell occupies in a buffer; a null is zeros, or nothing

abbrev pub is_set : Cell → Bool
is_set (boolean b) = b
is_set _ = false

abbrev pub integer_bytes : (width : ℕ) → Cell → List ℕ
integer_bytes width (number n) = little_bytes width (number_of width n)
integer_bytes width _ = replicate width 0

abbrev pub fixed_bytes : (width : ℕ) → Cell → List ℕ
fixed_bytes width (bytes b) = b
fixed_bytes width _ = replicate width 0

abbrev pub contents_of : Cell → List ℕ
contents_of (text t) = t
contents_of (bytes b) = b
contents_of _ = []

-- as many items as a fixed-size list has; a null has only null items
abbrev pub fixed_items : (size : ℕ) → Cell → List Cell
fixed_items size null = replicate size null
fixed_items size c = item_list c

abbrev pub place_or_zero : Option ℕ → ℕ
place_or_zero None = 0
place_or_zero (Some i) = i

-- the index of a cell's entry, or 0 for a null
abbrev pub entry_index : List Cell → Cell → ℕ
entry_index entries c = place_or_zero (position (is_entry c) entries)

abbrev pub index_bytes : Index → List Cell → Cell → List ℕ
index_bytes index entries c = little_bytes (index.bits / 8) (entry_index entries c)

-- offsets of this width: 0, followed by the running sums of the sizes
abbrev pub sums_from : ℕ → List ℕ → List ℕ
sums_from sum [] = sum ∷ []
sums_from sum (n ∷ ns) = sum ∷ sums_from (sum + n) ns

abbrev pub offsets_of : (width : ℕ) → (sizes : List ℕ) → List ℕ
offsets_of width sizes = flat_map (little_bytes width) (sums_from 0 sizes)

abbrev pub binary_of : (width : ℕ) → List Cell → Layout
binary_of width cells = binary_layout (offsets_of width (map (λ c. length (contents_of c)) cells)) (flat_map contents_of cells)

abbrev pub list_offsets : (width : ℕ) → List Cell → List ℕ
list_offsets width cells = offsets_of width (map (λ c. length (item_list c)) cells)

-- the first cell of a row, and the others; a missing cell is a null
abbrev pub first_cell : List Cell → Cell
first_cell [] = null
first_cell (c ∷ cells) = c

abbrev pub other_cells : List Cell → List Cell
other_cells [] = []
other_cells (c ∷ cells) = cells

unfoldable mutual
  pub built : Column → List Cell → Array
  built (column name nullable kind None pairs) = built_kind kind
  -- the entries of a dictionary are the distinct values, in order of first occurrence
  built (column name nullable kind (Some index) pairs) =
      λ cells. with_validity cells (dictionary_layout (flat_map (index_bytes index (entries_of cells)) cells) (and_array (built_kind kind (entries_of cells)) no_array))

  pub built_kind : Kind → List Cell → Array
  built_kind nulls = λ cells. array (length cells) [] null_layout
  built_kind booleans = λ cells. with_validity cells (bit_layout (packed (map is_set cells)))
  built_kind (integers bits signed) = λ cells. with_validity cells (fixed_layout (flat_map (integer_bytes (bits / 8)) cells))
  built_kind (dates unit) = λ cells. with_validity cells (fixed_layout (flat_map (integer_bytes (date_bits unit / 8)) cells))
  built_kind (timestamps unit timezone) = λ cells. with_validity cells (fixed_layout (flat_map (integer_bytes 8) cells))
  built_kind texts = λ cells. with_validity cells (binary_of 4 cells)
  built_kind large_texts = λ cells. with_validity cells (binary_of 8 cells)
  built_kind binaries = λ cells. with_validity cells (binary_of 4 cells)
  built_kind large_binaries = λ cells. with_validity cells (binary_of 8 cells)
  built_kind (fixed_binaries width) = λ cells. with_validity cells (fixed_layout (flat_map (fixed_bytes width) cells))
  built_kind (lists item) = λ cells. with_validity cells (list_layout (list_offsets 4 cells) (built item (flat_map item_list cells)))
  built_kind (large_lists item) = λ cells. with_validity cells (list_layout (list_offsets 8 cells) (built item (flat_map item_list cells)))
  built_kind (fixed_lists size item) = λ cells. with_validity cells (fixed_list_layout (built item (flat_map (fixed_items size) cells)))
  built_kind (structs columns) = λ cells. with_validity cells (struct_layout (built_parts columns (map part_list cells)))

  -- one array for each column, built from its cell of each row; these are the arrays of a batch of the rows
  pub built_parts : Columns → List (List Cell) → Arrays
  built_parts no_column = λ rows. no_array
  built_parts (and_column c cs) = λ rows. and_array (built c (map first_cell rows)) (built_parts cs (map other_cells rows))
