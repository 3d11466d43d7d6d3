-- Cells from which an array can be built that reads back as them.
use Rattle.std.specs.Prelude.{ℕ, ◌-◌, ◌^◌, Bool, true, false, ◌&&◌, nat_le, List, [], ◌∷◌, map, length, is_some, Some, None, if◌then◌else◌}
use Rattle.std.specs.List.{flat_map, list_all}
use Rattle.arrow_schema.specs.Column.{Index, Kind, Column, Columns, is_bit_width, nulls, booleans, integers, dates, timestamps, texts, large_texts, binaries, large_binaries, fixed_binaries, lists, large_lists, fixed_lists, structs, column, no_column, and_column}
use Rattle.cells.specs.Cell.{Cell}
use Rattle.cells.specs.Dictionary.{entry_in, entries_of, item_list, part_list}
use Rattle.cells.specs.Fit.{null_or, fits_kind}
use Rattle.columns.specs.Built.{contents_of, fixed_items, first_cell, other_cells}

-- each cell is a null or fits the type
abbrev pub are_nulls_or_fit : Kind → List Cell → Bool
are_nulls_or_fit kind cells = list_all (null_or true (fits_kind kind)) cells

-- the cell is a null, or a value that a dictionary can hold
abbrev pub is_null_or_entry : Cell → Bool
is_null_or_entry c = null_or true (λ value. is_some (entry_in value)) c

-- indices of this type can name n entries
abbrev pub names_entries : Index → ℕ → Bool
names_entries index n = is_bit_width index.bits && nat_le n (if index.signed then 2 ^ (index.bits - 1) else 2 ^ index.bits)

-- the largest signed offsets of 32 and of 64 bits
abbrev pub small_offset : ℕ
small_offset = 2 ^ 31 - 1

abbrev pub large_offset : ℕ
large_offset = 2 ^ 63 - 1

-- offsets up to `most` reach the end of the contents of all texts or binaries, and of the items of all lists
abbrev pub contents_fit : (most : ℕ) → List Cell → Bool
contents_fit most cells = nat_le (length (flat_map contents_of cells)) most

abbrev pub items_fit : (most : ℕ) → List Cell → Bool
items_fit most cells = nat_le (length (flat_map item_list cells)) most

unfoldable mutual
  pub can_build : Column → List Cell → Bool
  can_build (column name nullable kind None pairs) = λ cells. are_nulls_or_fit kind cells && can_build_below kind cells
  can_build (column name nullable kind (Some index) pairs) =
      λ cells. list_all is_null_or_entry cells && (names_entries index (length (entries_of cells)) && (are_nulls_or_fit kind (entries_of cells) && can_build_below kind (entries_of cells)))

  pub can_build_below : Kind → List Cell → Bool
  can_build_below nulls = λ cells. true
  can_build_below booleans = λ cells. true
  can_build_below (integers bits signed) = λ cells. is_bit_width bits
  can_build_below (dates unit) = λ cells. true
  can_build_below (timestamps unit timezone) = λ cells. true
  can_build_below texts = contents_fit small_offset
  can_build_below large_texts = contents_fit large_offset
  can_build_below binaries = contents_fit small_offset
  can_build_below large_binaries = contents_fit large_offset
  can_build_below (fixed_binaries width) = λ cells. true
  can_build_below (lists item) = λ cells. items_fit small_offset cells && can_build item (flat_map item_list cells)
  can_build_below (large_lists item) = λ cells. items_fit large_offset cells && can_build item (flat_map item_list cells)
  can_build_below (fixed_lists size item) = λ cells. can_build item (flat_map (fixed_items size) cells)
  can_build_below (structs columns) = λ cells. can_build_parts columns (map part_list cells)

  pub can_build_parts : Columns → List (List Cell) → Bool
  can_build_parts no_column = λ rows. true
  can_build_parts (and_column c cs) = λ rows. can_build c (map first_cell rows) && can_build_parts cs (map other_cells rows)

-- the row has exactly one cell for each column
abbrev pub has_each_part : Columns → List Cell → Bool
has_each_part no_column [] = true
has_each_part no_column (c ∷ cells) = false
has_each_part (and_column f columns) [] = false
has_each_part (and_column f columns) (c ∷ cells) = has_each_part columns cells

-- the arrays of these rows can be built
abbrev pub can_build_rows : Columns → List (List Cell) → Bool
can_build_rows columns rows = list_all (has_each_part columns) rows && can_build_parts columns rows
