-- Arrays whose dictionaries have the same entries, where indices can name only some.
use Rattle.std.specs.Prelude.{◌≡◌, ℕ, true, List, Some, None, is_some}
use Rattle.std.specs.List.{AllByRecursion}
use Rattle.arrow_schema.specs.Column.{Kind, Column, Columns, nulls, booleans, integers, dates, timestamps, texts, large_texts, binaries, large_binaries, fixed_binaries, lists, large_lists, fixed_lists, structs, column, no_column, and_column}
use Rattle.cells.specs.Cell.{Cell}
use Rattle.cells.specs.Dictionary.{entry_limit}
use Rattle.columns.specs.Array.{Array, Arrays, items_in, children_in, dictionary_in, first_array, other_arrays}
use Rattle.columns.specs.CellAt.{entries_of_kind, row_at}
use Rattle.arrays.specs.Bytes.{have_bytes}

unfoldable mutual
  -- a column has the same entries in another array as in this one, at every level
  pub SharesEntries : Column → Array → Array → Type 0
  SharesEntries (column name nullable kind None pairs) = SharesBelow kind
  SharesEntries (column name nullable kind (Some index) pairs) = λ a b. is_some (entry_limit index) ≡ true → entries_of_kind kind (dictionary_in b) ≡ entries_of_kind kind (dictionary_in a)

  pub SharesBelow : Kind → Array → Array → Type 0
  SharesBelow (lists item) = λ a b. SharesEntries item (items_in a) (items_in b)
  SharesBelow (large_lists item) = λ a b. SharesEntries item (items_in a) (items_in b)
  SharesBelow (fixed_lists size item) = λ a b. SharesEntries item (items_in a) (items_in b)
  SharesBelow (structs columns) = λ a b. ShareEntries columns (children_in a) (children_in b)
  SharesBelow nulls = λ a b. Unit {0}
  SharesBelow booleans = λ a b. Unit {0}
  SharesBelow (integers bits signed) = λ a b. Unit {0}
  SharesBelow (dates unit) = λ a b. Unit {0}
  SharesBelow (timestamps unit timezone) = λ a b. Unit {0}
  SharesBelow texts = λ a b. Unit {0}
  SharesBelow large_texts = λ a b. Unit {0}
  SharesBelow binaries = λ a b. Unit {0}
  SharesBelow large_binaries = λ a b. Unit {0}
  SharesBelow (fixed_binaries width) = λ a b. Unit {0}

  pub ShareEntries : Columns → Arrays → Arrays → Type 0
  ShareEntries no_column = λ own others. Unit {0}
  ShareEntries (and_column c cs) = λ own others. SharesEntries c (first_array own) (first_array others) × ShareEntries cs (other_arrays own) (other_arrays others)

-- a row of arrays of bytes that have the same entries as these
abbrev pub IsRowSharing : Columns → Arrays → List Cell → Type 0
IsRowSharing columns own row = (others : Arrays) × (i : ℕ) × (have_bytes others ≡ true) × ShareEntries columns own others × (row ≡ row_at columns others i)

abbrev pub AreRowsSharing : Columns → Arrays → List (List Cell) → Type 0
AreRowsSharing columns own rows = AllByRecursion (IsRowSharing columns own) rows
