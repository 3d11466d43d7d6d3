-- Which dictionaries some rows can fill: those whose indices name fewer entries than there can be values in these rows. That is at most one in each row,
-- but below a list any number.
use Rattle.std.specs.Prelude.{ℕ, Bool, false, not, is_some, Option, Some, None, ◌||◌}
use Rattle.arrow_schema.specs.Column.{Index, Kind, Column, Columns, nulls, booleans, integers, dates, timestamps, texts, large_texts, binaries, large_binaries, fixed_binaries, lists, large_lists, fixed_lists, structs, column, no_column, and_column}
use Rattle.cells.specs.Dictionary.{entry_limit, is_within}

-- whether this many values, or any number of them, can be more than the indices of a dictionary name
abbrev pub can_exceed : Option ℕ → Option Index → Bool
can_exceed values None = false
can_exceed None (Some i) = is_some (entry_limit i)
can_exceed (Some n) (Some i) = not (is_within (entry_limit i) n)

unfoldable mutual
  -- whether there is one at or below a column, which has so many values
  pub can_fill : Option ℕ → Column → Bool
  can_fill values (column name nullable kind dictionary pairs) = can_exceed values dictionary || can_kind_fill values kind

  pub can_kind_fill : Option ℕ → Kind → Bool
  can_kind_fill values nulls = false
  can_kind_fill values booleans = false
  can_kind_fill values (integers bits signed) = false
  can_kind_fill values (dates unit) = false
  can_kind_fill values (timestamps unit timezone) = false
  can_kind_fill values texts = false
  can_kind_fill values large_texts = false
  can_kind_fill values binaries = false
  can_kind_fill values large_binaries = false
  can_kind_fill values (fixed_binaries width) = false
  can_kind_fill values (lists item) = can_fill None item
  can_kind_fill values (large_lists item) = can_fill None item
  can_kind_fill values (fixed_lists size item) = can_fill None item
  can_kind_fill values (structs columns) = can_any_fill values columns

  pub can_any_fill : Option ℕ → Columns → Bool
  can_any_fill values no_column = false
  can_any_fill values (and_column f fs) = can_fill values f || can_any_fill values fs

-- whether so many rows of these columns can fill one
abbrev pub can_rows_fill : ℕ → Columns → Bool
can_rows_fill rows columns = can_any_fill (Some rows) columns
