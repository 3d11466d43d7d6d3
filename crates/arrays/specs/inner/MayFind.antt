-- What a test may find by the type alone.
use Rattle.std.specs.Prelude.{Bool, false, not, ◌||◌, Some, None, is_some}
use Rattle.arrow_schema.specs.Column.{Kind, Column, Columns, nulls, booleans, integers, dates, timestamps, texts, large_texts, binaries, large_binaries, fixed_binaries, lists, large_lists, fixed_lists, structs, column, no_column, and_column}
use Rattle.arrow_schema.specs.Parts.{is_nullable_column, kind_of_column, index_of_column}
use Rattle.arrays.specs.declared.visible.slot_test.SlotTest.{SlotTest}
use Rattle.arrays.specs.declared.visible.slot_test.SlotTest.TheVariants.{NoEntry, NotUtf8, Forbidden}
use Rattle.arrays.specs.inner.VisibleSpans.{text_width}

-- in the slots of a column themselves
abbrev pub may_find_own : SlotTest → Column → Bool
may_find_own NoEntry c = is_some (index_of_column c)
may_find_own NotUtf8 c = is_some (text_width (kind_of_column c))
may_find_own Forbidden c = not (is_nullable_column c)

unfoldable mutual
  -- in them, or in what is below them
  pub may_find : SlotTest → Column → Bool
  may_find test (column name nullable kind (Some index) pairs) = may_find_own test (column name nullable kind (Some index) pairs)
  may_find test (column name nullable kind None pairs) = may_find_own test (column name nullable kind None pairs) || may_find_below test kind

  pub may_find_below : SlotTest → Kind → Bool
  may_find_below test (lists item) = may_find test item
  may_find_below test (large_lists item) = may_find test item
  may_find_below test (fixed_lists size item) = may_find test item
  may_find_below test (structs columns) = any_may_find test columns
  may_find_below test nulls = false
  may_find_below test booleans = false
  may_find_below test (integers bits signed) = false
  may_find_below test (dates unit) = false
  may_find_below test (timestamps unit timezone) = false
  may_find_below test texts = false
  may_find_below test large_texts = false
  may_find_below test binaries = false
  may_find_below test large_binaries = false
  may_find_below test (fixed_binaries width) = false

  pub any_may_find : SlotTest → Columns → Bool
  any_may_find test no_column = false
  any_may_find test (and_column c cs) = may_find test c || any_may_find test cs
