-- Types whose cells may weigh differently.
use Rattle.std.specs.Prelude.{Bool, true, false, ◌||◌}
use Rattle.arrow_schema.specs.Column.{Kind, Column, Columns, nulls, booleans, integers, dates, timestamps, texts, large_texts, binaries, large_binaries, fixed_binaries, lists, large_lists, fixed_lists, structs, column, no_column, and_column}

unfoldable mutual
  pub may_vary_in : Column → Bool
  may_vary_in (column name nullable kind dictionary pairs) = may_vary kind

  pub may_vary : Kind → Bool
  may_vary nulls = false
  may_vary booleans = false
  may_vary (integers bits signed) = false
  may_vary (dates unit) = false
  may_vary (timestamps unit timezone) = false
  may_vary texts = true
  may_vary large_texts = true
  may_vary binaries = true
  may_vary large_binaries = true
  may_vary (fixed_binaries width) = false
  may_vary (lists item) = true
  may_vary (large_lists item) = true
  may_vary (fixed_lists size item) = may_vary_in item
  may_vary (structs columns) = any_may_vary columns

  pub any_may_vary : Columns → Bool
  any_may_vary no_column = false
  any_may_vary (and_column c cs) = may_vary_in c || any_may_vary cs
