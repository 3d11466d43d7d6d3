-- The number of arrays that columns have does not depend on the arrays.
use Rattle.std.proofs.Common.{◌≡◌, ◌+◌, suc, length, length-append, refl, sym, ap, ◌∙◌, Some, None}
use Rattle.arrow_schema.specs.Column.{Kind, Column, Columns, lists, large_lists, fixed_lists, structs, column, no_column, and_column}
use Rattle.columns.specs.Array.{Array, Arrays, items_in, children_in, first_array, other_arrays}
use Rattle.columns.specs.Tests.{arrays_at, arrays_below, every_array}

mutual
  unfolding arrays_at arrays_below every_array

  pub as_many_at : (c : Column) (a b : Array) → length (arrays_at c a) ≡ length (arrays_at c b)
  as_many_at (column name nullable kind (Some index) pairs) a b = refl
  as_many_at (column name nullable kind None pairs) a b = ap suc (as_many_below kind a b)

  as_many_below : (k : Kind) (a b : Array) → length (arrays_below k a) ≡ length (arrays_below k b)
  as_many_below (lists item) a b = as_many_at item (items_in a) (items_in b)
  as_many_below (large_lists item) a b = as_many_at item (items_in a) (items_in b)
  as_many_below (fixed_lists size item) a b = as_many_at item (items_in a) (items_in b)
  as_many_below (structs columns) a b = as_many columns (children_in a) (children_in b)
  as_many_below _ a b = refl

  pub as_many : (cs : Columns) (xs ys : Arrays) → length (every_array cs xs) ≡ length (every_array cs ys)
  as_many no_column xs ys = refl
  as_many (and_column c cs) xs ys =
      length-append (arrays_at c (first_array xs)) (every_array cs (other_arrays xs))
      ∙ (λ j. as_many_at c (first_array xs) (first_array ys) j + as_many cs (other_arrays xs) (other_arrays ys) j)
      ∙ sym (length-append (arrays_at c (first_array ys)) (every_array cs (other_arrays ys)))
