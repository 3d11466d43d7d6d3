-- A dictionary's values have no more columns than the schema at all levels, so their batch can be framed.
use Rattle.std.specs.List.{AllByRecursion, flat_map}
use Rattle.std.proofs.Common.{◌≤◌, ℕ, List, [], ◌∷◌, map, length, Some, None, arith, subst, sym, length-append}
use Rattle.std.proofs.ByRecursion.{All-append}
use Rattle.std.proofs.lemmas.List.Concat.{flat_map-cons}
use Rattle.arrow_schema.specs.Column.{Kind, Column, Columns, nulls, booleans, integers, dates, timestamps, texts, large_texts, binaries, large_binaries, fixed_binaries, lists, large_lists, fixed_lists, structs, column, no_column, and_column}
use Rattle.arrow_schema.specs.Preorder.{preorder, preorder_below, preorder_all}
use Rattle.columns.specs.Alone.{own_column}
use Rattle.columns.specs.Array.{Array, Arrays, array_list, dictionary_in, items_in, children_in, first_array, other_arrays}
use Rattle.columns.specs.Buffers.{value_column, typed_dictionaries, dictionaries_of}
use Rattle.columns.specs.Tests.{Typed, arrays_at, arrays_below, every_array}

-- it has at most `most` columns, counting all levels
abbrev pub HasFew : ℕ → Typed → Type 0
HasFew most t = length (preorder t.column) ≤ most

mutual
  unfolding arrays_at preorder

  few_at : (most : ℕ) (c : Column) (a : Array) → length (preorder c) ≤ most → AllByRecursion (HasFew most) (arrays_at c a)
  few_at most (column name nullable kind None pairs) a few = (few, few_below most kind a (omega (arith, few)))
  few_at most (column name nullable kind (Some index) pairs) a few = (few, tt)

  few_below : (most : ℕ) (k : Kind) (a : Array) → length (preorder_below k) ≤ most → AllByRecursion (HasFew most) (arrays_below k a)
  few_below most nulls a few = tt
  few_below most booleans a few = tt
  few_below most (integers bits signed) a few = tt
  few_below most (dates unit) a few = tt
  few_below most (timestamps unit timezone) a few = tt
  few_below most texts a few = tt
  few_below most large_texts a few = tt
  few_below most binaries a few = tt
  few_below most large_binaries a few = tt
  few_below most (fixed_binaries width) a few = tt
  few_below most (lists item) a few = few_at most item (items_in a) few
  few_below most (large_lists item) a few = few_at most item (items_in a) few
  few_below most (fixed_lists size item) a few = few_at most item (items_in a) few
  few_below most (structs columns) a few = few_of most columns (children_in a) few

  few_of : (most : ℕ) (cs : Columns) (xs : Arrays) → length (preorder_all cs) ≤ most → AllByRecursion (HasFew most) (every_array cs xs)
  few_of most no_column xs few = tt
  few_of most (and_column c cs) xs few =
      let both = length-append (preorder c) (preorder_all cs) in
      All-append (HasFew most) (arrays_at c (first_array xs)) (every_array cs (other_arrays xs)) (few_at most c (first_array xs) (omega (arith, few, both)))
      (few_of most cs (other_arrays xs) (omega (arith, few, both)))

-- the same for the column of a dictionary's values
abbrev HasFewOwn : ℕ → Typed → Type 0
HasFewOwn most t = length (preorder_all (own_column t)) ≤ most

own_few : (most : ℕ) (c : Column) → length (preorder c) ≤ most → length (preorder_all (and_column (value_column c) no_column)) ≤ most
unfolding preorder
own_few most (column name nullable kind dictionary pairs) few = omega (arith, few, length-append (preorder_below kind) [])

each_own : (most : ℕ) (c : Column) (xs : List Array) → length (preorder c) ≤ most → AllByRecursion (HasFewOwn most) (map (λ a. record { column = value_column c; array = a }) xs)
each_own most c [] few = tt
each_own most c (x ∷ xs) few = (own_few most c few, each_own most c xs few)

each_few : (most : ℕ) (ts : List Typed) → AllByRecursion (HasFew most) ts → AllByRecursion (HasFewOwn most) (flat_map typed_dictionaries ts)
each_few most [] few = tt
each_few most (t ∷ ts) few =
    subst (AllByRecursion (HasFewOwn most)) (sym (flat_map-cons typed_dictionaries t ts))
    (All-append (HasFewOwn most) (typed_dictionaries t) (flat_map typed_dictionaries ts) (each_own most t.column (array_list (dictionary_in t.array)) few.0) (each_few most ts few.1))

pub dictionaries_have_few : (most : ℕ) (cs : Columns) (xs : Arrays) → length (preorder_all cs) ≤ most → AllByRecursion (λ t. length (preorder_all (own_column t)) ≤ most) (dictionaries_of cs xs)
dictionaries_have_few most cs xs few = each_few most (every_array cs xs) (few_of most cs xs few)
