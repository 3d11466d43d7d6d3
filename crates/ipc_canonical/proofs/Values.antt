-- The columns of the dictionaries of written arrays: those of the columns that have dictionaries, in preorder.
use Rattle.std.specs.Prelude.{Some, None, flat_map}
use Rattle.std.proofs.Common.{◌≡◌, ◌≤◌, List, [], ◌∷◌, ◌++◌, map, length, refl, sym, ap, ◌∙◌, arith, length-append}
use Rattle.std.proofs.lemmas.List.{map-append}
use Rattle.std.proofs.lemmas.List.Concat.{flat_map-append}
use Rattle.arrow_schema.specs.Column.{Kind, Column, Columns, nulls, booleans, integers, dates, timestamps, texts, large_texts, binaries, large_binaries, fixed_binaries, lists, large_lists, fixed_lists, structs, column, no_column, and_column}
use Rattle.cells.specs.Cell.{Cell}
use Rattle.cells.specs.Dictionary.{item_list, part_list}
use Rattle.columns.specs.Array.{Array, Arrays, no_array, items_in, children_in, first_array, other_arrays}
use Rattle.columns.specs.Buffers.{typed_dictionaries, dictionaries_of}
use Rattle.columns.specs.Built.{fixed_items, built, built_kind, built_parts, first_cell, other_cells}
use Rattle.columns.specs.Tests.{Typed, typed, arrays_at, arrays_below, every_array}
use Rattle.arrays.specs.Known.{own_values, values_in, dictionary_values}

-- ---- they are those of the columns

abbrev columns_in : List Typed → List Column
columns_in ts = map (λ t. t.column) (flat_map typed_dictionaries ts)

columns_in-append : (ts us : List Typed) → columns_in (ts ++ us) ≡ columns_in ts ++ columns_in us
columns_in-append ts us =
    ap (map (λ (t : Typed). t.column)) (flat_map-append typed_dictionaries ts us)
    ∙ map-append (λ (t : Typed). t.column) (flat_map typed_dictionaries ts) (flat_map typed_dictionaries us)

mutual
  unfolding built arrays_at

  values_at : (c : Column) (cells : List Cell) (a : Array) → columns_in (arrays_at c (built c cells)) ≡ values_in (arrays_at c a)
  values_at (column name nullable kind (Some index) pairs) cells a = refl
  values_at (column name nullable kind None pairs) cells a = values_below (column name nullable kind None pairs) kind cells a

  -- of an array without a dictionary, and of all below it
  values_below : (c : Column) (k : Kind) (cells : List Cell) (a : Array) → columns_in (typed c (built_kind k cells) ∷ arrays_below k (built_kind k cells)) ≡ values_in (arrays_below k a)
  values_below c nulls cells a = refl
  values_below c booleans cells a = refl
  values_below c (integers bits signed) cells a = refl
  values_below c (dates unit) cells a = refl
  values_below c (timestamps unit timezone) cells a = refl
  values_below c texts cells a = refl
  values_below c large_texts cells a = refl
  values_below c binaries cells a = refl
  values_below c large_binaries cells a = refl
  values_below c (fixed_binaries width) cells a = refl
  values_below c (lists item) cells a = values_at item (flat_map item_list cells) (items_in a)
  values_below c (large_lists item) cells a = values_at item (flat_map item_list cells) (items_in a)
  values_below c (fixed_lists size item) cells a = values_at item (flat_map (fixed_items size) cells) (items_in a)
  values_below c (structs columns) cells a = values_of columns (map part_list cells) (children_in a)

  values_of : (cs : Columns) (rows : List (List Cell)) (xs : Arrays) → columns_in (every_array cs (built_parts cs rows)) ≡ values_in (every_array cs xs)
  values_of no_column rows xs = refl
  values_of (and_column c cs) rows xs =
      columns_in-append (arrays_at c (built c (map first_cell rows))) (every_array cs (built_parts cs (map other_cells rows)))
      ∙ (λ i. values_at c (map first_cell rows) (first_array xs) i ++ values_of cs (map other_cells rows) (other_arrays xs) i)
      ∙ sym (flat_map-append (λ (t : Typed). own_values t.column) (arrays_at c (first_array xs)) (every_array cs (other_arrays xs)))

pub columns_of_dictionaries : (cs : Columns) (rows : List (List Cell)) → map (λ t. t.column) (dictionaries_of cs (built_parts cs rows)) ≡ dictionary_values cs
columns_of_dictionaries cs rows = values_of cs rows no_array

-- ---- how many there are

own_few : (c : Column) → length (own_values c) ≤ 1
own_few (column name nullable kind None pairs) = omega arith
own_few (column name nullable kind (Some index) pairs) = omega arith

pub few_values : (ts : List Typed) → length (values_in ts) ≤ length ts
few_values [] = omega arith
few_values (t ∷ ts) =
    let here = own_few t.column in
    let rest = few_values ts in
    omega (arith, here, rest, length-append (own_values t.column) (values_in ts))
