-- Arrays that have the layout of their column, at every level; and the dictionaries of a batch as a reader gets them.
use Rattle.std.specs.Prelude.{◌≡◌, List, [], ◌∷◌, Some, None}
use Rattle.std.specs.List.{flat_map}
use Rattle.arrow_schema.specs.Column.{Kind, Column, Columns, nulls, booleans, integers, dates, timestamps, texts, large_texts, binaries, large_binaries, fixed_binaries, lists, large_lists, fixed_lists, structs, column, no_column, and_column}
use Rattle.columns.specs.Array.{Array, Arrays, array, slots_in, validity_in, bits_in, values_in, offsets_in, contents_in, items_in, children_in, indices_in, dictionary_in, array_list, no_array, and_array, first_array, other_arrays, Layout, null_layout, bit_layout, fixed_layout, binary_layout, list_layout, fixed_list_layout, struct_layout, dictionary_layout}
use Rattle.columns.specs.Tests.{Typed, every_array}

-- with any slots and validity bitmap
abbrev pub IsLaid : Array → Layout → Type 0
IsLaid a layout = a ≡ array (slots_in a) (validity_in a) layout

unfoldable mutual
  pub HasLayout : Column → Array → Type 0
  HasLayout (column name nullable kind None pairs) = HasKindLayout kind
  HasLayout (column name nullable kind (Some index) pairs) = λ a. IsLaid a (dictionary_layout (indices_in a) (dictionary_in a))

  pub HasKindLayout : Kind → Array → Type 0
  HasKindLayout nulls = λ a. a ≡ array (slots_in a) [] null_layout
  HasKindLayout booleans = λ a. IsLaid a (bit_layout (bits_in a))
  HasKindLayout (integers bits signed) = λ a. IsLaid a (fixed_layout (values_in a))
  HasKindLayout (dates unit) = λ a. IsLaid a (fixed_layout (values_in a))
  HasKindLayout (timestamps unit timezone) = λ a. IsLaid a (fixed_layout (values_in a))
  HasKindLayout texts = λ a. IsLaid a (binary_layout (offsets_in a) (contents_in a))
  HasKindLayout large_texts = λ a. IsLaid a (binary_layout (offsets_in a) (contents_in a))
  HasKindLayout binaries = λ a. IsLaid a (binary_layout (offsets_in a) (contents_in a))
  HasKindLayout large_binaries = λ a. IsLaid a (binary_layout (offsets_in a) (contents_in a))
  HasKindLayout (fixed_binaries width) = λ a. IsLaid a (fixed_layout (values_in a))
  HasKindLayout (lists item) = λ a. IsLaid a (list_layout (offsets_in a) (items_in a)) × HasLayout item (items_in a)
  HasKindLayout (large_lists item) = λ a. IsLaid a (list_layout (offsets_in a) (items_in a)) × HasLayout item (items_in a)
  HasKindLayout (fixed_lists size item) = λ a. IsLaid a (fixed_list_layout (items_in a)) × HasLayout item (items_in a)
  HasKindLayout (structs columns) = λ a. IsLaid a (struct_layout (children_in a)) × HaveLayouts columns (children_in a)

  pub HaveLayouts : Columns → Arrays → Type 0
  HaveLayouts no_column = λ arrays. arrays ≡ no_array
  HaveLayouts (and_column c cs) = λ arrays. (arrays ≡ and_array (first_array arrays) (other_arrays arrays)) × HasLayout c (first_array arrays) × HaveLayouts cs (other_arrays arrays)

-- the arrays of the dictionary of each column that has one, in preorder
abbrev pub own_dictionary_arrays : Typed → List (List Array)
own_dictionary_arrays t = dictionary_with t.column t.array
  where
    dictionary_with : Column → Array → List (List Array)
    dictionary_with (column name nullable kind None pairs) a = []
    dictionary_with (column name nullable kind (Some index) pairs) a = array_list (dictionary_in a) ∷ []

abbrev pub dictionary_arrays : Columns → Arrays → List (List Array)
dictionary_arrays columns arrays = flat_map own_dictionary_arrays (every_array columns arrays)
