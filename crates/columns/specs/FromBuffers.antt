-- The arrays that the nodes and buffers of a batch stand for (Arrow columnar format, "RecordBatch message"). They are assigned to the columns in
-- preorder. A column with a dictionary has the layout of its indices, and takes the next dictionary.
use Rattle.std.specs.Prelude.{ℕ, List, [], ◌∷◌, length, drop, get_or, Some, None}
use Rattle.std.specs.List.{flat_map}
use Rattle.arrow_schema.specs.Column.{Index, Kind, Column, Columns, nulls, booleans, integers, dates, timestamps, texts, large_texts, binaries, large_binaries, fixed_binaries, lists, large_lists, fixed_lists, structs, column, no_column, and_column}
use Rattle.columns.specs.Array.{Array, Arrays, Layout, array, arrays_of, no_array, and_array, empty_array, null_layout, bit_layout, fixed_layout, binary_layout, list_layout, fixed_list_layout, struct_layout, dictionary_layout}
use Rattle.columns.specs.Tests.{arrays_at}
use Rattle.columns.specs.Buffers.{Node, column_buffers}

-- how many nodes, buffers and dictionaries a column takes with its children, whatever their contents
abbrev pub node_count : Column → ℕ
node_count c = length (arrays_at c empty_array)

abbrev pub buffer_count : Column → ℕ
buffer_count c = length (flat_map (λ t. column_buffers t.column t.array) (arrays_at c empty_array))

abbrev pub own_index : Column → List Index
own_index (column name nullable kind None pairs) = []
own_index (column name nullable kind (Some index) pairs) = index ∷ []

abbrev pub dictionary_count : Column → ℕ
dictionary_count c = length (flat_map (λ t. own_index t.column) (arrays_at c empty_array))

-- the slots of the first node
abbrev pub first_slots : List Node → ℕ
first_slots [] = 0
first_slots (n ∷ nodes) = n.slots

abbrev pub buffer_at : List (List ℕ) → ℕ → List ℕ
buffer_at buffers k = get_or buffers k []

-- an array whose validity bitmap is the first buffer
abbrev pub array_with : List Node → List (List ℕ) → Layout → Array
array_with nodes buffers layout = array (first_slots nodes) (buffer_at buffers 0) layout

unfoldable mutual
  pub array_from : Column → List Node → (buffers : List (List ℕ)) → (dictionaries : List (List Array)) → Array
  array_from (column name nullable kind None pairs) = kind_array_from kind
  array_from (column name nullable kind (Some index) pairs) =
      λ nodes buffers dictionaries. array_with nodes buffers (dictionary_layout (buffer_at buffers 1) (arrays_of (get_or dictionaries 0 [])))

  pub kind_array_from : Kind → List Node → List (List ℕ) → List (List Array) → Array
  kind_array_from nulls = λ nodes buffers dictionaries. array (first_slots nodes) [] null_layout
  kind_array_from booleans = λ nodes buffers dictionaries. array_with nodes buffers (bit_layout (buffer_at buffers 1))
  kind_array_from (integers bits signed) = λ nodes buffers dictionaries. array_with nodes buffers (fixed_layout (buffer_at buffers 1))
  kind_array_from (dates unit) = λ nodes buffers dictionaries. array_with nodes buffers (fixed_layout (buffer_at buffers 1))
  kind_array_from (timestamps unit timezone) = λ nodes buffers dictionaries. array_with nodes buffers (fixed_layout (buffer_at buffers 1))
  kind_array_from texts = λ nodes buffers dictionaries. array_with nodes buffers (binary_layout (buffer_at buffers 1) (buffer_at buffers 2))
  kind_array_from large_texts = λ nodes buffers dictionaries. array_with nodes buffers (binary_layout (buffer_at buffers 1) (buffer_at buffers 2))
  kind_array_from binaries = λ nodes buffers dictionaries. array_with nodes buffers (binary_layout (buffer_at buffers 1) (buffer_at buffers 2))
  kind_array_from large_binaries = λ nodes buffers dictionaries. array_with nodes buffers (binary_layout (buffer_at buffers 1) (buffer_at buffers 2))
  kind_array_from (fixed_binaries width) = λ nodes buffers dictionaries. array_with nodes buffers (fixed_layout (buffer_at buffers 1))
  kind_array_from (lists item) = λ nodes buffers dictionaries. array_with nodes buffers (list_layout (buffer_at buffers 1) (array_from item (drop 1 nodes) (drop 2 buffers) dictionaries))
  kind_array_from (large_lists item) = λ nodes buffers dictionaries. array_with nodes buffers (list_layout (buffer_at buffers 1) (array_from item (drop 1 nodes) (drop 2 buffers) dictionaries))
  kind_array_from (fixed_lists size item) = λ nodes buffers dictionaries. array_with nodes buffers (fixed_list_layout (array_from item (drop 1 nodes) (drop 1 buffers) dictionaries))
  kind_array_from (structs columns) = λ nodes buffers dictionaries. array_with nodes buffers (struct_layout (arrays_from columns (drop 1 nodes) (drop 1 buffers) dictionaries))

  pub arrays_from : Columns → List Node → List (List ℕ) → List (List Array) → Arrays
  arrays_from no_column = λ nodes buffers dictionaries. no_array
  arrays_from (and_column c cs) =
      λ nodes buffers dictionaries. and_array (array_from c nodes buffers dictionaries) (arrays_from cs (drop (node_count c) nodes) (drop (buffer_count c) buffers) (drop (dictionary_count c) dictionaries))
