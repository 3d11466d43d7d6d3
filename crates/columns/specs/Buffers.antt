-- The nodes and buffers of a record batch (Arrow columnar format, "RecordBatch message"): those of each array, parents before children.
use Rattle.std.specs.Prelude.{ℕ, true, List, [], ◌∷◌, map, Some, None}
use Rattle.std.specs.List.{flat_map}
use Rattle.arrow_schema.specs.Column.{Kind, Column, Columns, nulls, booleans, integers, dates, timestamps, texts, large_texts, binaries, large_binaries, fixed_binaries, lists, large_lists, fixed_lists, structs, column}
use Rattle.columns.specs.Array.{Array, Arrays, slots_in, validity_in, bits_in, values_in, offsets_in, contents_in, indices_in, dictionary_in, array_list}
use Rattle.columns.specs.Tests.{Typed, every_array, unset_bits}

-- a FieldNode: the number of slots, and how many of them are null
pub record Node : Type 0 where
  pub slots : ℕ
  pub null_count : ℕ

-- every slot of the null type is null
abbrev pub null_count : Column → Array → ℕ
null_count (column name nullable nulls None pairs) a = slots_in a
null_count (column name nullable kind dictionary pairs) a = unset_bits (validity_in a) (slots_in a)

abbrev pub node_of : Typed → Node
node_of t = record { slots = slots_in t.array; null_count = null_count t.column t.array }

-- the buffers of an array, without those of its children
abbrev pub kind_buffers : Kind → Array → List (List ℕ)
kind_buffers nulls a = []
kind_buffers booleans a = validity_in a ∷ bits_in a ∷ []
kind_buffers (integers bits signed) a = validity_in a ∷ values_in a ∷ []
kind_buffers (dates unit) a = validity_in a ∷ values_in a ∷ []
kind_buffers (timestamps unit timezone) a = validity_in a ∷ values_in a ∷ []
kind_buffers texts a = validity_in a ∷ offsets_in a ∷ contents_in a ∷ []
kind_buffers large_texts a = validity_in a ∷ offsets_in a ∷ contents_in a ∷ []
kind_buffers binaries a = validity_in a ∷ offsets_in a ∷ contents_in a ∷ []
kind_buffers large_binaries a = validity_in a ∷ offsets_in a ∷ contents_in a ∷ []
kind_buffers (fixed_binaries width) a = validity_in a ∷ values_in a ∷ []
kind_buffers (lists item) a = validity_in a ∷ offsets_in a ∷ []
kind_buffers (large_lists item) a = validity_in a ∷ offsets_in a ∷ []
kind_buffers (fixed_lists size item) a = validity_in a ∷ []
kind_buffers (structs columns) a = validity_in a ∷ []

abbrev pub column_buffers : Column → Array → List (List ℕ)
column_buffers (column name nullable kind None pairs) a = kind_buffers kind a
column_buffers (column name nullable kind (Some index) pairs) a = validity_in a ∷ indices_in a ∷ []

abbrev pub nodes_of : Columns → Arrays → List Node
nodes_of columns arrays = map node_of (every_array columns arrays)

abbrev pub buffers_of : Columns → Arrays → List (List ℕ)
buffers_of columns arrays = flat_map (λ t. column_buffers t.column t.array) (every_array columns arrays)

-- ---- the dictionaries of a batch, in the order of their columns: each becomes a batch of one column of its value type

abbrev pub value_column : Column → Column
value_column (column name nullable kind dictionary pairs) = column [] true kind None []

abbrev pub typed_dictionaries : Typed → List Typed
typed_dictionaries t = map (λ a. record { column = value_column t.column; array = a }) (array_list (dictionary_in t.array))

abbrev pub dictionaries_of : Columns → Arrays → List Typed
dictionaries_of columns arrays = flat_map typed_dictionaries (every_array columns arrays)
