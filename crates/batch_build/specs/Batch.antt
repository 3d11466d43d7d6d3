-- The nodes and buffers of a batch and of its dictionaries, as arrays are added to them (Arrow columnar format, "RecordBatch message" and
-- "DictionaryBatch message").
use Rattle.std.specs.Borrow.{Bor}
use Rattle.std.specs.Prelude.{ℕ, true, List, [], ◌++◌, map, Option}
use Rattle.std.specs.List.{flat_map}
use Rattle.arrow_schema.specs.Column.{Index, Kind, Column, Columns, column}
use Rattle.batch_build.specs.declared.batch.Buffer.{Buffer}
use Rattle.batch_build.specs.declared.batch.Buffer.TheVariants.{Made, Borrowed}
use Rattle.batch_build.specs.declared.batch.BuiltBatch.{BuiltBatch}
use Rattle.batch_build.specs.declared.batch.BuiltBuffer.{BuiltBuffer}
use Rattle.batch_build.specs.declared.batch.BuiltBuffer.TheVariants.{Whole, Slices}
use Rattle.batch_build.specs.declared.batch.BuiltDictionary.{BuiltDictionary}
use Rattle.cells.specs.Cell.{Cell}
use Rattle.columns.specs.Alone.{own_column, own_array}
use Rattle.columns.specs.Array.{slots_in}
use Rattle.columns.specs.Buffers.{Node, node_of, column_buffers, nodes_of, buffers_of, typed_dictionaries}
use Rattle.columns.specs.Built.{built, built_parts}
use Rattle.columns.specs.Tests.{Typed, arrays_at, every_array}

-- the batch of the one column of a dictionary's values
pub record PlainDictionary : Type 0 where
  pub slots : ℕ
  pub nodes : List Node
  pub buffers : List (List ℕ)

pub record PlainBatch : Type 0 where
  pub nodes : List Node
  pub buffers : List (List ℕ)
  pub dictionaries : List PlainDictionary

abbrev pub dictionary_of : Typed → PlainDictionary
dictionary_of t = record { slots = slots_in t.array; nodes = nodes_of (own_column t) (own_array t); buffers = buffers_of (own_column t) (own_array t) }

-- a batch with more arrays: those of each after the ones before
unfoldable pub with_arrays : PlainBatch → List Typed → PlainBatch
with_arrays p ts = record {
  nodes = p.nodes ++ map node_of ts;
  buffers = p.buffers ++ flat_map (λ t. column_buffers t.column t.array) ts;
  dictionaries = p.dictionaries ++ map dictionary_of (flat_map typed_dictionaries ts);
}

abbrev pub no_batch : PlainBatch
no_batch = record { nodes = []; buffers = []; dictionaries = [] }

abbrev pub batch_of : List Typed → PlainBatch
batch_of ts = with_arrays no_batch ts

-- ---- the batch of the code

-- bytes that were made, or borrowed
abbrev pub buffer_bytes : Buffer → List ℕ
buffer_bytes (Made v) = v.items
buffer_bytes (Borrowed b) = b.now

abbrev pub joined_slices : List (Bor (List ℕ)) → List ℕ
joined_slices slices = flat_map (λ (slice : Bor (List ℕ)). slice.now) slices

-- the bytes of a buffer, whole or in slices
abbrev pub built_bytes : BuiltBuffer → List ℕ
built_bytes (Whole b) = buffer_bytes b
built_bytes (Slices v) = joined_slices v.items

abbrev pub buffers_in : List BuiltBuffer → List (List ℕ)
buffers_in buffers = map built_bytes buffers

-- slots, and how many of them are null
abbrev pub node_in : ℕ × ℕ → Node
node_in n = record { slots = n.0; null_count = n.1 }

abbrev pub dictionary_in : BuiltDictionary → PlainDictionary
dictionary_in d = record { slots = d.slots; nodes = map node_in d.nodes.items; buffers = buffers_in d.buffers.items }

unfoldable pub batch_in : BuiltBatch → PlainBatch
batch_in b = record {
  nodes = map node_in b.nodes.items;
  buffers = buffers_in b.buffers.items;
  dictionaries = map dictionary_in b.dictionaries.items;
}

-- ---- the arrays that cells are written as

-- the column of values of a type, whatever its name, and that of a dictionary of them
abbrev pub plain_column : Kind → Option Index → Column
plain_column kind dictionary = column [] true kind dictionary []

abbrev pub built_at : Column → List Cell → List Typed
built_at c cells = arrays_at c (built c cells)

abbrev pub built_below : Columns → List (List Cell) → List Typed
built_below columns rows = every_array columns (built_parts columns rows)
