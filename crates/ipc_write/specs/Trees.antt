-- The tables of a message as they are written (docs/formats/writing.md; Message.fbs, Schema.fbs). Each scalar is written even if it is the default,
-- and each vector of fields, children, nodes and buffers even if it is empty.
use Rattle.std.specs.Prelude.{ℕ, ◌+◌, Bool, true, false, List, [], ◌∷◌, map, Option, Some, None}
use Rattle.flatbuf.specs.Tree.{Tree, Nodes, Slots, table, text, references, structs, no_node, and_node, no_slot, absent, scalar, refers}
use Rattle.arrow_schema.specs.Column.{Index, Pair, date_unit_of, time_unit_of, Kind, Column, Columns, nulls, booleans, integers, dates, timestamps, texts, large_texts, binaries, large_binaries, fixed_binaries, lists, large_lists, fixed_lists, structs as struct_kind, column, no_column, and_column, columns_of, PlainSchema}
use Rattle.ipc_message.specs.declared.type_codes.TheConstants.{NULL, INT, BINARY, UTF8, BOOL, DATE, TIMESTAMP, LIST, STRUCT, FIXED_SIZE_BINARY, FIXED_SIZE_LIST, LARGE_BINARY, LARGE_UTF8, LARGE_LIST}
use Rattle.ipc_message.specs.declared.message.TheConstants.{V5}
use Rattle.ipc_message.specs.Raw.{RawNode, RawBuffer, RawBatch, RawDictionaryBatch}

abbrev pub bit : Bool → ℕ
bit true = 1
bit false = 0

-- the code of a type
abbrev pub code_of : Kind → ℕ
code_of nulls = NULL
code_of (integers bits signed) = INT
code_of binaries = BINARY
code_of texts = UTF8
code_of booleans = BOOL
code_of (dates unit) = DATE
code_of (timestamps unit timezone) = TIMESTAMP
code_of (lists item) = LIST
code_of (struct_kind parts) = STRUCT
code_of (fixed_binaries width) = FIXED_SIZE_BINARY
code_of (fixed_lists size item) = FIXED_SIZE_LIST
code_of large_binaries = LARGE_BINARY
code_of large_texts = LARGE_UTF8
code_of (large_lists item) = LARGE_LIST

-- an Int: bitWidth, is_signed
abbrev pub int_tree : ℕ → Bool → Tree
int_tree bits signed = table (scalar 4 bits (scalar 1 (bit signed) no_slot))

-- a timezone is written if there is one
abbrev pub timezone_slot : List ℕ → Slots
timezone_slot [] = no_slot
timezone_slot (b ∷ bs) = refers (text (b ∷ bs)) no_slot

-- the table of a type
abbrev pub type_tree : Kind → Tree
type_tree nulls = table no_slot
type_tree (integers bits signed) = int_tree bits signed
type_tree binaries = table no_slot
type_tree texts = table no_slot
type_tree booleans = table no_slot
type_tree (dates unit) = table (scalar 2 (date_unit_of unit) no_slot)
type_tree (timestamps unit timezone) = table (scalar 2 (time_unit_of unit) (timezone_slot timezone))
type_tree (lists item) = table no_slot
type_tree (struct_kind parts) = table no_slot
type_tree (fixed_binaries width) = table (scalar 4 width no_slot)
type_tree (fixed_lists size item) = table (scalar 4 size no_slot)
type_tree large_binaries = table no_slot
type_tree large_texts = table no_slot
type_tree (large_lists item) = table no_slot

-- a KeyValue: key, value
abbrev pub pair_tree : Pair → Tree
pair_tree p = table (refers (text p.0) (refers (text p.1) no_slot))

abbrev pub pair_nodes : List Pair → Nodes
pair_nodes [] = no_node
pair_nodes (p ∷ ps) = and_node (pair_tree p) (pair_nodes ps)

-- custom_metadata is written if there are pairs
abbrev pub pairs_slot : List Pair → Slots
pairs_slot [] = no_slot
pairs_slot (p ∷ ps) = refers (references (pair_nodes (p ∷ ps))) no_slot

-- a DictionaryEncoding: id, indexType, isOrdered, dictionaryKind
abbrev pub encoding_tree : ℕ → Index → Tree
encoding_tree id index = table (scalar 8 id (refers (int_tree index.bits index.signed) (scalar 1 0 (scalar 2 0 no_slot))))

abbrev pub dictionary_slot : ℕ → Option Index → Slots → Slots
dictionary_slot id None rest = absent rest
dictionary_slot id (Some index) rest = refers (encoding_tree id index) rest

-- a dictionary takes one id
abbrev pub ids_for : Option Index → ℕ
ids_for None = 0
ids_for (Some index) = 1

-- the number of dictionaries of a column and its children
abbrev mutual
  pub ids_of : Column → ℕ
  ids_of (column name nullable kind dictionary pairs) = ids_for dictionary + ids_below kind

  pub ids_below : Kind → ℕ
  ids_below (lists item) = ids_of item
  ids_below (large_lists item) = ids_of item
  ids_below (fixed_lists size item) = ids_of item
  ids_below (struct_kind parts) = ids_of_all parts
  ids_below nulls = 0
  ids_below (integers bits signed) = 0
  ids_below binaries = 0
  ids_below texts = 0
  ids_below booleans = 0
  ids_below (dates unit) = 0
  ids_below (timestamps unit timezone) = 0
  ids_below (fixed_binaries width) = 0
  ids_below large_binaries = 0
  ids_below large_texts = 0

  pub ids_of_all : Columns → ℕ
  ids_of_all no_column = 0
  ids_of_all (and_column c cs) = ids_of c + ids_of_all cs

-- a Field: name, nullable, type code, type, dictionary, children, custom_metadata. Dictionary ids count in preorder, from `id` on.
unfoldable mutual
  pub field_tree : ℕ → Column → Tree
  field_tree id (column name nullable kind dictionary pairs) =
      table (refers (text name) (scalar 1 (bit nullable) (scalar 1 (code_of kind) (refers (type_tree kind)
      (dictionary_slot id dictionary (refers (references (child_nodes (id + ids_for dictionary) kind)) (pairs_slot pairs)))))))

  pub child_nodes : ℕ → Kind → Nodes
  child_nodes id (lists item) = and_node (field_tree id item) no_node
  child_nodes id (large_lists item) = and_node (field_tree id item) no_node
  child_nodes id (fixed_lists size item) = and_node (field_tree id item) no_node
  child_nodes id (struct_kind parts) = field_nodes id parts
  child_nodes id nulls = no_node
  child_nodes id (integers bits signed) = no_node
  child_nodes id binaries = no_node
  child_nodes id texts = no_node
  child_nodes id booleans = no_node
  child_nodes id (dates unit) = no_node
  child_nodes id (timestamps unit timezone) = no_node
  child_nodes id (fixed_binaries width) = no_node
  child_nodes id large_binaries = no_node
  child_nodes id large_texts = no_node

  pub field_nodes : ℕ → Columns → Nodes
  field_nodes id no_column = no_node
  field_nodes id (and_column c cs) = and_node (field_tree id c) (field_nodes (id + ids_of c) cs)

-- a Schema: endianness (little), fields, custom_metadata
abbrev pub schema_tree : PlainSchema → Tree
schema_tree s = table (scalar 2 0 (refers (references (field_nodes 0 (columns_of s.columns))) (pairs_slot s.pairs)))

abbrev pub node_pair : RawNode → ℕ × ℕ
node_pair n = (n.length, n.null_count)

abbrev pub raw_node : ℕ × ℕ → RawNode
raw_node p = record { length = p.0; null_count = p.1 }

abbrev pub buffer_pair : RawBuffer → ℕ × ℕ
buffer_pair b = (b.offset, b.length)

-- a RecordBatch: length, nodes, buffers
abbrev pub batch_tree : RawBatch → Tree
batch_tree b = table (scalar 8 b.length (refers (structs (map node_pair b.nodes)) (refers (structs (map buffer_pair b.buffers)) no_slot)))

-- a DictionaryBatch: id, data, isDelta
abbrev pub dictionary_tree : RawDictionaryBatch → Tree
dictionary_tree d = table (scalar 8 d.id (refers (batch_tree d.batch) (scalar 1 (bit d.is_delta) no_slot)))

-- a Message: version V5, header type, header, bodyLength
abbrev pub message_tree : ℕ → Tree → ℕ → Tree
message_tree type header body_length = table (scalar 2 V5 (scalar 1 type (refers header (scalar 8 body_length no_slot))))
