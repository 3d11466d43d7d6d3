-- The bytes of the messages of a stream (Arrow columnar format, "Encapsulated message format").
use Rattle.std.specs.Prelude.{ℕ, ◌+◌, ◌-◌, ◌%◌, ◌^◌, ◌<◌, ◌≤◌, Bool, false, List, [], ◌∷◌, ◌++◌, map, length, replicate}
use Rattle.byteorder.specs.Endian.{little_bytes}
use Rattle.flatbuf.specs.Tree.{Tree}
use Rattle.flatbuf.specs.Laid.{metadata}
use Rattle.flatbuf.specs.Held.{FitsStructs}
use Rattle.arrow_schema.specs.Column.{PlainSchema}
use Rattle.ipc_message.specs.declared.header_type.TheConstants.{SCHEMA, DICTIONARY_BATCH, RECORD_BATCH}
use Rattle.ipc_message.specs.Framing.{continuation_marker, no_size, Envelope}
use Rattle.ipc_message.specs.Raw.{RawNode, RawBuffer, RawBatch, RawDictionaryBatch}
use Rattle.ipc_write.specs.declared.contents.TheConstants.{MAX_BATCH_NODES, MAX_BATCH_BUFFERS}
use Rattle.ipc_write.specs.Trees.{schema_tree, batch_tree, dictionary_tree, message_tree, node_pair}

-- the continuation marker, the size of the metadata, the metadata, and the body
abbrev pub framed : List ℕ → List ℕ → List ℕ
framed metadata body = continuation_marker ++ (little_bytes 4 (length metadata) ++ (metadata ++ body))

-- a message with a header of this type, as a reader finds it
abbrev pub envelope : ℕ → Tree → List ℕ → Envelope
envelope type header body = record { metadata = metadata (message_tree type header (length body)); body = body }

-- its bytes
abbrev pub message_bytes : ℕ → Tree → List ℕ → List ℕ
message_bytes type header body = framed (metadata (message_tree type header (length body))) body

-- bytes padded with zeros to a multiple of 8
abbrev pub padded : List ℕ → List ℕ
padded bytes = bytes ++ replicate ((8 - length bytes % 8) % 8) 0

-- the body of a batch: its buffers, each padded to a multiple of 8
abbrev pub body : List (List ℕ) → List ℕ
body [] = []
body (buffer ∷ buffers) = padded buffer ++ body buffers

-- the offset and length of each buffer, the first at the offset `at`
abbrev pub placed : ℕ → List (List ℕ) → List RawBuffer
placed at [] = []
placed at (buffer ∷ buffers) = record { offset = at; length = length buffer } ∷ placed (at + length (padded buffer)) buffers

-- a batch of `rows` rows with these nodes and buffers
abbrev pub batch_of : ℕ → List RawNode → List (List ℕ) → RawBatch
batch_of rows nodes buffers = record { length = rows; nodes = nodes; buffers = placed 0 buffers; compressed = false }

-- the entries of the dictionary with this id: all of them, or more of them in a delta
abbrev pub dictionary_batch_of : ℕ → Bool → ℕ → List RawNode → List (List ℕ) → RawDictionaryBatch
dictionary_batch_of id is_delta rows nodes buffers = record { id = id; batch = batch_of rows nodes buffers; is_delta = is_delta }

-- the messages of a schema, which has no body, of a dictionary batch and of a record batch
unfoldable pub schema_message : PlainSchema → List ℕ
schema_message s = message_bytes SCHEMA (schema_tree s) []

unfoldable pub dictionary_message : ℕ → Bool → ℕ → List RawNode → List (List ℕ) → List ℕ
dictionary_message id is_delta rows nodes buffers = message_bytes DICTIONARY_BATCH (dictionary_tree (dictionary_batch_of id is_delta rows nodes buffers)) (body buffers)

unfoldable pub batch_message : ℕ → List RawNode → List (List ℕ) → List ℕ
batch_message rows nodes buffers = message_bytes RECORD_BATCH (batch_tree (batch_of rows nodes buffers)) (body buffers)

-- the same messages as a reader finds them
abbrev pub schema_envelope : PlainSchema → Envelope
schema_envelope s = envelope SCHEMA (schema_tree s) []

abbrev pub dictionary_envelope : ℕ → Bool → ℕ → List RawNode → List (List ℕ) → Envelope
dictionary_envelope id is_delta rows nodes buffers = envelope DICTIONARY_BATCH (dictionary_tree (dictionary_batch_of id is_delta rows nodes buffers)) (body buffers)

abbrev pub batch_envelope : ℕ → List RawNode → List (List ℕ) → Envelope
batch_envelope rows nodes buffers = envelope RECORD_BATCH (batch_tree (batch_of rows nodes buffers)) (body buffers)

-- a message has room for this number of nodes, and for these buffers
pub record HasRoom (nodes : ℕ) (buffers : List (List ℕ)) : Type 0 where
  pub few_nodes : nodes ≤ MAX_BATCH_NODES
  pub few_buffers : length buffers ≤ MAX_BATCH_BUFFERS
  pub short_body : length (body buffers) < 2 ^ 62

-- a batch that a message has room for, and whose numbers fit in 64 bits
pub record IsWritableBatch (rows : ℕ) (nodes : List RawNode) (buffers : List (List ℕ)) : Type 0 where
  pub rows_fit : rows < 2 ^ 64
  pub nodes_fit : FitsStructs (map node_pair nodes)
  pub room : HasRoom (length nodes) buffers

-- the end of stream
abbrev pub end_of_stream : List ℕ
end_of_stream = continuation_marker ++ no_size
