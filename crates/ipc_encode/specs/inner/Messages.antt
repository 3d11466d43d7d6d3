-- The messages of a piece, and those of what was built for it.
use Rattle.std.specs.Prelude.{◌≡◌, ℕ, ◌+◌, false, List, [], ◌∷◌, ◌++◌, map, length}
use Rattle.arrow_schema.specs.Column.{PlainSchema, columns_of}
use Rattle.ipc_canonical.specs.Canonical.{entries_messages}
use Rattle.batch_build.specs.Batch.{PlainDictionary}
use Rattle.cells.specs.Cell.{Cell}
use Rattle.columns.specs.Buffers.{Node, buffers_of, dictionaries_of}
use Rattle.columns.specs.Built.{built_parts}
use Rattle.ipc_write.specs.Written.{body, batch_message, dictionary_message, HasRoom}
use Rattle.ipc_canonical.specs.WrittenBatch.{raw_node, raw_nodes}

-- the dictionaries of a piece, and its record batch: the two parts of `piece_messages`
abbrev pub entries_of_piece : PlainSchema → List (List Cell) → List ℕ
entries_of_piece s rows = entries_messages 0 (dictionaries_of (columns_of s.columns) (built_parts (columns_of s.columns) rows))

abbrev pub batch_of_piece : PlainSchema → List (List Cell) → List ℕ
batch_of_piece s rows =
    batch_message (length rows) (raw_nodes (columns_of s.columns) (built_parts (columns_of s.columns) rows)) (buffers_of (columns_of s.columns) (built_parts (columns_of s.columns) rows))

-- all entries of the dictionary with this id
abbrev pub built_message : (id : ℕ) → PlainDictionary → List ℕ
built_message id d = dictionary_message id false d.slots (map raw_node d.nodes) d.buffers

-- all entries of several dictionaries, numbered from this id on
abbrev pub built_messages : (id : ℕ) → List PlainDictionary → List ℕ
built_messages id [] = []
built_messages id (d ∷ ds) = built_message id d ++ built_messages (id + 1) ds

-- the record batch of this many rows
abbrev pub built_batch : (rows : ℕ) → List Node → List (List ℕ) → List ℕ
built_batch rows nodes buffers = batch_message rows (map raw_node nodes) buffers

-- all but the body of this record batch
abbrev pub IsFront : (front : List ℕ) (rows : ℕ) → List Node → List (List ℕ) → Type 0
IsFront front rows nodes buffers = front ++ body buffers ≡ built_batch rows nodes buffers

-- and that of any buffers of these lengths
abbrev pub IsFrontFor : (front : List ℕ) (rows : ℕ) → List Node → (lengths : List ℕ) → Type 0
IsFrontFor front rows nodes lengths = (buffers : List (List ℕ)) → map length buffers ≡ lengths → IsFront front rows nodes buffers

-- a message has room for these; whoever writes one makes sure of it
abbrev pub AreFew : List Node → List (List ℕ) → Type 0
AreFew nodes buffers = HasRoom (length nodes) buffers

abbrev pub HasFew : PlainDictionary → Type 0
HasFew d = AreFew d.nodes d.buffers

-- a message has room for buffers of these lengths
abbrev pub AreFewFor : List Node → (lengths : List ℕ) → Type 0
AreFewFor nodes lengths = (buffers : List (List ℕ)) × ((map length buffers ≡ lengths) × AreFew nodes buffers)
