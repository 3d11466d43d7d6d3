-- The one stream that a table of any types is written as: its schema; for each piece of its rows, its dictionaries and then its record batch; and the
-- end of stream.
use Rattle.std.specs.Prelude.{ℕ, ◌+◌, false, List, [], ◌∷◌, ◌++◌, length, map}
use Rattle.std.specs.List.{flat_map}
use Rattle.arrow_schema.specs.Column.{Columns, columns_of, PlainSchema}
use Rattle.cells.specs.Cell.{Cell, PlainTable}
use Rattle.columns.specs.Array.{Arrays, arrays_of, slots_in}
use Rattle.columns.specs.Buffers.{buffers_of, dictionaries_of}
use Rattle.columns.specs.Built.{built_parts}
use Rattle.columns.specs.Tests.{Typed}
use Rattle.ipc_write.specs.Written.{schema_message, dictionary_message, batch_message, end_of_stream}
use Rattle.table_cut.specs.Piece.{pieces_of}
use Rattle.ipc_canonical.specs.WrittenBatch.{raw_nodes}

-- all entries of a dictionary: a batch of the single column of its values
abbrev pub entries_message : (id : ℕ) → Typed → List ℕ
entries_message id t =
    dictionary_message id false (slots_in t.array) (raw_nodes (columns_of (t.column ∷ [])) (arrays_of (t.array ∷ [])))
    (buffers_of (columns_of (t.column ∷ [])) (arrays_of (t.array ∷ [])))

-- the same for several dictionaries, numbered from `id` on: columns with dictionaries are numbered in preorder
abbrev pub entries_messages : (id : ℕ) → List Typed → List ℕ
entries_messages id [] = []
entries_messages id (t ∷ ts) = entries_message id t ++ entries_messages (id + 1) ts

-- the messages of a piece: its dictionaries, and then its record batch
abbrev pub arrays_messages : (columns : Columns) → Arrays → (rows : ℕ) → List ℕ
arrays_messages columns arrays rows =
    entries_messages 0 (dictionaries_of columns arrays) ++ batch_message rows (raw_nodes columns arrays) (buffers_of columns arrays)

-- a piece has its own dictionaries, which replace those of the piece before it
unfoldable pub piece_messages : PlainSchema → List (List Cell) → List ℕ
piece_messages s rows = arrays_messages (columns_of s.columns) (built_parts (columns_of s.columns) rows) (length rows)

unfoldable pub canonical : PlainTable → List ℕ
canonical t = schema_message t.schema ++ (flat_map (piece_messages t.schema) (pieces_of t) ++ end_of_stream)

-- the messages of rows that are cut into pieces by themselves
unfoldable pub rows_messages : PlainSchema → List (List Cell) → List ℕ
rows_messages s rows = flat_map (piece_messages s) (pieces_of (record { schema = s; rows = rows }))

-- the parts of a stream whose rows come in several lists: the schema message, the messages of each list, and the end of stream
abbrev pub stream_parts : PlainSchema → List (List (List Cell)) → List (List ℕ)
stream_parts s lists = schema_message s ∷ (map (rows_messages s) lists ++ end_of_stream ∷ [])
