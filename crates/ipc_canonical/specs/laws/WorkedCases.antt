-- Worked cases of the canonical stream.
use Rattle.std.specs.Prelude.{◌≡◌, ◌++◌, true, false, pos, [], ◌∷◌, codes, Option, Some, None}
use Rattle.arrow_schema.specs.Column.{Index, Kind, integers, texts, column, PlainSchema}
use Rattle.cells.specs.Cell.{null, number, text}
use Rattle.ipc_write.specs.Written.{schema_message, dictionary_message, batch_message, end_of_stream}
use Rattle.ipc_canonical.specs.Canonical.{canonical, piece_messages}

-- schemas of one nullable column
abbrev pub one_column : Kind → Option Index → PlainSchema
one_column kind dictionary = record { columns = column [] true kind dictionary [] ∷ []; pairs = [] }

abbrev pub int32_schema : PlainSchema
int32_schema = one_column (integers 32 true) None

abbrev pub encoded_schema : PlainSchema
encoded_schema = one_column texts (Some (record { bits = 8; signed = true }))

-- without rows there is no record batch and no dictionary
abbrev pub NoRows : Type 0
NoRows = canonical (record { schema = encoded_schema; rows = [] }) ≡ schema_message encoded_schema ++ end_of_stream

-- [1, null]: one node, of two slots and one null; a validity bitmap and the values
abbrev pub NullableIntegers : Type 0
NullableIntegers =
    piece_messages int32_schema ((number (pos 1) ∷ []) ∷ (null ∷ []) ∷ [])
    ≡ batch_message 2 (record { length = 2; null_count = 1 } ∷ []) ((1 ∷ []) ∷ (1 ∷ 0 ∷ 0 ∷ 0 ∷ 0 ∷ 0 ∷ 0 ∷ 0 ∷ []) ∷ [])

-- ["b", "a", "b"]: a dictionary of two entries, and then the batch of indices
abbrev pub Dictionary : Type 0
Dictionary =
    piece_messages encoded_schema ((text (codes "b") ∷ []) ∷ (text (codes "a") ∷ []) ∷ (text (codes "b") ∷ []) ∷ [])
    ≡ dictionary_message 0 false 2 (record { length = 2; null_count = 0 } ∷ []) ([] ∷ (0 ∷ 0 ∷ 0 ∷ 0 ∷ 1 ∷ 0 ∷ 0 ∷ 0 ∷ 2 ∷ 0 ∷ 0 ∷ 0 ∷ []) ∷ codes "ba" ∷ [])
    ++ batch_message 3 (record { length = 3; null_count = 0 } ∷ []) ([] ∷ (0 ∷ 1 ∷ 0 ∷ []) ∷ [])

-- [null]: a dictionary without entries is written, too
abbrev pub NoEntries : Type 0
NoEntries =
    piece_messages encoded_schema ((null ∷ []) ∷ [])
    ≡ dictionary_message 0 false 0 (record { length = 0; null_count = 0 } ∷ []) ([] ∷ (0 ∷ 0 ∷ 0 ∷ 0 ∷ []) ∷ [] ∷ [])
    ++ batch_message 1 (record { length = 1; null_count = 1 } ∷ []) ((0 ∷ []) ∷ (0 ∷ []) ∷ [])

-- two columns with dictionaries have the ids 0 and 1
abbrev pub TwoDictionaries : Type 0
TwoDictionaries =
    piece_messages (record { columns = encoded_schema.columns ++ encoded_schema.columns; pairs = [] }) ((text (codes "b") ∷ null ∷ []) ∷ [])
    ≡ dictionary_message 0 false 1 (record { length = 1; null_count = 0 } ∷ []) ([] ∷ (0 ∷ 0 ∷ 0 ∷ 0 ∷ 1 ∷ 0 ∷ 0 ∷ 0 ∷ []) ∷ codes "b" ∷ [])
    ++ (dictionary_message 1 false 0 (record { length = 0; null_count = 0 } ∷ []) ([] ∷ (0 ∷ 0 ∷ 0 ∷ 0 ∷ []) ∷ [] ∷ [])
    ++ batch_message 1 (record { length = 1; null_count = 0 } ∷ record { length = 1; null_count = 1 } ∷ []) ([] ∷ (0 ∷ []) ∷ (0 ∷ []) ∷ (0 ∷ []) ∷ []))
