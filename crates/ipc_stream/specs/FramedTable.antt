-- A stream and its table in the words of the format: messages one after another, of which the first is the schema and each other a dictionary batch
-- or a record batch, and then no bytes or the end of stream (Arrow columnar format, "IPC Streaming Format", "RecordBatch message" and "Dictionary
-- Messages").
use Rattle.std.specs.Prelude.{◌≡◌, ◌<◌, ◌⊎◌, ℕ, Bool, List, [], ◌∷◌, ◌++◌, length, get_or, Option, Some, None, Ok}
use Rattle.arrow_schema.specs.Column.{columns_of}
use Rattle.cells.specs.Cell.{Cell, PlainTable}
use Rattle.columns.specs.Array.{Arrays}
use Rattle.columns.specs.CellAt.{row_at}
use Rattle.dictionary.specs.InEffect.{DictionaryBatch}
use Rattle.arrays.specs.Dictionaries.{dictionary_read}
use Rattle.ipc_message.specs.Checks.{checked_schema}
use Rattle.ipc_message.specs.Convert.{plain_schema_of}
use Rattle.ipc_message.specs.Framing.{Envelope, Frames, continuation_marker, no_size}
use Rattle.ipc_message.specs.Header.{header}
use Rattle.ipc_message.specs.Raw.{RawSchema, RawDictionaryBatch, RawBatch, schema_header, dictionary_header, batch_header}
use Rattle.ipc_stream.specs.Meaning.{Known, known_first, with_dictionary, with_rows}
use Rattle.ipc_stream.specs.Progress.{known_batch}

-- what may follow the last message: no bytes, or the end of stream alone
abbrev pub IsEnd : List ℕ → Type 0
IsEnd rest = (rest ≡ []) ⊎ (rest ≡ continuation_marker ++ no_size)

-- ---- one message

-- the message is a schema that passes its checks
pub record IsSchema (supported : ℕ → Bool) (m : Envelope) (s : RawSchema) : Type 0 where
  pub decoded : header supported m.metadata ≡ Ok (schema_header s)
  pub checked : checked_schema supported s ≡ Ok (plain_schema_of s)

-- the rows of a record batch: row j has the cells at slot j of its arrays, which use the dictionaries in effect at the batch
pub record AreRowsOf (k : Known) (b : RawBatch) (body : List ℕ) (rows : List (List Cell)) : Type 0 where
  pub arrays : Arrays
  pub read : known_batch k b body ≡ Ok arrays
  pub count : length rows ≡ b.length
  pub each : (j : ℕ) → j < b.length → get_or rows j [] ≡ row_at (columns_of k.schema.columns) arrays j

-- the message is a batch in the state k: a dictionary batch is appended to those before it, and the rows of a record batch to the rows before them
pub data IsBatch (supported : ℕ → Bool) (k : Known) (m : Envelope) (after : Known) : Type 0 where
  of_dictionary : (d : RawDictionaryBatch) (b : DictionaryBatch) → header supported m.metadata ≡ Ok (dictionary_header d)
      → dictionary_read k.columns k.dictionaries d m.body ≡ Ok b → after ≡ with_dictionary k b → IsBatch supported k m after
  of_rows : (b : RawBatch) (rows : List (List Cell)) → header supported m.metadata ≡ Ok (batch_header b)
      → AreRowsOf k b m.body rows → after ≡ with_rows k rows → IsBatch supported k m after

-- the first message is a schema, and every other one a batch
abbrev pub IsRead : (ℕ → Bool) → (before : Option Known) → Envelope → (after : Known) → Type 0
IsRead supported None m after = (s : RawSchema) × IsSchema supported m s × (after ≡ known_first s)
IsRead supported (Some k) m after = IsBatch supported k m after

-- ---- messages one after another

-- each message is read after those before it
abbrev pub AreRead : (ℕ → Bool) → (before : Option Known) → List Envelope → (after : Option Known) → Type 0
AreRead supported before [] after = before ≡ after
AreRead supported before (m ∷ ms) after = (k : Known) × IsRead supported before m k × AreRead supported (Some k) ms after

-- the stream encodes the table
pub record StreamEncodes (supported : ℕ → Bool) (bytes : List ℕ) (t : PlainTable) : Type 0 where
  pub first : Envelope
  pub others : List Envelope
  pub rest : List ℕ
  pub framed : Frames bytes (first ∷ others) rest
  pub ended : IsEnd rest
  pub schema : RawSchema
  pub is_schema : IsSchema supported first schema
  pub schema_is : plain_schema_of schema ≡ t.schema
  pub last : Known
  pub are_batches : AreRead supported (Some (known_first schema)) others (Some last)
  pub rows_are : last.rows ≡ t.rows
