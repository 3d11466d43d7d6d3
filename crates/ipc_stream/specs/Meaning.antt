-- The meaning of a stream of bytes: a table, or the first fault (Arrow columnar format, "IPC Streaming Format"). `supported` says which type codes
-- are supported.
use Rattle.std.specs.Prelude.{ℕ, zero, suc, Bool, true, false, not, ◌==◌, List, [], ◌∷◌, ◌++◌, length, drop, Option, Some, None, Result, Ok, Err, if◌then◌else◌}
use Rattle.arrow_schema.specs.Column.{PlainSchema, columns_of}
use Rattle.cells.specs.Cell.{Cell, PlainTable}
use Rattle.cells.specs.Weight.{table_weight}
use Rattle.columns.specs.CellAt.{rows_in}
use Rattle.dictionary.specs.InEffect.{DictionaryBatch}
use Rattle.arrays.specs.Checks.{batch_read}
use Rattle.arrays.specs.Dictionaries.{DictionaryColumn, dictionary_columns, dictionaries_after, dictionary_read}
use Rattle.ipc_message.specs.declared.fault.Fault.{Fault}
use Rattle.ipc_message.specs.declared.fault.Fault.TheVariants.{Truncated, NoSchema, SecondSchema, AfterEnd}
use Rattle.ipc_message.specs.declared.header_type.TheConstants.{SCHEMA}
use Rattle.ipc_message.specs.Raw.{RawSchema, RawHeader, schema_header, dictionary_header, batch_header}
use Rattle.ipc_message.specs.Framing.{NextMessage, end_of_stream, message, Envelope, next_message, taken, first_some, unless, when, type_of}
use Rattle.ipc_message.specs.Header.{header}
use Rattle.ipc_message.specs.Convert.{plain_schema_of}
use Rattle.ipc_message.specs.Checks.{schema_checks}

infixl 10 ◌>>=◌
abbrev pub ◌>>=◌ : {A B : Type 0} → Result A Fault → (A → Result B Fault) → Result B Fault
(Ok x) >>= f = f x
(Err e) >>= f = Err e

abbrev pub is_empty : {A : Type 0} → List A → Bool
is_empty [] = true
is_empty (x ∷ xs) = false

-- ---- the state after some messages

-- the schema, its columns with dictionaries, the dictionary batches so far, and the rows of the record batches so far
pub record Known : Type 0 where
  pub schema : PlainSchema
  pub columns : List DictionaryColumn
  pub dictionaries : List DictionaryBatch
  pub rows : List (List Cell)

abbrev pub known_first : RawSchema → Known
known_first s = record { schema = plain_schema_of s; columns = dictionary_columns s; dictionaries = []; rows = [] }

abbrev pub with_dictionary : Known → DictionaryBatch → Known
with_dictionary k b = record { schema = k.schema; columns = k.columns; dictionaries = k.dictionaries ++ b ∷ []; rows = k.rows }

abbrev pub with_rows : Known → List (List Cell) → Known
with_rows k rows = record { schema = k.schema; columns = k.columns; dictionaries = k.dictionaries; rows = k.rows ++ rows }

abbrev pub known_table : Known → PlainTable
known_table k = record { schema = k.schema; rows = k.rows }

-- ---- one message after those before it

-- F9, F10: a batch before the schema, or a second schema
abbrev pub order_fault : Option Known → (header_type : ℕ) → Option Fault
order_fault None header_type = when (not (header_type == SCHEMA)) NoSchema
order_fault (Some k) header_type = when (header_type == SCHEMA) SecondSchema

-- a batch uses the dictionaries that are in effect where it comes
abbrev pub read_after : Known → (body : List ℕ) → RawHeader → Result Known Fault
read_after k body (schema_header s) = Err SecondSchema
read_after k body (dictionary_header d) = dictionary_read k.columns k.dictionaries d body >>= λ b. Ok (with_dictionary k b)
read_after k body (batch_header b) =
    batch_read k.schema (table_weight k.schema k.rows) b body (dictionaries_after k.dictionaries k.columns)
    >>= λ arrays. Ok (with_rows k (rows_in (columns_of k.schema.columns) arrays b.length))

-- the state after a header and its body, or the first fault of their checks; the order of messages depends on the type of the header alone
abbrev pub read_header : (ℕ → Bool) → Option Known → (body : List ℕ) → RawHeader → Result Known Fault
read_header supported None body (schema_header s) = unless (first_some (schema_checks supported s)) (Ok (known_first s))
read_header supported None body _ = Err NoSchema
read_header supported (Some k) body h = read_after k body h

unfoldable pub read_next : (ℕ → Bool) → Option Known → Envelope → Result Known Fault
read_next supported before m = unless (order_fault before (type_of m.metadata)) (header supported m.metadata >>= read_header supported before m.body)

-- ---- the stream

-- the state at the end of the bytes, between two messages
abbrev pub known_at_end : Option Known → Result Known Fault
known_at_end None = Err NoSchema
known_at_end (Some k) = Ok k

-- the state at the end of stream, after which no bytes may follow
abbrev pub known_at_end_of_stream : Option Known → (rest : List ℕ) → Result Known Fault
known_at_end_of_stream before rest = known_at_end before >>= λ k. if is_empty rest then Ok k else Err AfterEnd

abbrev pub by_next_message : {A : Type 0} → NextMessage → A → (Envelope → A) → A
by_next_message end_of_stream x f = x
by_next_message (message m) x f = f m

-- the state at the end, or the first fault; each message takes bytes, so as many steps as bytes are enough
unfoldable pub read_from : (ℕ → Bool) → (steps : ℕ) → Option Known → List ℕ → Result Known Fault
read_from supported zero before bytes = Err Truncated
read_from supported (suc steps) before bytes =
    if is_empty bytes then known_at_end before
    else (next_message bytes >>= λ f. by_next_message f
    (known_at_end_of_stream before (drop 8 bytes))
    (λ m. read_next supported before m >>= λ k. read_from supported steps (Some k) (drop (taken f) bytes)))

-- the table that the bytes mean, or the first fault
unfoldable pub meaning : (ℕ → Bool) → List ℕ → Result PlainTable Fault
meaning supported bytes = read_from supported (suc (length bytes)) None bytes >>= λ k. Ok (known_table k)
