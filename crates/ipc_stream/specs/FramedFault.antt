-- A stream and its fault: messages that are read, and then bytes that are refused.
use Rattle.std.specs.Prelude.{◌≡◌, ◌≢◌, ℕ, Bool, List, [], drop, Option, Some, None, Ok, Err}
use Rattle.arrays.specs.Dictionaries.{dictionary_read}
use Rattle.ipc_message.specs.declared.header_type.TheConstants.{SCHEMA}
use Rattle.ipc_message.specs.declared.fault.Fault.{Fault}
use Rattle.ipc_message.specs.declared.fault.Fault.TheVariants.{NoSchema, SecondSchema, AfterEnd}
use Rattle.ipc_message.specs.Checks.{checked_schema}
use Rattle.ipc_message.specs.Framing.{Envelope, Frames, next_message, end_of_stream, message, taken, type_of}
use Rattle.ipc_message.specs.Header.{header}
use Rattle.ipc_message.specs.Raw.{RawSchema, RawDictionaryBatch, RawBatch, schema_header, dictionary_header, batch_header}
use Rattle.ipc_stream.specs.FramedTable.{AreRead}
use Rattle.ipc_stream.specs.Meaning.{Known}
use Rattle.ipc_stream.specs.Progress.{known_batch}

-- ---- one message

-- the first message is of the schema type, and every other message of another type
abbrev pub IsInOrder : (before : Option Known) → Envelope → Type 0
IsInOrder None m = type_of m.metadata ≡ SCHEMA
IsInOrder (Some k) m = type_of m.metadata ≢ SCHEMA

-- why a message is refused in this state: it is out of order, its header does not decode, or the decoded content is refused. The order depends on the
-- type alone and is checked first
pub data IsBad (supported : ℕ → Bool) (before : Option Known) (m : Envelope) (fault : Fault) : Type 0 where
  no_schema : before ≡ None → type_of m.metadata ≢ SCHEMA → fault ≡ NoSchema → IsBad supported before m fault
  second_schema : before ≢ None → type_of m.metadata ≡ SCHEMA → fault ≡ SecondSchema → IsBad supported before m fault
  bad_header : IsInOrder before m → header supported m.metadata ≡ Err fault → IsBad supported before m fault
  bad_schema : (s : RawSchema) → before ≡ None → header supported m.metadata ≡ Ok (schema_header s) → checked_schema supported s ≡ Err fault
      → IsBad supported before m fault
  bad_dictionary : (k : Known) (d : RawDictionaryBatch) → before ≡ Some k → header supported m.metadata ≡ Ok (dictionary_header d)
      → dictionary_read k.columns k.dictionaries d m.body ≡ Err fault → IsBad supported before m fault
  bad_batch : (k : Known) (b : RawBatch) → before ≡ Some k → header supported m.metadata ≡ Ok (batch_header b) → known_batch k b m.body ≡ Err fault
      → IsBad supported before m fault

-- ---- messages one after another

-- why the bytes after the messages that were read are refused: they are no message, the message is refused, the stream ends before its schema, or
-- bytes follow its end of stream
pub data IsRefused (supported : ℕ → Bool) (before : Option Known) (rest : List ℕ) (fault : Fault) : Type 0 where
  no_next_message : rest ≢ [] → next_message rest ≡ Err fault → IsRefused supported before rest fault
  bad_message : (m : Envelope) → next_message rest ≡ Ok (message m) → IsBad supported before m fault → IsRefused supported before rest fault
  nothing : rest ≡ [] → before ≡ None → fault ≡ NoSchema → IsRefused supported before rest fault
  only_end_of_stream : next_message rest ≡ Ok end_of_stream → before ≡ None → fault ≡ NoSchema → IsRefused supported before rest fault
  after_end_of_stream : next_message rest ≡ Ok end_of_stream → before ≢ None → drop (taken end_of_stream) rest ≢ [] → fault ≡ AfterEnd
      → IsRefused supported before rest fault

-- the stream has this fault
pub record FaultStands (supported : ℕ → Bool) (bytes : List ℕ) (fault : Fault) : Type 0 where
  pub messages : List Envelope
  pub known : Option Known
  pub rest : List ℕ
  pub framed : Frames bytes messages rest
  pub are_read : AreRead supported None messages known
  pub refused : IsRefused supported known rest fault
