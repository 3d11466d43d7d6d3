-- The framing of messages (Arrow columnar format, "Encapsulated message format"; Message.fbs). Every number is little-endian.
use Rattle.std.specs.Prelude.{◌≡◌, ℕ, ◌+◌, ◌^◌, not, List, [], ◌∷◌, ◌++◌, length, drop, take, Option, Some, None, Result, Ok, Err, nat_lt, nat_eq, ◌==◌, if◌then◌else◌, is_none, ◌≤◌, ◌<◌}
use Rattle.std.specs.List.{starts_with}
use Rattle.byteorder.specs.Endian.{little_number}
pub use Rattle.facts.specs.Checks.{when, first_some, unless}
use Rattle.flatbuf.specs.declared.FlatError.{FlatError}
use Rattle.flatbuf.specs.declared.FlatError.TheVariants.{Bounds, VtableSize, Budget}
use Rattle.flatbuf.specs.declared.limits.TheConstants.{MAX_BUFFER_BYTES}
use Rattle.flatbuf.specs.Lookup.{number, Place, slot, target, table_at, scalar_of}
use Rattle.flatbuf.specs.Walk.{Thing, run, root_things, spans}
use Rattle.ipc_message.specs.declared.header_type.TheConstants.{SCHEMA, DICTIONARY_BATCH, RECORD_BATCH}
use Rattle.ipc_message.specs.declared.header_type.HeaderType.{HeaderType}
use Rattle.ipc_message.specs.declared.header_type.HeaderType.TheVariants.{Schema, DictionaryBatch, RecordBatch}
use Rattle.ipc_message.specs.declared.message.TheConstants.{V5}
use Rattle.ipc_message.specs.declared.fault.Fault.{Fault}
use Rattle.ipc_message.specs.declared.fault.Fault.TheVariants.{Truncated, NoContinuation, MetadataSize, FlatBounds, FlatBudget, MetadataVersion, HeaderKind, BodyLength}

-- the continuation marker that each message begins with
abbrev pub continuation_marker : List ℕ
continuation_marker = 255 ∷ 255 ∷ 255 ∷ 255 ∷ []

-- the size that follows it at the end of a stream
abbrev pub no_size : List ℕ
no_size = 0 ∷ 0 ∷ 0 ∷ 0 ∷ []

-- the kind of a message's header, by its number (Message.fbs, `MessageHeader`); other kinds are not read
abbrev pub header_type : ℕ → Option HeaderType
header_type n = if n == SCHEMA then Some Schema else if n == DICTIONARY_BATCH then Some DictionaryBatch else if n == RECORD_BATCH then Some RecordBatch else None

-- a message as bytes: its metadata and its body
pub record Envelope : Type 0 where
  pub metadata : List ℕ
  pub body : List ℕ

-- what the bytes start with: the end of stream, or a message
pub data NextMessage : Type 0 where
  end_of_stream : NextMessage
  message : Envelope → NextMessage

-- how many bytes it takes
abbrev pub taken : NextMessage → ℕ
taken end_of_stream = 8
taken (message m) = 8 + length m.metadata + length m.body

-- ---- the Message table

-- the Message table is the root table
abbrev pub message_table : List ℕ → Place
message_table metadata = table_at metadata (target metadata 0)

-- what is read of it before the header: the table itself, and the content of its slots version, header type, header and bodyLength
unfoldable pub message_things : List ℕ → List Thing
message_things metadata =
    let t = message_table metadata in
    root_things metadata ++ spans 2 (slot metadata t 0) ++ spans 1 (slot metadata t 1) ++ spans 4 (slot metadata t 2) ++ spans 8 (slot metadata t 3)

unfoldable pub version_of : List ℕ → ℕ
version_of metadata = scalar_of 2 0 metadata (slot metadata (message_table metadata) 0)

unfoldable pub type_of : List ℕ → ℕ
type_of metadata = scalar_of 1 0 metadata (slot metadata (message_table metadata) 1)

-- the length of the body, 64 bits read as unsigned
unfoldable pub body_length : List ℕ → ℕ
body_length metadata = scalar_of 8 0 metadata (slot metadata (message_table metadata) 3)

-- ---- the tests of the start of a stream, in order

-- the fault that is reported for what a walk met
abbrev pub flat_fault : FlatError → Fault
flat_fault Bounds = FlatBounds
flat_fault VtableSize = FlatBounds
flat_fault Budget = FlatBudget

abbrev pub walk_fault : Result ℕ FlatError → Option Fault
walk_fault (Ok n) = None
walk_fault (Err e) = Some (flat_fault e)

-- the continuation marker and the size
unfoldable pub marker_faults : List ℕ → List (Option Fault)
marker_faults bytes =
    when (nat_lt (length bytes) 4) Truncated
    ∷ when (not (starts_with nat_eq bytes continuation_marker)) NoContinuation
    ∷ when (nat_lt (length bytes) 8) Truncated
    ∷ []

-- the size of the metadata; a negative one exceeds the limit when it is read as unsigned
unfoldable pub metadata_size : List ℕ → ℕ
metadata_size bytes = number 4 bytes 4

-- the metadata, and all bytes after it
unfoldable pub metadata_in : List ℕ → List ℕ
metadata_in bytes = take (metadata_size bytes) (drop 8 bytes)

unfoldable pub after_metadata : List ℕ → List ℕ
after_metadata bytes = drop (metadata_size bytes) (drop 8 bytes)

-- the size and the presence of the metadata
unfoldable pub size_faults : List ℕ → List (Option Fault)
size_faults bytes =
    when (nat_lt MAX_BUFFER_BYTES (metadata_size bytes)) MetadataSize
    ∷ when (nat_lt (length bytes) (8 + metadata_size bytes)) Truncated
    ∷ []

-- the Message table, if `following` bytes come after the metadata
unfoldable pub message_faults : List ℕ → ℕ → List (Option Fault)
message_faults metadata following =
    walk_fault (run metadata (message_things metadata) 0)
    ∷ when (not (version_of metadata == V5)) MetadataVersion
    ∷ when (is_none (header_type (type_of metadata))) HeaderKind
    ∷ when (not (nat_lt (body_length metadata) (2 ^ 63))) BodyLength
    ∷ when (nat_lt following (body_length metadata)) Truncated
    ∷ []

-- the message with this metadata, followed by these bytes
abbrev pub message_with : List ℕ → List ℕ → NextMessage
message_with metadata following = message (record { metadata = metadata; body = take (body_length metadata) following })

-- what the bytes start with, or the first fault; a size of 0 is the end of stream
unfoldable pub next_message : List ℕ → Result NextMessage Fault
next_message bytes =
    unless (first_some (marker_faults bytes))
    (if metadata_size bytes == 0 then Ok end_of_stream
    else unless (first_some (size_faults bytes ++ message_faults (metadata_in bytes) (length (after_metadata bytes))))
    (Ok (message_with (metadata_in bytes) (after_metadata bytes))))

-- the fault that a result reports
abbrev pub fault_of : {X : Type 0} → Result X Fault → Option Fault
fault_of (Ok x) = None
fault_of (Err f) = Some f

-- ---- the relation

-- a valid message: its metadata passes the tests above, and its body has the length that it states
pub record IsMessage (m : Envelope) : Type 0 where
  pub small : length m.metadata ≤ MAX_BUFFER_BYTES
  pub some : 0 < length m.metadata
  pub sound : first_some (message_faults m.metadata (length m.body)) ≡ None
  pub whole : length m.body ≡ body_length m.metadata

-- the bytes are a message followed by others: continuation marker, size of the metadata, metadata, body
pub record Framed (bytes : List ℕ) (m : Envelope) (others : List ℕ) : Type 0 where
  pub size : List ℕ
  pub parts : bytes ≡ continuation_marker ++ (size ++ (m.metadata ++ (m.body ++ others)))
  pub four : length size ≡ 4
  pub size_is : little_number 4 size ≡ length m.metadata

-- the bytes are these messages one after another, followed by the rest
abbrev pub Frames : List ℕ → List Envelope → List ℕ → Type 0
Frames bytes [] rest = bytes ≡ rest
Frames bytes (m ∷ ms) rest = IsMessage m × ((others : List ℕ) × Framed bytes m others × Frames others ms rest)
