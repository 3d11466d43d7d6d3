-- The header of a message: what a reader meets in it, in order, and what it decodes to (Message.fbs, Schema.fbs). An absent table reads as one whose
-- slots are all absent. `supported` says which type codes are supported; `left` is the number of levels of tables that may be below the table in
-- question.
use Rattle.std.specs.Prelude.{ℕ, zero, suc, ◌-◌, Bool, true, false, ◌&&◌, ◌||◌, ◌==◌, if◌then◌else◌, List, [], ◌∷◌, ◌++◌, map, Option, Some, None, option_map, is_some, unwrap_or, Result, Ok, Err}
use Rattle.std.specs.List.{flat_map, list_any}
use Rattle.flatbuf.specs.declared.FlatError.{FlatError}
use Rattle.flatbuf.specs.declared.limits.TheConstants.{MAX_LEVELS}
use Rattle.flatbuf.specs.Lookup.{Place, table_at, slot, elements, text_of, structs_of, scalar_of, is_set, table_behind}
use Rattle.flatbuf.specs.Walk.{Thing, too_deep, missing, run, head_things, table_things, reference_things, spans, vector_at}
use Rattle.arrow_schema.specs.Column.{Pair}
use Rattle.ipc_message.specs.declared.header_type.HeaderType.{HeaderType}
use Rattle.ipc_message.specs.declared.header_type.HeaderType.TheVariants.{Schema, DictionaryBatch, RecordBatch}
use Rattle.ipc_message.specs.declared.type_codes.TheConstants.{NULL, INT, BINARY, UTF8, BOOL, DATE, TIMESTAMP, LIST, STRUCT, FIXED_SIZE_BINARY, FIXED_SIZE_LIST, LARGE_BINARY, LARGE_UTF8, LARGE_LIST}
use Rattle.ipc_message.specs.declared.fault.Fault.{Fault}
use Rattle.ipc_message.specs.Raw.{RawParameters, no_parameters, integer_parameters, byte_width, list_size, date_unit, timestamp_parameters, RawEncoding, RawField, raw_field, no_raw_field, raw_fields_of, RawSchema, RawBatch, RawDictionaryBatch, RawHeader, schema_header, dictionary_header, batch_header, nodes_in, buffers_in}
use Rattle.ipc_message.specs.Framing.{message_table, type_of, header_type, flat_fault}

-- the type codes that are supported
abbrev pub supported_codes : ℕ → Bool
supported_codes code = list_any (λ n. n == code) (
    NULL ∷ INT ∷ BINARY ∷ UTF8 ∷ BOOL ∷ DATE ∷ TIMESTAMP
    ∷ LIST ∷ STRUCT ∷ FIXED_SIZE_BINARY ∷ FIXED_SIZE_LIST ∷ LARGE_BINARY ∷ LARGE_UTF8 ∷ LARGE_LIST ∷ [])

-- slot k of a table that may be absent
abbrev pub slot_in : List ℕ → Option Place → ℕ → Option ℕ
slot_in bytes None k = None
slot_in bytes (Some t) k = slot bytes t k

-- ---- what a reader meets

-- an Int: its bitWidth and is_signed
unfoldable pub int_things : ℕ → List ℕ → Option ℕ → List Thing
int_things left bytes v =
    let t = table_behind bytes v in
    reference_things left bytes v ++ spans 4 (slot_in bytes t 0) ++ spans 1 (slot_in bytes t 1)

-- a FixedSizeBinary or a FixedSizeList: its byteWidth or listSize
unfoldable pub size_things : ℕ → List ℕ → Option ℕ → List Thing
size_things left bytes v = reference_things left bytes v ++ spans 4 (slot_in bytes (table_behind bytes v) 0)

-- a Date: its unit
unfoldable pub date_things : ℕ → List ℕ → Option ℕ → List Thing
date_things left bytes v = reference_things left bytes v ++ spans 2 (slot_in bytes (table_behind bytes v) 0)

-- a Timestamp: its unit and its timezone
unfoldable pub timestamp_things : ℕ → List ℕ → Option ℕ → List Thing
timestamp_things left bytes v =
    let t = table_behind bytes v in
    reference_things left bytes v ++ spans 2 (slot_in bytes t 0) ++ vector_at 1 bytes (slot_in bytes t 1)

-- the table of a type, by its code; the tables of other types are not read
unfoldable pub type_things : (ℕ → Bool) → ℕ → List ℕ → ℕ → Option ℕ → List Thing
type_things supported left bytes code v =
    if code == INT then int_things left bytes v
    else if code == FIXED_SIZE_BINARY || code == FIXED_SIZE_LIST then size_things left bytes v
    else if code == DATE && supported DATE then date_things left bytes v
    else if code == TIMESTAMP && supported TIMESTAMP then timestamp_things left bytes v
    else []

-- a DictionaryEncoding: its id, indexType, isOrdered and dictionaryKind
unfoldable pub encoding_things : ℕ → List ℕ → Option ℕ → List Thing
encoding_things left bytes v =
    let t = table_behind bytes v in
    reference_things left bytes v
    ++ spans 8 (slot_in bytes t 0)
    ++ int_things (left - 1) bytes (slot_in bytes t 1)
    ++ spans 1 (slot_in bytes t 2)
    ++ spans 2 (slot_in bytes t 3)

-- a KeyValue: its key and value
unfoldable pub pair_things : ℕ → List ℕ → ℕ → List Thing
pair_things left bytes at =
    let t = table_at bytes at in
    table_things left bytes at ++ vector_at 1 bytes (slot bytes t 0) ++ vector_at 1 bytes (slot bytes t 1)

-- key/value pairs
unfoldable pub pairs_things : ℕ → List ℕ → Option ℕ → List Thing
pairs_things left bytes v = vector_at 4 bytes v ++ flat_map (pair_things left bytes) (elements bytes v)

-- a field's own table: its name, nullable, type, dictionary, and the vector of its children
unfoldable pub field_table_things : (ℕ → Bool) → ℕ → List ℕ → Place → List Thing
field_table_things supported left bytes t =
    vector_at 1 bytes (slot bytes t 0)
    ++ spans 1 (slot bytes t 1)
    ++ spans 1 (slot bytes t 2)
    ++ type_things supported left bytes (scalar_of 1 0 bytes (slot bytes t 2)) (slot bytes t 3)
    ++ encoding_things left bytes (slot bytes t 4)
    ++ vector_at 4 bytes (slot bytes t 5)

-- a field's slots: its own table, its children by the walk over a child, its custom_metadata
abbrev pub slots_by : (ℕ → List Thing) → (ℕ → Bool) → ℕ → List ℕ → Place → List Thing
slots_by child_things supported left bytes t =
    field_table_things supported left bytes t
    ++ flat_map child_things (elements bytes (slot bytes t 5))
    ++ pairs_things left bytes (slot bytes t 6)

-- the field at a position with all its descendants, with `left` levels left
unfoldable pub field_things : (ℕ → Bool) → ℕ → List ℕ → ℕ → List Thing
field_things supported zero bytes at = too_deep ∷ []
field_things supported (suc left) bytes at = head_things bytes at ++ slots_by (field_things supported left bytes) supported left bytes (table_at bytes at)

-- the slots of a field's table, with `left` levels below it
abbrev pub field_slots : (ℕ → Bool) → ℕ → List ℕ → Place → List Thing
field_slots supported left bytes t = slots_by (field_things supported left bytes) supported left bytes t

-- a Schema: its endianness, fields and custom_metadata
unfoldable pub schema_things : (ℕ → Bool) → ℕ → List ℕ → Option Place → List Thing
schema_things supported left bytes t =
    spans 2 (slot_in bytes t 0)
    ++ vector_at 4 bytes (slot_in bytes t 1)
    ++ flat_map (field_things supported left bytes) (elements bytes (slot_in bytes t 1))
    ++ pairs_things left bytes (slot_in bytes t 2)

-- a RecordBatch: its length, nodes and buffers
unfoldable pub batch_things : List ℕ → Option Place → List Thing
batch_things bytes t = spans 8 (slot_in bytes t 0) ++ vector_at 16 bytes (slot_in bytes t 1) ++ vector_at 16 bytes (slot_in bytes t 2)

-- a table that must be present
abbrev pub needed_things : ℕ → List ℕ → Option ℕ → List Thing
needed_things left bytes None = missing ∷ []
needed_things left bytes (Some at) = reference_things left bytes (Some at)

-- a DictionaryBatch: its id, data and isDelta
unfoldable pub dictionary_things : ℕ → List ℕ → Option Place → List Thing
dictionary_things left bytes t =
    spans 8 (slot_in bytes t 0)
    ++ needed_things left bytes (slot_in bytes t 1)
    ++ batch_things bytes (table_behind bytes (slot_in bytes t 1))
    ++ spans 1 (slot_in bytes t 2)

-- the kind of a message's header
abbrev pub type_in : List ℕ → HeaderType
type_in metadata = unwrap_or (header_type (type_of metadata)) RecordBatch

-- where the header is
abbrev pub header_slot : List ℕ → Option ℕ
header_slot metadata = slot metadata (message_table metadata) 2

-- a header of this type
abbrev pub things_by_type : (ℕ → Bool) → ℕ → List ℕ → Option Place → HeaderType → List Thing
things_by_type supported left bytes t Schema = schema_things supported left bytes t
things_by_type supported left bytes t DictionaryBatch = dictionary_things left bytes t
things_by_type supported left bytes t RecordBatch = batch_things bytes t

-- the header of a message: the walk that follows the things of the Message table, one level below it
unfoldable pub header_things : (ℕ → Bool) → List ℕ → List Thing
header_things supported metadata =
    needed_things (MAX_LEVELS - 1) metadata (header_slot metadata)
    ++ things_by_type supported (MAX_LEVELS - 2) metadata (table_behind metadata (header_slot metadata)) (type_in metadata)

-- ---- what it decodes to

-- the bitWidth and is_signed of an Int, or the default for an absent one
abbrev pub int_or : ℕ × Bool → List ℕ → Option Place → ℕ × Bool
int_or absent bytes None = absent
int_or absent bytes (Some t) = (scalar_of 4 0 bytes (slot bytes t 0), is_set (scalar_of 1 0 bytes (slot bytes t 1)))

abbrev pub int_of : List ℕ → Option Place → ℕ × Bool
int_of bytes t = int_or (0, false) bytes t

-- what the table of a type decodes to; the default unit of a Date is 1, milliseconds
unfoldable pub parameters_in : (ℕ → Bool) → List ℕ → ℕ → Option Place → RawParameters
parameters_in supported bytes code t =
    if code == INT then (let i = int_of bytes t in integer_parameters i.0 i.1)
    else if code == FIXED_SIZE_BINARY then byte_width (scalar_of 4 0 bytes (slot_in bytes t 0))
    else if code == FIXED_SIZE_LIST then list_size (scalar_of 4 0 bytes (slot_in bytes t 0))
    else if code == DATE && supported DATE then date_unit (scalar_of 2 1 bytes (slot_in bytes t 0))
    else if code == TIMESTAMP && supported TIMESTAMP then timestamp_parameters (scalar_of 2 0 bytes (slot_in bytes t 0)) (text_of bytes (slot_in bytes t 1))
    else no_parameters

-- a DictionaryEncoding; the default index type is a signed integer of 32 bits
unfoldable pub encoding_in : List ℕ → Place → RawEncoding
encoding_in bytes t =
    let index = int_or (32, true) bytes (table_behind bytes (slot bytes t 1)) in
    record { id = scalar_of 8 0 bytes (slot bytes t 0); width = index.0; signed = index.1; kind = scalar_of 2 0 bytes (slot bytes t 3) }

unfoldable pub pair_at : List ℕ → ℕ → Pair
pair_at bytes at = let t = table_at bytes at in (text_of bytes (slot bytes t 0), text_of bytes (slot bytes t 1))

unfoldable pub pairs_in : List ℕ → Option ℕ → List Pair
pairs_in bytes v = map (pair_at bytes) (elements bytes v)

-- a field with these children
unfoldable pub field_with : (ℕ → Bool) → List ℕ → Place → List RawField → RawField
field_with supported bytes t children =
    let code = scalar_of 1 0 bytes (slot bytes t 2) in
    raw_field
    (text_of bytes (slot bytes t 0))
    (is_set (scalar_of 1 0 bytes (slot bytes t 1)))
    code
    (parameters_in supported bytes code (table_behind bytes (slot bytes t 3)))
    (option_map (encoding_in bytes) (table_behind bytes (slot bytes t 4)))
    (raw_fields_of children)
    (pairs_in bytes (slot bytes t 6))

-- the field at a position, with `left` levels left
unfoldable pub field_at : (ℕ → Bool) → ℕ → List ℕ → ℕ → RawField
field_at supported zero bytes at = raw_field [] false 0 no_parameters None no_raw_field []
field_at supported (suc left) bytes at =
    let t = table_at bytes at in
    field_with supported bytes t (map (field_at supported left bytes) (elements bytes (slot bytes t 5)))

unfoldable pub schema_in : (ℕ → Bool) → ℕ → List ℕ → Option Place → RawSchema
schema_in supported left bytes t = record {
  endianness = scalar_of 2 0 bytes (slot_in bytes t 0);
  fields = map (field_at supported left bytes) (elements bytes (slot_in bytes t 1));
  pairs = pairs_in bytes (slot_in bytes t 2);
}

-- whether a batch is compressed is read from its vtable alone
unfoldable pub batch_in : List ℕ → Option Place → RawBatch
batch_in bytes t = record {
  length = scalar_of 8 0 bytes (slot_in bytes t 0);
  nodes = nodes_in (structs_of 16 bytes (slot_in bytes t 1));
  buffers = buffers_in (structs_of 16 bytes (slot_in bytes t 2));
  compressed = is_some (slot_in bytes t 3);
}

unfoldable pub dictionary_in : List ℕ → Option Place → RawDictionaryBatch
dictionary_in bytes t = record {
  id = scalar_of 8 0 bytes (slot_in bytes t 0);
  batch = batch_in bytes (table_behind bytes (slot_in bytes t 1));
  is_delta = is_set (scalar_of 1 0 bytes (slot_in bytes t 2));
}

abbrev pub header_by_type : (ℕ → Bool) → ℕ → List ℕ → Option Place → HeaderType → RawHeader
header_by_type supported left bytes t Schema = schema_header (schema_in supported left bytes t)
header_by_type supported left bytes t DictionaryBatch = dictionary_header (dictionary_in bytes t)
header_by_type supported left bytes t RecordBatch = batch_header (batch_in bytes t)

-- what the header of a message decodes to, for any metadata
unfoldable pub header_of : (ℕ → Bool) → List ℕ → RawHeader
header_of supported metadata = header_by_type supported (MAX_LEVELS - 2) metadata (table_behind metadata (header_slot metadata)) (type_in metadata)

-- ---- the test of the header

-- the decoded header, or the fault of the first bad thing in a walk
abbrev pub decoded : Result ℕ FlatError → RawHeader → Result RawHeader Fault
decoded (Ok n) h = Ok h
decoded (Err e) h = Err (flat_fault e)

-- the decoded header, if the walk over it meets nothing bad; the Message table counts as the first that was entered
unfoldable pub header : (ℕ → Bool) → List ℕ → Result RawHeader Fault
header supported metadata = decoded (run metadata (header_things supported metadata) 1) (header_of supported metadata)
