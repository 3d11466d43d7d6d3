-- What the metadata of a message decodes to, before any test: a text is its bytes, a number its unsigned value (Message.fbs, Schema.fbs).
use Rattle.std.specs.Prelude.{ℕ, zero, suc, ◌/◌, Bool, List, [], ◌∷◌, Option, drop, length as count}
use Rattle.byteorder.specs.Endian.{little_number}
use Rattle.arrow_schema.specs.Column.{Pair}

-- the content of the table of a field's type
pub data RawParameters : Type 0 where
  no_parameters : RawParameters
  integer_parameters : (width : ℕ) → (signed : Bool) → RawParameters
  byte_width : ℕ → RawParameters
  list_size : ℕ → RawParameters
  date_unit : ℕ → RawParameters
  timestamp_parameters : (unit : ℕ) → (timezone : List ℕ) → RawParameters

-- a DictionaryEncoding; the default index type is a signed integer of 32 bits, and `kind` is 0 for a dense array
pub record RawEncoding : Type 0 where
  pub id : ℕ
  pub width : ℕ
  pub signed : Bool
  pub kind : ℕ

mutual
  pub data RawField : Type 0 where
    raw_field : (name : List ℕ) → (nullable : Bool) → (code : ℕ) → RawParameters → Option RawEncoding → (children : RawFields) → (pairs : List Pair) → RawField

  pub data RawFields : Type 0 where
    no_raw_field : RawFields
    and_raw_field : RawField → RawFields → RawFields

abbrev pub raw_fields_of : List RawField → RawFields
raw_fields_of [] = no_raw_field
raw_fields_of (f ∷ fs) = and_raw_field f (raw_fields_of fs)

abbrev pub raw_list_of : RawFields → List RawField
raw_list_of no_raw_field = []
raw_list_of (and_raw_field f fs) = f ∷ raw_list_of fs

pub record RawSchema : Type 0 where
  pub endianness : ℕ
  pub fields : List RawField
  pub pairs : List Pair

-- a FieldNode
pub record RawNode : Type 0 where
  pub length : ℕ
  pub null_count : ℕ

-- a Buffer
pub record RawBuffer : Type 0 where
  pub offset : ℕ
  pub length : ℕ

-- the first n field nodes in these bytes, sixteen bytes each
abbrev pub nodes_from : ℕ → List ℕ → List RawNode
nodes_from zero bytes = []
nodes_from (suc n) bytes = record { length = little_number 8 bytes; null_count = little_number 8 (drop 8 bytes) } ∷ nodes_from n (drop 16 bytes)

-- the first n buffers in these bytes, sixteen bytes each
abbrev pub buffers_from : ℕ → List ℕ → List RawBuffer
buffers_from zero bytes = []
buffers_from (suc n) bytes = record { offset = little_number 8 bytes; length = little_number 8 (drop 8 bytes) } ∷ buffers_from n (drop 16 bytes)

-- all field nodes, and all buffers
abbrev pub nodes_in : List ℕ → List RawNode
nodes_in bytes = nodes_from (count bytes / 16) bytes

abbrev pub buffers_in : List ℕ → List RawBuffer
buffers_in bytes = buffers_from (count bytes / 16) bytes

pub record RawBatch : Type 0 where
  pub length : ℕ
  pub nodes : List RawNode
  pub buffers : List RawBuffer
  pub compressed : Bool

pub record RawDictionaryBatch : Type 0 where
  pub id : ℕ
  pub batch : RawBatch
  pub is_delta : Bool

pub data RawHeader : Type 0 where
  schema_header : RawSchema → RawHeader
  dictionary_header : RawDictionaryBatch → RawHeader
  batch_header : RawBatch → RawHeader
