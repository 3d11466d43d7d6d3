-- The catalogue, the root and the page of a text. Each part of a text is read as a value and the bytes after it.
use Rattle.std.specs.Prelude.{◌≡◌, ◌&&◌, ◌==◌, ℕ, zero, suc, nat_le, if◌then◌else◌, List, [], ◌∷◌, length, take, drop, Option, Some, None, Result, Ok, Err}
use Rattle.std.specs.List.{list_all}
use Rattle.std.specs.Str.{bytes_eq}
use Rattle.byteorder.specs.Endian.{little_number}
use Rattle.arrow_schema.specs.Column.{PlainSchema}
use Rattle.ipc_message.specs.declared.fault.Fault.{Fault}
use Rattle.ipc_message.specs.declared.error.ImportError.{ImportError}
use Rattle.ipc_message.specs.declared.error.ImportError.TheVariants as errors
use Rattle.ipc_message.specs.Raw.{RawHeader, RawSchema, schema_header, dictionary_header, batch_header}
use Rattle.ipc_message.specs.Framing.{Envelope, NextMessage, next_message, end_of_stream, message}
use Rattle.ipc_message.specs.Header.{supported_codes, header}
use Rattle.ipc_message.specs.Checks.{checked_schema}
use Rattle.ipc_write.specs.Written.{schema_message}
use Rattle.segments.specs.declared.extent.Extent.{Extent}
use Rattle.catalogue.specs.Schemas.{is_within_limits}
use Rattle.catalogue.specs.Entries.{PlainEntry, PlainCatalogue, PlainRoot, is_name, is_segment, ascends, root_names, is_catalogue}
use Rattle.catalogue.specs.declared.limits.TheConstants.{MAX_TABLES}
use Rattle.catalogue.specs.declared.entry.Segment.{Segment}
use Rattle.catalogue.specs.declared.entry.SegmentForm.{SegmentForm}
use Rattle.catalogue.specs.declared.entry.SegmentForm.TheVariants.{Bare, Digested}
use Rattle.catalogue.specs.declared.decoding.DecodeError.{DecodeError}
use Rattle.catalogue.specs.declared.decoding.DecodeError.TheVariants.{NoText, OutOfMemory}

infixl 10 ◌>>=◌
abbrev pub ◌>>=◌ : {A B : Type 0} → Option A → (A → Option B) → Option B
None >>= f = None
(Some x) >>= f = f x

-- the result of a call, seen through `view`, is the value that is read, unless memory was refused
abbrev pub Fails : {Y : Type 0} → DecodeError → Option Y → Type 0
Fails OutOfMemory read = Unit {0}
Fails NoText read = read ≡ None

abbrev pub Gives : {X Y : Type 0} → (X → Y) → Result X DecodeError → Option Y → Type 0
Gives view (Ok x) read = read ≡ Some (view x)
Gives view (Err e) read = Fails e read

-- the error of the text if a message was not read
abbrev pub decode_error : ImportError → DecodeError
decode_error (errors.Fault f) = NoText
decode_error errors.OutOfMemory = OutOfMemory

-- a number of `size` bytes
abbrev pub front_number : ℕ → List ℕ → Option (ℕ × List ℕ)
front_number size bytes = if nat_le size (length bytes) then Some (little_number size bytes, drop size bytes) else None

-- a length in four bytes, and that many bytes
unfoldable pub sized_at : List ℕ → Option (List ℕ × List ℕ)
sized_at bytes = do
  size ← front_number 4 bytes
  if nat_le size.0 (length size.1) then Some (take size.0 size.1, drop size.0 size.1) else None

-- `count` parts
unfoldable pub many_at : {A : Type 0} → (List ℕ → Option (A × List ℕ)) → ℕ → List ℕ → Option (List A × List ℕ)
many_at one_at zero bytes = Some ([], bytes)
many_at one_at (suc count) bytes = do
  first ← one_at bytes
  others ← many_at one_at count first.1
  Some (first.0 ∷ others.0, others.1)

-- a count in four bytes, and that many parts
abbrev pub counted_at : {A : Type 0} → (List ℕ → Option (A × List ℕ)) → List ℕ → Option (List A × List ℕ)
counted_at one_at bytes = do
  count ← front_number 4 bytes
  many_at one_at count.0 count.1

unfoldable pub extent_in : List ℕ → Option (Extent × List ℕ)
extent_in bytes = do
  start ← front_number 8 bytes
  count ← front_number 8 start.1
  size ← front_number 8 count.1
  Some (record { run = record { start = start.0; count = count.0 }; bytes = size.0 }, size.1)

-- this many bytes
abbrev pub bytes_in : ℕ → List ℕ → Option (List ℕ × List ℕ)
bytes_in size bytes = if nat_le size (length bytes) then Some (take size bytes, drop size bytes) else None

-- the digest, if the form has one
unfoldable pub digest_in : SegmentForm → List ℕ → Option (Option (List ℕ) × List ℕ)
digest_in Bare bytes = Some (None, bytes)
digest_in Digested bytes = do
  digest ← bytes_in 32 bytes
  Some (Some digest.0, digest.1)

unfoldable pub segment_at : SegmentForm → List ℕ → Option (Segment × List ℕ)
segment_at form bytes = do
  place ← extent_in bytes
  rows ← front_number 8 place.1
  digest ← digest_in form rows.1
  Some (record { place = place.0; rows = rows.0; digest = digest.0 }, digest.1)

-- the name of a table after its length in four bytes
unfoldable pub name_at : List ℕ → Option (List ℕ × List ℕ)
name_at bytes = do
  name ← sized_at bytes
  if is_name name.0 then Some name else None

-- ---- the schema of a message

abbrev pub unfaulted : {A : Type 0} → Result A Fault → Option A
unfaulted (Ok x) = Some x
unfaulted (Err f) = None

abbrev pub message_in : NextMessage → Option Envelope
message_in (message m) = Some m
message_in end_of_stream = None

abbrev pub schema_of_header : RawHeader → Option RawSchema
schema_of_header (schema_header s) = Some s
schema_of_header (dictionary_header d) = None
schema_of_header (batch_header b) = None

unfoldable pub raw_schema_in : List ℕ → Option RawSchema
raw_schema_in bytes = do
  next ← unfaulted (next_message bytes)
  envelope ← message_in next
  found ← unfaulted (header supported_codes envelope.metadata)
  schema_of_header found

-- the bytes are a schema's message only if they are those that the schema is written as
unfoldable pub schema_in : List ℕ → Option PlainSchema
schema_in bytes = do
  raw ← raw_schema_in bytes
  schema ← unfaulted (checked_schema supported_codes raw)
  if bytes_eq (schema_message schema) bytes then Some schema else None

-- ---- the catalogue

-- a schema and segments
unfoldable pub body_at : SegmentForm → List ℕ → Option ((PlainSchema × List Segment) × List ℕ)
body_at form bytes = do
  text ← sized_at bytes
  schema ← schema_in text.0
  segments ← counted_at (segment_at form) text.1
  Some ((schema, segments.0), segments.1)

-- the table with this name, page, schema and segments
abbrev pub entry_from : List ℕ → Option Extent → PlainSchema × List Segment → PlainEntry
entry_from name page body = record { name = name; schema = body.0; segments = body.1; page = page }

unfoldable pub entry_at : SegmentForm → List ℕ → Option (PlainEntry × List ℕ)
entry_at form bytes = do
  name ← name_at bytes
  body ← body_at form name.1
  Some (entry_from name.0 None body.0, body.1)

-- the catalogue of a text in this form: valid entries, and no bytes after them
unfoldable pub catalogue_at : SegmentForm → List ℕ → Option PlainCatalogue
catalogue_at form bytes = do
  entries ← counted_at (entry_at form) bytes
  if (length entries.1 == 0) && is_catalogue entries.0 then Some entries.0 else None

-- ---- a root and pages

-- the contents of a page in this form, with at most `most` segments and no bytes after them
unfoldable pub page_at : SegmentForm → (most : ℕ) → List ℕ → Option (PlainSchema × List Segment)
page_at form most bytes = do
  body ← body_at form bytes
  if (length body.1 == 0) && (is_within_limits body.0.0 && (list_all is_segment body.0.1 && nat_le (length body.0.1) most)) then Some body.0 else None

unfoldable pub root_entry_at : List ℕ → Option (PlainRoot × List ℕ)
root_entry_at bytes = do
  name ← name_at bytes
  page ← extent_in name.1
  Some (record { name = name.0; page = page.0 }, page.1)

-- the tables of a root: the names ascend, there are not too many, and no bytes follow
unfoldable pub root_at : List ℕ → Option (List PlainRoot)
root_at bytes = do
  entries ← counted_at root_entry_at bytes
  if (length entries.1 == 0) && (ascends (root_names entries.0) && nat_le (length entries.0) MAX_TABLES) then Some entries.0 else None
