-- What one message gives, after no message and after others.
use Rattle.std.proofs.Common.{◌≡◌, ℕ, Bool, true, false, List, Ok, Err, refl, sym, ap, ◌∙◌}
use Rattle.std.specs.Prelude.{Option, Some, None, if◌then◌else◌, ◌==◌, Result, unwrap_or}
use Rattle.flatbuf.specs.declared.FlatError.{FlatError}
use Rattle.flatbuf.specs.Lookup.{Place, table_behind}
use Rattle.ipc_message.specs.declared.header_type.HeaderType.{HeaderType}
use Rattle.ipc_message.specs.declared.header_type.HeaderType.TheVariants.{Schema, DictionaryBatch, RecordBatch}
use Rattle.ipc_message.specs.declared.error.ImportError.{ImportError}
use Rattle.ipc_message.specs.declared.error.ImportError.TheVariants as errors
use Rattle.ipc_message.specs.declared.fault.Fault.TheVariants.{NoSchema, SecondSchema}
use Rattle.ipc_message.specs.declared.raw_header.RawSchema as code_schema
use Rattle.ipc_message.specs.declared.raw_header.Header as code_header
use Rattle.ipc_message.specs.declared.raw_header.Header.TheVariants as headers
use Rattle.ipc_message.specs.Raw.{RawSchema, RawHeader, schema_header, dictionary_header, batch_header}
use Rattle.ipc_message.specs.View.{raw_header_of}
use Rattle.ipc_message.specs.Framing.{Envelope, header_type, type_of}
use Rattle.ipc_message.specs.Header.{supported_codes, decoded, header_by_type, header_of, header_slot, header, type_in}
use Rattle.ipc_message.specs.Outcome.{Fails}
use Rattle.ipc_stream.specs.Meaning.{Known, read_header, read_next}

-- ---- the type of a header

abbrev of_tests : Bool → Bool → Bool → Option HeaderType
of_tests a b c = if a then Some Schema else if b then Some DictionaryBatch else if c then Some RecordBatch else None

schema_test : (a b c : Bool) → of_tests a b c ≡ Some Schema → a ≡ true
schema_test true b c h = refl
schema_test false true c h = absurd cc
schema_test false false true h = absurd cc
schema_test false false false h = absurd cc

dictionary_test : (a b c : Bool) → of_tests a b c ≡ Some DictionaryBatch → a ≡ false
dictionary_test true b c h = absurd cc
dictionary_test false b c h = refl

batch_test : (a b c : Bool) → of_tests a b c ≡ Some RecordBatch → a ≡ false
batch_test true b c h = absurd cc
batch_test false b c h = refl

pub is_schema : (n : ℕ) → header_type n ≡ Some Schema → (n == 1) ≡ true
is_schema n h = schema_test (n == 1) (n == 2) (n == 3) h

pub no_schema : (n : ℕ) (k : HeaderType) → (k ≡ Schema → ⊥) → header_type n ≡ Some k → (n == 1) ≡ false
no_schema n Schema other h = absurd (other refl)
no_schema n DictionaryBatch other h = dictionary_test (n == 1) (n == 2) (n == 3) h
no_schema n RecordBatch other h = batch_test (n == 1) (n == 2) (n == 3) h

abbrev pub type_of_header : RawHeader → HeaderType
type_of_header (schema_header s) = Schema
type_of_header (dictionary_header d) = DictionaryBatch
type_of_header (batch_header b) = RecordBatch

decoded_is : (r : Result ℕ FlatError) (h decoded_header : RawHeader) → decoded r decoded_header ≡ Ok h → h ≡ decoded_header
decoded_is (Ok n) h k e = cc
decoded_is (Err f) h k e = absurd cc

type_made : (supported : ℕ → Bool) (left : ℕ) (metadata : List ℕ) (t : Option Place) (k : HeaderType) → type_of_header (header_by_type supported left metadata t k) ≡ k
type_made supported left metadata t Schema = refl
type_made supported left metadata t DictionaryBatch = refl
type_made supported left metadata t RecordBatch = refl

pub type_decoded : (supported : ℕ → Bool) (metadata : List ℕ) (h : RawHeader) → header supported metadata ≡ Ok h → type_of_header h ≡ type_in metadata
unfolding header header_of
type_decoded supported metadata h read =
    ap type_of_header (decoded_is _ h (header_of supported metadata) read) ∙ type_made supported 38 metadata (table_behind metadata (header_slot metadata)) (type_in metadata)

-- what the header decodes to is of the type that the message says
pub header_typed : (supported : ℕ → Bool) (metadata : List ℕ) (k : HeaderType) (h : RawHeader) → header_type (type_of metadata) ≡ Some k → header supported metadata ≡ Ok h → type_of_header h ≡ k
header_typed supported metadata k h e read = type_decoded supported metadata h read ∙ ap (λ (o : Option HeaderType). unwrap_or o RecordBatch) e

-- a message whose header is a schema has the type of one, and each other has another
number_of_schema : (a b c : Bool) → unwrap_or (of_tests a b c) RecordBatch ≡ Schema → a ≡ true
number_of_schema true b c h = refl
number_of_schema false true c h = absurd cc
number_of_schema false false true h = absurd cc
number_of_schema false false false h = absurd cc

number_of_batch : (a b c : Bool) → (unwrap_or (of_tests a b c) RecordBatch ≡ Schema → ⊥) → a ≡ false
number_of_batch true b c other = absurd (other refl)
number_of_batch false b c other = refl

pub schema_number : (supported : ℕ → Bool) (metadata : List ℕ) (s : RawSchema) → header supported metadata ≡ Ok (schema_header s) → (type_of metadata == 1) ≡ true
schema_number supported metadata s read =
    let n : ℕ = type_of metadata in number_of_schema (n == 1) (n == 2) (n == 3) (sym (type_decoded supported metadata (schema_header s) read))

pub batch_number : (supported : ℕ → Bool) (metadata : List ℕ) (h : RawHeader) → header supported metadata ≡ Ok h → (type_of_header h ≡ Schema → ⊥) → (type_of metadata == 1) ≡ false
batch_number supported metadata h read other =
    let n : ℕ = type_of metadata in number_of_batch (n == 1) (n == 2) (n == 3) (λ is. other (type_decoded supported metadata h read ∙ is))

pub seen_schema : (h : code_header.Header) → ((s : code_schema.RawSchema) → h ≡ headers.Schema s → ⊥) → type_of_header (raw_header_of h) ≡ Schema → ⊥
seen_schema (headers.Schema s) other e = other s refl
seen_schema (headers.DictionaryBatch d) other e = cc
seen_schema (headers.RecordBatch b) other e = cc

-- ---- the order

pub no_schema_first : (m : Envelope) (k : HeaderType) → (k ≡ Schema → ⊥) → header_type (type_of m.metadata) ≡ Some k → read_next supported_codes None m ≡ Err NoSchema
unfolding read_next
no_schema_first m k other e = let is = no_schema (type_of m.metadata) k other e in rw is refl

pub second_schema : (k : Known) (m : Envelope) → header_type (type_of m.metadata) ≡ Some Schema → read_next supported_codes (Some k) m ≡ Err SecondSchema
unfolding read_next
second_schema k m e = let is = is_schema (type_of m.metadata) e in rw is refl

-- ---- its header

pub first_header : (m : Envelope) (h : RawHeader) → header_type (type_of m.metadata) ≡ Some Schema → header supported_codes m.metadata ≡ Ok h
    → read_next supported_codes None m ≡ read_header supported_codes None m.body h
unfolding read_next
first_header m h e read = let is = is_schema (type_of m.metadata) e in rw (is, read) refl

pub next_header : (k : Known) (m : Envelope) (t : HeaderType) (h : RawHeader) → (t ≡ Schema → ⊥) → header_type (type_of m.metadata) ≡ Some t → header supported_codes m.metadata ≡ Ok h
    → read_next supported_codes (Some k) m ≡ read_header supported_codes (Some k) m.body h
unfolding read_next
next_header k m t h other e read = let is = no_schema (type_of m.metadata) t other e in rw (is, read) refl

pub first_unread : (m : Envelope) (e : ImportError) → header_type (type_of m.metadata) ≡ Some Schema → Fails e (header supported_codes m.metadata) → Fails e (read_next supported_codes None m)
unfolding read_next
first_unread m errors.OutOfMemory typed read = tt
first_unread m (errors.Fault fault) typed read = let is = is_schema (type_of m.metadata) typed in rw (is, read) refl

pub next_unread : (k : Known) (m : Envelope) (t : HeaderType) (e : ImportError) → (t ≡ Schema → ⊥) → header_type (type_of m.metadata) ≡ Some t → Fails e (header supported_codes m.metadata)
    → Fails e (read_next supported_codes (Some k) m)
unfolding read_next
next_unread k m t errors.OutOfMemory other typed read = tt
next_unread k m t (errors.Fault fault) other typed read = let is = no_schema (type_of m.metadata) t other typed in rw (is, read) refl
