-- The word that tells a script which refusal it is: one for each code, and for G1 one that says whether the command was done.
use Rattle.std.specs.Prelude.{ℕ, Bool, List, codes, if◌then◌else◌}
use Rattle.field_texts.specs.declared.parse.ParseError.{ParseError}
use Rattle.field_texts.specs.declared.parse.ParseError.TheVariants as fields
use Rattle.ipc_message.specs.declared.fault.Fault as streams
use Rattle.ipc_message.specs.declared.fault.Fault.TheVariants as faults
use Rattle.text_import.specs.declared.refusal.Refusal as text_refusals
use Rattle.text_import.specs.declared.refusal.Refusal.TheVariants as texts
use Rattle.tables.specs.declared.refusal.QueryRefusal.{QueryRefusal}
use Rattle.tables.specs.declared.refusal.QueryRefusal.TheVariants as queries
use Rattle.tables.specs.declared.refusal.Refusal as store_refusals
use Rattle.tables.specs.declared.refusal.Refusal.TheVariants as stores
use Rattle.commit.specs.declared.opening_refusal.OpeningRefusal.{OpeningRefusal}
use Rattle.commit.specs.declared.opening_refusal.OpeningRefusal.TheVariants as openings
use Rattle.cli_reports.specs.declared.known.FileCause.{FileCause}
use Rattle.cli_reports.specs.declared.known.FileCause.TheVariants.{Locked, Missing, Denied, Exists, Other}
use Rattle.cli_reports.specs.declared.known.Known.{Known}
use Rattle.cli_reports.specs.declared.refusal.Refusal.{Refusal}
use Rattle.cli_reports.specs.declared.refusal.Refusal.TheVariants.{Fault, NoEnd, TooManyBytes, Io, BadSize, BadScript, Fields, NoText, BadDigest, NotAnArchive, BadMember, LacksSegment, Text, Query, Opening, Store, Line, TextLine, OutOfMemory}
use Rattle.cli_reports.specs.declared.refusal.Side.{Side}
use Rattle.cli_reports.specs.declared.refusal.Side.TheVariants as sides

unfoldable pub fault_word : streams.Fault → List ℕ
fault_word faults.Truncated = codes "truncated"
fault_word faults.NoContinuation = codes "no-stream"
fault_word faults.MetadataSize = codes "metadata-size"
fault_word faults.FlatBounds = codes "metadata-bounds"
fault_word faults.FlatBudget = codes "metadata-budget"
fault_word faults.MetadataVersion = codes "metadata-version"
fault_word faults.HeaderKind = codes "header-kind"
fault_word faults.BodyLength = codes "body-length"
fault_word faults.NoSchema = codes "no-schema"
fault_word faults.SecondSchema = codes "second-schema"
fault_word faults.BigEndian = codes "big-endian"
fault_word (faults.TypeNotHeld name) = codes "type-not-held"
fault_word faults.BadParameter = codes "bad-parameter"
fault_word faults.SchemaLimit = codes "schema-limit"
fault_word faults.NotUtf8 = codes "stream-not-utf8"
fault_word faults.Compressed = codes "compressed"
fault_word faults.LayoutCount = codes "layout-count"
fault_word faults.BufferRange = codes "buffer-range"
fault_word faults.BufferShort = codes "buffer-short"
fault_word faults.RowCount = codes "row-count"
fault_word faults.NullCount = codes "null-count"
fault_word faults.Offsets = codes "offsets"
fault_word faults.NullForbidden = codes "null-forbidden"
fault_word faults.DictionaryId = codes "dictionary-id"
fault_word faults.DeltaWithoutBase = codes "delta-without-base"
fault_word faults.DictionaryIndex = codes "dictionary-index"
fault_word faults.DictionaryOfNested = codes "dictionary-of-nested"
fault_word faults.TooHeavy = codes "stream-too-heavy"
fault_word faults.AfterEnd = codes "after-end"

unfoldable pub fields_word : ParseError → List ℕ
fields_word (fields.BadText number) = codes "bad-field"
fields_word fields.Limit = codes "field-limit"
fields_word fields.OutOfMemory = codes "out-of-memory"

unfoldable pub text_word : text_refusals.Refusal → List ℕ
text_word texts.Header = codes "header"
text_word texts.Width = codes "width"
text_word texts.NotUtf8 = codes "text-not-utf8"
text_word texts.NotANumber = codes "not-a-number"
text_word texts.OutOfRange = codes "out-of-range"
text_word texts.NotABool = codes "not-a-bool"
text_word texts.NotHex = codes "not-hex"
text_word texts.NullMismatch = codes "null-mismatch"
text_word texts.Nested = codes "nested-columns"
text_word texts.Json = codes "not-json"
text_word texts.UnknownName = codes "unknown-name"
text_word texts.MissingName = codes "missing-name"
text_word texts.AmbiguousNames = codes "ambiguous-names"
text_word texts.FixedWidth = codes "fixed-width"
text_word texts.TooHeavy = codes "row-too-heavy"
text_word texts.DictionaryFull = codes "dictionary-full"
text_word texts.WrongKind = codes "wrong-kind"
text_word texts.NotADate = codes "not-a-date"
text_word texts.WrongOffset = codes "wrong-offset"

unfoldable pub query_word : QueryRefusal → List ℕ
query_word queries.UnknownColumn = codes "unknown-column"
query_word queries.BadCondition = codes "bad-condition"
query_word queries.NotComparable = codes "not-comparable"

unfoldable pub opening_word : OpeningRefusal → List ℕ
opening_word openings.NotAStore = codes "not-a-store"
opening_word openings.AlreadyAStore = codes "already-a-store"
opening_word (openings.Damaged cause) = codes "damaged"
opening_word openings.Device = codes "device-at-opening"
opening_word openings.OutOfMemory = codes "out-of-memory"

-- why a file could not be used: the command was not done
abbrev pub file_word : FileCause → List ℕ
file_word Locked = codes "locked"
file_word Missing = codes "missing"
file_word Denied = codes "denied"
file_word Exists = codes "exists"
file_word Other = codes "other"

-- the output failed after a command that changes something was done, or of one that changes nothing
abbrev pub output_word : (changes : Bool) → List ℕ
output_word changes = if changes then codes "output-after" else codes "output-before"

abbrev pub io_word : Side → Known → List ℕ
io_word sides.File known = file_word known.cause
io_word sides.Input known = codes "input"
io_word sides.Output known = output_word known.changes

-- a fault and a query have the words of their codes
unfoldable pub store_word : store_refusals.Refusal → Known → List ℕ
store_word stores.NoTable known = codes "no-table"
store_word stores.NameTaken known = codes "name-taken"
store_word stores.BadName known = codes "bad-name"
store_word stores.SchemaMismatch known = codes "schema-mismatch"
store_word (stores.Import fault) known = fault_word fault
store_word (stores.RowUnfit row) known = codes "row-unfit"
store_word (stores.TooMany limit) known = codes "too-many"
store_word (stores.NoRoom sectors) known = codes "no-room"
store_word stores.Device known = codes "device"
store_word stores.Halted known = codes "halted"
store_word stores.NoExport known = codes "no-export"
store_word (stores.Query reason) known = query_word reason
store_word (stores.SegmentUnread segment) known = codes "segment-unread"
store_word stores.Read known = codes "input"
store_word (stores.SegmentDamaged segment) known = codes "segment-damaged"
store_word stores.Write known = output_word known.changes
store_word stores.OutOfMemory known = codes "out-of-memory"

unfoldable pub word : Refusal → Known → List ℕ
word (Fault fault) known = fault_word fault
word NoEnd known = codes "no-end"
word TooManyBytes known = codes "too-many"
word (Io side) known = io_word side known
word BadSize known = codes "bad-size"
word (BadScript line) known = codes "bad-script"
word (Fields error) known = fields_word error
word (NoText number) known = codes "no-text"
word (BadDigest line) known = codes "not-a-digest"
word NotAnArchive known = codes "not-an-archive"
word (BadMember member) known = codes "bad-member"
word (LacksSegment digest) known = codes "lacks-segment"
word (Text refused) known = text_word refused.refusal
word (Query reason) known = query_word reason
word (Opening refusal) known = opening_word refusal
word (Store refusal) known = store_word refusal known
word (Line line refusal) known = store_word refusal known
word (TextLine line refused) known = text_word refused.refusal
word OutOfMemory known = codes "out-of-memory"
