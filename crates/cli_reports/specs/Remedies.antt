-- What to do about each refusal, in a sentence: the page of refusals and a terminal give the same one.
use Rattle.std.specs.Prelude.{ℕ, List}
use Rattle.field_texts.specs.declared.parse.ParseError.{ParseError}
use Rattle.field_texts.specs.declared.parse.ParseError.TheVariants as fields
use Rattle.ipc_message.specs.declared.fault.Fault as streams
use Rattle.ipc_message.specs.declared.fault.Fault.TheVariants as faults
use Rattle.text_import.specs.declared.refusal.Refusal as text_refusals
use Rattle.text_import.specs.declared.refusal.Refusal.TheVariants as texts
use Rattle.tables.specs.declared.refusal.Limit.{Limit}
use Rattle.tables.specs.declared.refusal.Limit.TheVariants as limits
use Rattle.tables.specs.declared.refusal.QueryRefusal.{QueryRefusal}
use Rattle.tables.specs.declared.refusal.QueryRefusal.TheVariants as queries
use Rattle.tables.specs.declared.refusal.Refusal as store_refusals
use Rattle.tables.specs.declared.refusal.Refusal.TheVariants as stores
use Rattle.commit.specs.declared.opening_refusal.OpeningRefusal.{OpeningRefusal}
use Rattle.commit.specs.declared.opening_refusal.OpeningRefusal.TheVariants as openings
use Rattle.cli_reports.specs.declared.refusal.Refusal.{Refusal}
use Rattle.cli_reports.specs.declared.refusal.Refusal.TheVariants.{Fault, NoEnd, TooManyBytes, Io, BadSize, BadScript, Fields, NoText, BadDigest, NotAnArchive, BadMember, LacksSegment, Text, Query, Opening, Store, Line, TextLine, OutOfMemory}
use Rattle.cli_reports.specs.declared.remedies.TheConstants as remedies

-- for a fault of a stream; one without a remedy of its own lies with the program that wrote the stream
unfoldable pub fault_remedy : streams.Fault → List ℕ
fault_remedy faults.Truncated = remedies.GIVE_ALL.now
fault_remedy faults.NoContinuation = remedies.GIVE_A_STREAM.now
fault_remedy faults.MetadataVersion = remedies.WRITE_V5.now
fault_remedy faults.HeaderKind = remedies.LEAVE_OUT_MESSAGES.now
fault_remedy faults.NoSchema = remedies.SCHEMA_FIRST.now
fault_remedy faults.SecondSchema = remedies.ONE_STREAM.now
fault_remedy faults.AfterEnd = remedies.ONE_STREAM.now
fault_remedy faults.BigEndian = remedies.LITTLE_ENDIAN.now
fault_remedy (faults.TypeNotHeld name) = remedies.CONVERT_COLUMN.now
fault_remedy faults.SchemaLimit = remedies.FEWER_FIELDS.now
fault_remedy faults.Compressed = remedies.NO_COMPRESSION.now
fault_remedy faults.RowCount = remedies.SHORTER_BATCHES.now
fault_remedy faults.TooHeavy = remedies.FEWER_ROWS.now
fault_remedy _ = remedies.WRITE_AGAIN.now

-- for field texts
unfoldable pub fields_remedy : ParseError → List ℕ
fields_remedy (fields.BadText number) = remedies.FORM_OF_A_FIELD.now
fields_remedy fields.Limit = remedies.SMALLER_FIELDS.now
fields_remedy fields.OutOfMemory = remedies.MORE_MEMORY.now

-- for a text of rows
unfoldable pub text_remedy : text_refusals.Refusal → List ℕ
text_remedy texts.Header = remedies.NAMES_FIRST.now
text_remedy texts.Nested = remedies.GIVE_JSON_LINES.now
text_remedy texts.AmbiguousNames = remedies.GIVE_ARRAYS.now
text_remedy texts.NotANumber = remedies.WRITE_DIGITS.now
text_remedy texts.Json = remedies.ROW_ON_A_LINE.now
text_remedy texts.Width = remedies.CLOSE_QUOTATION_MARKS.now
text_remedy texts.TooHeavy = remedies.CLOSE_QUOTATION_MARKS.now
text_remedy texts.NotUtf8 = remedies.WRITE_UTF_8.now
text_remedy texts.OutOfRange = remedies.WITHIN_THE_RANGE.now
text_remedy texts.NotABool = remedies.WRITE_A_BOOLEAN.now
text_remedy texts.NotHex = remedies.WRITE_HEXADECIMAL.now
text_remedy texts.NullMismatch = remedies.GIVE_A_VALUE.now
text_remedy texts.UnknownName = remedies.NAMES_OF_THE_SCHEMA.now
text_remedy texts.MissingName = remedies.GIVE_THE_NAME.now
text_remedy texts.FixedWidth = remedies.BYTES_OF_THE_TYPE.now
text_remedy texts.DictionaryFull = remedies.FEWER_VALUES.now
text_remedy texts.WrongKind = remedies.KIND_OF_THE_TYPE.now
text_remedy texts.NotADate = remedies.FORM_OF_A_DATE.now
text_remedy texts.WrongOffset = remedies.OFFSET_OF_THE_ZONE.now

-- for a query
unfoldable pub query_remedy : QueryRefusal → List ℕ
query_remedy queries.UnknownColumn = remedies.NAMES_OF_COLUMNS.now
query_remedy queries.BadCondition = remedies.FORM_OF_A_CONDITION.now
query_remedy queries.NotComparable = remedies.TEST_FOR_NULL.now

-- for an opening
unfoldable pub opening_remedy : OpeningRefusal → List ℕ
opening_remedy openings.NotAStore = remedies.FILE_OF_A_STORE.now
opening_remedy openings.AlreadyAStore = remedies.CHECK_FILES.now
opening_remedy (openings.Damaged cause) = remedies.EARLIER_COPY.now
opening_remedy openings.Device = remedies.TRY_AGAIN.now
opening_remedy openings.OutOfMemory = remedies.MORE_MEMORY.now

-- for a limit of the open store
unfoldable pub limit_remedy : Limit → List ℕ
limit_remedy limits.Tables = remedies.FEWER_TABLES.now
limit_remedy limits.Segments = remedies.FEWER_SEGMENTS.now
limit_remedy limits.Epochs = remedies.NEW_STORE.now
limit_remedy limits.Weight = remedies.OTHER_TABLE.now
limit_remedy limits.Bytes = remedies.GIVE_LESS.now
limit_remedy limits.Exports = remedies.CLOSE_AN_EXPORT.now

-- for the open store; a fault, a limit and a query have their own
unfoldable pub store_remedy : store_refusals.Refusal → List ℕ
store_remedy stores.NoTable = remedies.NAME_OF_A_TABLE.now
store_remedy stores.NameTaken = remedies.OTHER_NAME.now
store_remedy stores.BadName = remedies.FORM_OF_A_NAME.now
store_remedy stores.SchemaMismatch = remedies.FIELDS_OF_THE_TABLE.now
store_remedy (stores.Import fault) = fault_remedy fault
store_remedy (stores.RowUnfit row) = remedies.FIX_ROW.now
store_remedy (stores.TooMany limit) = limit_remedy limit
store_remedy (stores.NoRoom sectors) = remedies.MORE_ROOM.now
store_remedy stores.Device = remedies.LOOK_AGAIN.now
store_remedy stores.Halted = remedies.LOOK_AGAIN.now
store_remedy stores.NoExport = remedies.CHECK_FILES.now
store_remedy (stores.Query reason) = query_remedy reason
store_remedy (stores.SegmentUnread segment) = remedies.IMPORT_AGAIN.now
store_remedy stores.Read = remedies.CHECK_FILES.now
store_remedy (stores.SegmentDamaged segment) = remedies.IMPORT_AGAIN.now
store_remedy stores.Write = remedies.CHECK_FILES.now
store_remedy stores.OutOfMemory = remedies.MORE_MEMORY.now

unfoldable pub remedy : Refusal → List ℕ
remedy (Fault fault) = fault_remedy fault
remedy NoEnd = remedies.WHOLE_STREAM.now
remedy TooManyBytes = remedies.GIVE_LESS.now
remedy (Io side) = remedies.CHECK_FILES.now
remedy BadSize = remedies.WHOLE_FILE.now
remedy (BadScript line) = remedies.LINES_OF_A_SCRIPT.now
remedy (Fields error) = fields_remedy error
remedy (NoText number) = remedies.FIELDS_OF_ANOTHER.now
remedy (BadDigest line) = remedies.LINES_OF_DIGESTS.now
remedy NotAnArchive = remedies.GIVE_AN_ARCHIVE.now
remedy (BadMember member) = remedies.SEND_AGAIN.now
remedy (LacksSegment digest) = remedies.SEND_WHAT_IS_LACKED.now
remedy (Text refused) = text_remedy refused.refusal
remedy (Query reason) = query_remedy reason
remedy (Opening refusal) = opening_remedy refusal
remedy (Store refusal) = store_remedy refusal
remedy (Line line refusal) = store_remedy refusal
remedy (TextLine line refused) = text_remedy refused.refusal
remedy OutOfMemory = remedies.MORE_MEMORY.now
