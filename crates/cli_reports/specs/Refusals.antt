-- How the errors of the layers are reported, and the text of a refusal: its code, its name and what it carries, separated by spaces.
use Rattle.std.specs.Prelude.{ℕ, List, ◌++◌, codes}
use Rattle.std.specs.Fmt.{decimal}
use Rattle.field_texts.specs.ErrorText.{error_text}
use Rattle.sector_dev.specs.declared.file.FileError.{FileError}
use Rattle.sector_dev.specs.declared.file.FileError.TheVariants as files
use Rattle.ipc_message.specs.FaultText.{fault_text}
use Rattle.ipc_message.specs.declared.error.ImportError.{ImportError}
use Rattle.ipc_message.specs.declared.error.ImportError.TheVariants as errors
use Rattle.text_import.specs.RefusalText.{refused_text}
use Rattle.text_import.specs.declared.refusal.TextError.{TextError}
use Rattle.text_import.specs.declared.refusal.TextError.TheVariants as texts
use Rattle.query.specs.declared.errors.QueryError.{QueryError}
use Rattle.query.specs.declared.errors.QueryError.TheVariants as queries
use Rattle.tables.specs.declared.refusal.QueryRefusal.TheVariants as reasons
use Rattle.tables.specs.Refusals as tables
use Rattle.commit.specs.Told.{opening_text}
use Rattle.hex.specs.Hex.{encode_lower}
use Rattle.cli_reports.specs.declared.refusal.ArchiveMember.{ArchiveMember}
use Rattle.cli_reports.specs.declared.refusal.ArchiveMember.TheVariants as members
use Rattle.cli_reports.specs.declared.refusal.Refusal.{Refusal}
use Rattle.cli_reports.specs.declared.refusal.Side.TheVariants as sides
use Rattle.cli_reports.specs.declared.refusal.Refusal.TheVariants.{Fault, NoEnd, TooManyBytes, Io, BadSize, BadScript, Fields, NoText, BadDigest, NotAnArchive, BadMember, LacksSegment, Text, Query, Opening, Store, Line, TextLine, OutOfMemory}

-- how a failed import is reported
abbrev pub refusal_of : ImportError → Refusal
refusal_of (errors.Fault fault) = Fault fault
refusal_of errors.OutOfMemory = OutOfMemory

-- how a file that was not opened or made is reported
abbrev pub file_refusal : FileError → Refusal
file_refusal files.Io = Io sides.File
file_refusal files.BadSize = BadSize

-- how a text that was not read is reported
abbrev pub text_refusal : TextError → Refusal
text_refusal (texts.Refused refused) = Text refused
text_refusal texts.OutOfMemory = OutOfMemory

-- a member of an archive, by its name or its place
abbrev pub member_text : ArchiveMember → List ℕ
member_text members.Manifest = codes "manifest.jsonl"
member_text (members.Segment digest) = codes "segments/" ++ encode_lower digest ++ codes ".arrows"
member_text (members.At place) = codes "member " ++ decimal place
member_text members.End = codes "end"

-- how a query that selects nothing is reported
abbrev pub query_refusal : QueryError → Refusal
query_refusal queries.UnknownColumn = Query reasons.UnknownColumn
query_refusal queries.BadCondition = Query reasons.BadCondition
query_refusal queries.NotComparable = Query reasons.NotComparable
query_refusal queries.OutOfMemory = OutOfMemory

-- code, name and what it carries
unfoldable pub refusal_text : Refusal → List ℕ
refusal_text (Fault fault) = fault_text fault
refusal_text NoEnd = codes "F30 NoEnd"
refusal_text TooManyBytes = codes "S7 TooMany Bytes"
refusal_text (Io side) = codes "G1 Io"
refusal_text BadSize = codes "G2 BadSize"
refusal_text (BadScript line) = codes "G3 BadScript " ++ decimal line
refusal_text (Fields error) = error_text error
refusal_text (NoText number) = codes "P3 NoText " ++ decimal number
refusal_text (BadDigest line) = codes "A1 NotADigest " ++ decimal line
refusal_text NotAnArchive = codes "A2 NotAnArchive"
refusal_text (BadMember member) = codes "A3 BadMember " ++ member_text member
refusal_text (LacksSegment digest) = codes "A4 LacksSegment " ++ encode_lower digest
refusal_text (Text refused) = refused_text refused
refusal_text (Query refusal) = tables.query_text refusal
refusal_text (Opening refusal) = opening_text refusal
refusal_text (Store refusal) = tables.refusal_text refusal
refusal_text (Line line refusal) = codes "T1 Line " ++ decimal line ++ codes " " ++ tables.refusal_text refusal
refusal_text (TextLine line refused) = codes "T1 Line " ++ decimal line ++ codes " " ++ refused_text refused
refusal_text OutOfMemory = codes "OutOfMemory"
