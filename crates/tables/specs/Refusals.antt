-- Why a call of an open store is refused: what decides it, and how it is reported.
use Rattle.std.specs.Prelude.{ℕ, List, ◌++◌, codes}
use Rattle.std.specs.Fmt.{decimal}
use Rattle.ipc_message.specs.FaultText.{fault_text}
use Rattle.ipc_message.specs.declared.error.ImportError.{ImportError}
use Rattle.ipc_message.specs.declared.error.ImportError.TheVariants as imports
use Rattle.query.specs.Bound as bounds
use Rattle.query.specs.declared.errors.QueryError.{QueryError}
use Rattle.query.specs.declared.errors.QueryError.TheVariants as selects
use Rattle.tables.specs.declared.refusal.Limit.{Limit}
use Rattle.tables.specs.declared.refusal.Limit.TheVariants as limits
use Rattle.tables.specs.declared.refusal.QueryRefusal.{QueryRefusal}
use Rattle.tables.specs.declared.refusal.QueryRefusal.TheVariants as queries
use Rattle.tables.specs.declared.refusal.Refusal.{Refusal}
use Rattle.tables.specs.declared.refusal.Refusal.TheVariants as refusals

-- `by_tables`: the tables alone decide it. `by_room`: the room of the store. `elsewhere`: no command is refused with it.
pub data Origin : Type 0 where
  by_tables : Origin
  by_room : Origin
  by_memory : Origin
  by_device : Origin
  by_halt : Origin
  elsewhere : Origin

abbrev pub origin_of_limit : Limit → Origin
origin_of_limit limits.Tables = by_tables
origin_of_limit limits.Segments = by_room
origin_of_limit limits.Epochs = by_room
origin_of_limit limits.Weight = by_tables
origin_of_limit limits.Bytes = by_tables
origin_of_limit limits.Exports = elsewhere

abbrev pub origin_of : Refusal → Origin
origin_of refusals.NoTable = by_tables
origin_of refusals.NameTaken = by_tables
origin_of refusals.BadName = by_tables
origin_of refusals.SchemaMismatch = by_tables
origin_of (refusals.Import fault) = by_tables
origin_of (refusals.RowUnfit row) = by_tables
origin_of (refusals.TooMany limit) = origin_of_limit limit
origin_of (refusals.NoRoom sectors) = by_room
origin_of refusals.Device = by_device
origin_of refusals.Halted = by_halt
origin_of refusals.NoExport = elsewhere
origin_of (refusals.Query refusal) = by_tables
origin_of (refusals.SegmentUnread segment) = elsewhere
origin_of refusals.Read = elsewhere
origin_of (refusals.SegmentDamaged segment) = elsewhere
origin_of refusals.Write = elsewhere
origin_of refusals.OutOfMemory = by_memory

-- the refusal of a stream that was not read
abbrev pub import_refusal : ImportError → Refusal
import_refusal (imports.Fault fault) = refusals.Import fault
import_refusal imports.OutOfMemory = refusals.OutOfMemory

-- why a query can't be executed on a table, as it is reported for a command
abbrev pub query_refusal : bounds.SelectionRefusal → Refusal
query_refusal bounds.unknown_column = refusals.Query queries.UnknownColumn
query_refusal bounds.bad_condition = refusals.Query queries.BadCondition
query_refusal bounds.not_comparable = refusals.Query queries.NotComparable

-- the refusal of a selection that was not made
abbrev pub select_refusal : QueryError → Refusal
select_refusal selects.UnknownColumn = refusals.Query queries.UnknownColumn
select_refusal selects.BadCondition = refusals.Query queries.BadCondition
select_refusal selects.NotComparable = refusals.Query queries.NotComparable
select_refusal selects.OutOfMemory = refusals.OutOfMemory

abbrev pub limit_text : Limit → List ℕ
limit_text limits.Tables = codes "Tables"
limit_text limits.Segments = codes "Segments"
limit_text limits.Epochs = codes "Epochs"
limit_text limits.Weight = codes "Weight"
limit_text limits.Bytes = codes "Bytes"
limit_text limits.Exports = codes "Exports"

abbrev pub query_text : QueryRefusal → List ℕ
query_text queries.UnknownColumn = codes "Q1 UnknownColumn"
query_text queries.BadCondition = codes "Q2 BadCondition"
query_text queries.NotComparable = codes "Q3 NotComparable"

-- code, name and value, separated by spaces; a failed reader or writer is reported as failed input or output of the program
abbrev pub refusal_text : Refusal → List ℕ
refusal_text refusals.NoTable = codes "S1 NoTable"
refusal_text refusals.NameTaken = codes "S2 NameTaken"
refusal_text refusals.BadName = codes "S3 BadName"
refusal_text refusals.SchemaMismatch = codes "S4 SchemaMismatch"
refusal_text (refusals.Import fault) = codes "S5 Import " ++ fault_text fault
refusal_text (refusals.RowUnfit row) = codes "S6 RowUnfit " ++ decimal row
refusal_text (refusals.TooMany limit) = codes "S7 TooMany " ++ limit_text limit
refusal_text (refusals.NoRoom sectors) = codes "S8 NoRoom " ++ decimal sectors
refusal_text refusals.Device = codes "S9 Device"
refusal_text refusals.Halted = codes "S10 Halted"
refusal_text refusals.NoExport = codes "S11 NoExport"
refusal_text (refusals.Query refusal) = codes "S12 Query " ++ query_text refusal
refusal_text (refusals.SegmentUnread segment) = codes "S13 SegmentUnread " ++ decimal segment
refusal_text refusals.Read = codes "G1 Io"
refusal_text (refusals.SegmentDamaged segment) = codes "S15 SegmentDamaged " ++ decimal segment
refusal_text refusals.Write = codes "G1 Io"
refusal_text refusals.OutOfMemory = codes "OutOfMemory"
