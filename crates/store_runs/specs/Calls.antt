-- The calls of a place, which is an open store or a shut device, and their replies, as plain data.
use Rattle.std.specs.Prelude.{◌+◌, ◌-◌, ◌^◌, ℕ, min, Bool, true, false, if◌then◌else◌, List, Option, Some, None}
use Rattle.arrow_schema.specs.Column.{PlainSchema}
use Rattle.cells.specs.Cell.{PlainTable}
use Rattle.tables.specs.declared.refusal.Refusal.{Refusal}
use Rattle.tables.specs.declared.refusal.Refusal.TheVariants as refusals
use Rattle.tables.specs.Commands.{PlainCommand}
use Rattle.commit.specs.declared.opening_refusal.OpeningRefusal.{OpeningRefusal}
use Rattle.commit.specs.declared.opening_refusal.OpeningRefusal.TheVariants as openings

pub data PlainCall : Type 0 where
  apply_call : PlainCommand → PlainCall
  format_call : PlainCall
  open_call : PlainCall
  close_call : PlainCall
  tables_call : PlainCall
  schema_call : (name : List ℕ) → PlainCall
  read_call : (name : List ℕ) → PlainCall
  export_call : (name : List ℕ) → PlainCall
  -- a command whose bytes come from a reader
  stream_call : PlainCommand → PlainCall
  open_export_call : (name : List ℕ) → PlainCall
  export_next_call : (id : ℕ) → PlainCall
  close_export_call : (id : ℕ) → PlainCall
  -- one step of a compaction
  compact_call : PlainCall
  -- all segments get digests
  upgrade_call : PlainCall

pub data PlainReply : Type 0 where
  -- a command was applied, a store was formatted, or a store or an export was opened or closed
  done : PlainReply
  -- the name and the number of rows of each table
  counts : List (List ℕ × ℕ) → PlainReply
  schema_is : PlainSchema → PlainReply
  table_is : PlainTable → PlainReply
  -- the bytes of a stream
  bytes_are : List ℕ → PlainReply
  -- the id of an export
  export_is : ℕ → PlainReply
  -- the next piece of an export; `None` after the last one
  piece_is : Option (List ℕ) → PlainReply
  -- two segments were joined, a segment was moved, there is nothing to do
  merged : PlainReply
  moved : PlainReply
  nothing : PlainReply
  -- the store already had digests
  already : PlainReply
  refused : Refusal → PlainReply
  -- a list of commands was refused for the one at this place, counted from 0
  refused_at : (place : ℕ) → Refusal → PlainReply
  -- a formatting or an opening that was refused: the place is shut
  shut_by : OpeningRefusal → PlainReply

-- the command that a call carries out
abbrev pub command_in : PlainCall → Option PlainCommand
command_in (apply_call c) = Some c
command_in (stream_call c) = Some c
command_in _ = None

-- the device failed: no other reply counts a failure
abbrev pub is_failure : Refusal → Bool
is_failure refusals.Device = true
is_failure _ = false

abbrev pub is_failed_opening : OpeningRefusal → Bool
is_failed_opening openings.Device = true
is_failed_opening _ = false

abbrev pub is_device_reply : PlainReply → Bool
is_device_reply (refused refusal) = is_failure refusal
is_device_reply (shut_by refusal) = is_failed_opening refusal
is_device_reply _ = false

-- after this reply a command may have been applied: it was acknowledged, or the device failed during it
abbrev pub may_be_done : PlainReply → Bool
may_be_done done = true
may_be_done (refused refusal) = is_failure refusal
may_be_done _ = false

-- a call that may write or sync if it succeeds
abbrev pub may_change : PlainCall → Bool
may_change (apply_call c) = true
may_change (stream_call c) = true
may_change format_call = true
may_change open_call = true
may_change upgrade_call = true
may_change _ = false

-- a call that needs an open store
abbrev pub needs_store : PlainCall → Bool
needs_store format_call = false
needs_store open_call = false
needs_store _ = true

-- whether a call that may write or sync has succeeded
abbrev pub is_change : PlainCall → PlainReply → Bool
is_change call done = may_change call
is_change call merged = true
is_change call moved = true
is_change call _ = false

-- a call during which the device failed adds one to the number of failures, up to the greatest number; no other call does
abbrev pub counted : PlainReply → ℕ → ℕ
counted reply failed = if is_device_reply reply then min (failed + 1) (2 ^ 64 - 1) else failed
