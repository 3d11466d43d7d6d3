-- The pieces of an export that the calls of a run give.
use Rattle.std.specs.Prelude.{◌≡◌, ◌==◌, ◌&&◌, ◌||◌, ◌++◌, ℕ, Bool, true, false, not, if◌then◌else◌, List, [], ◌∷◌, Some, None, Ok}
use Rattle.cells.specs.Cell.{PlainTable}
use Rattle.ipc_message.specs.Header.{supported_codes}
use Rattle.ipc_stream.specs.Meaning.{meaning}
use Rattle.table_cut.specs.CutRows.{joined}
use Rattle.tables.specs.Tables.{table_at}
use Rattle.store_runs.specs.Calls.{PlainCall, format_call, open_call, close_call, export_next_call, close_export_call, PlainReply, piece_is, is_device_reply}
use Rattle.store_runs.specs.Machine.{Setting, Machine, tables_now}

-- the piece that a call gave of the export with this id
abbrev pub given_by : ℕ → PlainCall → PlainReply → List (List ℕ)
given_by id (export_next_call i) (piece_is (Some piece)) = if i == id then piece ∷ [] else []
given_by id call reply = []

abbrev pub given : ℕ → List PlainCall → List PlainReply → List (List ℕ)
given id [] replies = []
given id (call ∷ calls) [] = []
given id (call ∷ calls) (reply ∷ replies) = given_by id call reply ++ given id calls replies

-- a call found no more pieces
abbrev pub finds_end : ℕ → PlainCall → PlainReply → Bool
finds_end id (export_next_call i) (piece_is None) = i == id
finds_end id call reply = false

abbrev pub has_ended : ℕ → List PlainCall → List PlainReply → Bool
has_ended id [] replies = false
has_ended id (call ∷ calls) [] = false
has_ended id (call ∷ calls) (reply ∷ replies) = finds_end id call reply || has_ended id calls replies

-- a call that leaves the export open: it is not closed, no store is formatted, opened or closed, and the device did not fail
abbrev pub leaves_open : ℕ → PlainCall → PlainReply → Bool
leaves_open id format_call reply = false
leaves_open id open_call reply = false
leaves_open id close_call reply = false
leaves_open id (close_export_call i) reply = not (i == id)
leaves_open id call reply = not (is_device_reply reply)

abbrev pub stays_open : ℕ → List PlainCall → List PlainReply → Bool
stays_open id [] replies = true
stays_open id (call ∷ calls) [] = true
stays_open id (call ∷ calls) (reply ∷ replies) = leaves_open id call reply && stays_open id calls replies

-- the pieces that these calls gave of an export up to its end are a stream of the table that the machine had at this name
abbrev pub GivesTable : Setting → Machine → (name : List ℕ) → (pieces : List (List ℕ)) → Type 0
GivesTable s m name pieces = (table : PlainTable) × (table_at (tables_now s m) name ≡ Some table) × (meaning supported_codes (joined pieces) ≡ Ok table)
