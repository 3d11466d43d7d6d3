-- Calls of a place, which is an open store or a shut device, and what a run of them leaves.
use Rattle.std.specs.Prelude.{◌≡◌, ◌≢◌, ◌<◌, ◌-◌, ◌^◌, ◌||◌, ℕ, Bool, true, false, List, [], ◌∷◌, map, take, drop, string_bytes, Option, option_map, None, IfSome}
use Rattle.std.specs.List.{list_any}
use Rattle.sector_dev.specs.Disk.{Story, Image, moment, LeftSince}
use Rattle.sector_dev.specs.declared.device.SectorDevice.{Ghosts}
use Rattle.arrow_schema.specs.View.{schema_of}
use Rattle.values.specs.TableView.{table_of}
use Rattle.tables.specs.Tables.{Tables}
use Rattle.tables.specs.Commands.{PlainCommand, import_stream, append_stream}
use Rattle.tables.specs.View.{command_of, list_of}
use Rattle.store.specs.declared.call.Call.{Call}
use Rattle.store.specs.declared.call.Call.TheVariants as calls
use Rattle.store.specs.declared.call.Reply.{Reply}
use Rattle.store.specs.declared.call.Reply.TheVariants as replies
use Rattle.store.specs.declared.call.StoreOrDevice.{StoreOrDevice}
use Rattle.store.specs.declared.call.StoreOrDevice.TheVariants as places
use Rattle.store_runs.specs.Calls.{PlainCall, apply_call, format_call, open_call, close_call, tables_call, schema_call, read_call, export_call, stream_call, open_export_call, export_next_call, close_export_call, compact_call, upgrade_call, PlainReply, done, counts, schema_is, table_is, bytes_are, export_is, piece_is, merged, moved, nothing, already, refused, refused_at, shut_by, is_device_reply}
use Rattle.store_runs.specs.Machine.{Machine, shut, halted}
use Rattle.store_runs.specs.Runs.{Goes, Run}
use Rattle.store_runs.specs.Since.{story_at, IsLeftFrom}
use Rattle.store_runs.specs.History.{any_change, begun, acknowledged, Settles, SettlesAll, Keeps, tells_damage, tells_no_store}
use Rattle.store_runs.specs.Snapshots.{given, has_ended, stays_open}
use Rattle.store_runs.specs.Reached.{IsReplied, GivesSnapshot}
use Rattle.store_runs.specs.Halting.{phase_where, tells_halt_while_open}
use Rattle.store.specs.Fits.{setting_of, DeviceFits, StoreFits}

-- a command with all bytes that a reader had left, if these are known
abbrev pub IsStreamOf : Option (List ℕ) → (List ℕ → PlainCommand) → PlainCall → Type 0
IsStreamOf input command plain = (bytes : List ℕ) × IfSome input (λ all. bytes ≡ all) × (plain ≡ stream_call (command bytes))

-- a call as plain data, by what is known of its reader
abbrev pub IsCallOf : {R : Type 0} → (remaining : R → Option (List ℕ)) → Call R → PlainCall → Type 0
IsCallOf remaining (calls.Apply command) plain = plain ≡ apply_call (command_of command)
IsCallOf remaining (calls.ApplyAll commands) plain = plain ≡ apply_call (list_of commands.items)
IsCallOf remaining (calls.ImportFrom name reader) plain = IsStreamOf (remaining reader) (import_stream (string_bytes name)) plain
IsCallOf remaining (calls.AppendFrom name reader) plain = IsStreamOf (remaining reader) (append_stream (string_bytes name)) plain
IsCallOf remaining calls.Format plain = plain ≡ format_call
IsCallOf remaining calls.Open plain = plain ≡ open_call
IsCallOf remaining calls.Close plain = plain ≡ close_call
IsCallOf remaining calls.Tables plain = plain ≡ tables_call
IsCallOf remaining (calls.Schema name) plain = plain ≡ schema_call (string_bytes name)
IsCallOf remaining (calls.Read name) plain = plain ≡ read_call (string_bytes name)
IsCallOf remaining (calls.Export name) plain = plain ≡ export_call (string_bytes name)
IsCallOf remaining (calls.OpenExport name) plain = plain ≡ open_export_call (string_bytes name)
IsCallOf remaining (calls.ExportNext id) plain = plain ≡ export_next_call id
IsCallOf remaining (calls.CloseExport id) plain = plain ≡ close_export_call id
IsCallOf remaining calls.Compact plain = plain ≡ compact_call
IsCallOf remaining calls.Upgrade plain = plain ≡ upgrade_call

-- element by element
abbrev pub AreCallsOf : {R : Type 0} → (remaining : R → Option (List ℕ)) → List (Call R) → List PlainCall → Type 0
AreCallsOf remaining [] plains = plains ≡ []
AreCallsOf remaining (call ∷ calls) [] = ⊥
AreCallsOf remaining (call ∷ calls) (plain ∷ plains) = IsCallOf remaining call plain × AreCallsOf remaining calls plains

-- a call that needs an open store
abbrev pub asks_store : {R : Type 0} → Call R → Bool
asks_store calls.Format = false
asks_store calls.Open = false
asks_store _ = true

abbrev pub reply_in : Reply → PlainReply
reply_in replies.Done = done
reply_in (replies.Tables found) = counts (map (λ t. (string_bytes t.0, t.1)) found.items)
reply_in (replies.Schema schema) = schema_is (schema_of schema)
reply_in (replies.Table table) = table_is (table_of table)
reply_in (replies.Bytes bytes) = bytes_are bytes.items
reply_in (replies.Export id) = export_is id
reply_in (replies.Piece piece) = piece_is (option_map (λ v. v.items) piece)
reply_in replies.Merged = merged
reply_in replies.Moved = moved
reply_in replies.Nothing = nothing
reply_in replies.Already = already
reply_in (replies.Refused refusal) = refused refusal
reply_in (replies.RefusedAt place refusal) = refused_at place refusal
reply_in (replies.NotOpened refusal) = shut_by refusal

-- the device of a place
abbrev pub device_in : {D : Type 0} {g : Ghosts D} → StoreOrDevice D g → D
device_in (places.Open store) = store.device
device_in (places.Shut device) = device

-- a device without an open store stands for a machine that is shut
pub record ShutFits {D : Type 0} (size : D → ℕ) (story : D → Story) (base : Tables) (m : Machine) (device : D) : Type 0 where
  pub phase : m.phase ≡ shut
  pub fits : DeviceFits size story base m device

abbrev pub PlaceFits : {D : Type 0} {g : Ghosts D} → (size : D → ℕ) → (story : D → Story) → Tables → Machine → StoreOrDevice D g → Type 0
PlaceFits size story base m (places.Open store) = StoreFits size story base m store
PlaceFits size story base m (places.Shut device) = ShutFits size story base m device

-- one call of a place with this device: the machine continues as another one, and the place after the call stands for that one
pub record PlaceGoes {D : Type 0} {g : Ghosts D} (size : D → ℕ) (story : D → Story) (failed : D → ℕ) (base : Tables) (m : Machine) (call : PlainCall) (reply : PlainReply) (old : D) (new : StoreOrDevice D g) : Type 0 where
  pub next : Machine
  pub same : size (device_in new) ≡ size old
  pub goes : Goes (setting_of (size old) base) m call reply (story old) (story (device_in new)) (failed old) (failed (device_in new)) next
  pub fits : PlaceFits size story base next new

-- and calls one after another
pub record PlaceRuns {D : Type 0} {g : Ghosts D} (size : D → ℕ) (story : D → Story) (failed : D → ℕ) (base : Tables) (m : Machine) (calls : List PlainCall) (replies : List PlainReply) (old : D) (new : StoreOrDevice D g) : Type 0 where
  pub next : Machine
  pub same : size (device_in new) ≡ size old
  pub run : Run (setting_of (size old) base) calls replies m (story old) (failed old) next (story (device_in new)) (failed (device_in new))
  pub fits : PlaceFits size story base next new

abbrev pub replies_of : List Reply → List PlainReply
replies_of replies = map reply_in replies

-- what holds for calls one after another: what each stop leaves, what each reply follows from, and what holds if no call of the device failed
pub record PlaceLives {D : Type 0} {g : Ghosts D} (size : D → ℕ) (story : D → Story) (failed : D → ℕ) (base : Tables) (m : Machine) (calls : List PlainCall) (replies : List PlainReply) (old : D) (new : StoreOrDevice D g) : Type 0 where
  pub runs : PlaceRuns size story failed base m calls replies old new
  -- an image that a stop may have left since the call with this number began is allowed by the machine of that moment, and has the tables of the commands that were acknowledged before the call
  pub stops : (i : ℕ) (image : Image)
      → LeftSince (story (device_in new)) (moment (story_at (setting_of (size old) base) calls replies m (story old) (failed old) runs.next (story (device_in new)) (failed (device_in new)) runs.run i)) image
      → IsLeftFrom (setting_of (size old) base) calls replies m (story old) (failed old) runs.next (story (device_in new)) (failed (device_in new)) runs.run i image
      × Keeps (setting_of (size old) base) m (any_change (take i calls) (take i replies)) (acknowledged (take i calls) (take i replies)) (begun calls replies) image
  -- the reply to the call after i others is that of a machine that has settled the commands that these acknowledged
  pub replied : (i : ℕ) (call : PlainCall) (more : List PlainCall) (reply : PlainReply) (others : List PlainReply) → drop i calls ≡ call ∷ more → drop i replies ≡ reply ∷ others
      → IsReplied (setting_of (size old) base) m (take i calls) (take i replies) call reply
  -- an export that is opened there, and reaches its end within k calls while it is open, gives the table as it was then
  pub snapshots : (i k : ℕ) (name : List ℕ) (id : ℕ) (more : List PlainCall) (others : List PlainReply) → drop i calls ≡ open_export_call name ∷ more → drop i replies ≡ export_is id ∷ others
      → stays_open id (take k more) (take k others) ≡ true → has_ended id (take k more) (take k others) ≡ true
      → GivesSnapshot (setting_of (size old) base) m (take i calls) (take i replies) name (given id (take k more) (take k others))
  pub undamaged : list_any tells_damage replies ≡ false
  pub there : (i : ℕ) → (m.started || any_change (take i calls) (take i replies)) ≡ true → list_any tells_no_store (drop i replies) ≡ false
  pub settles : Settles m.settled runs.next.settled m.doubt runs.next.doubt (acknowledged calls replies) (begun calls replies)
  pub undisturbed : failed old < 2 ^ 64 - 1 → failed (device_in new) ≡ failed old → list_any is_device_reply replies ≡ false
  pub all_settled : m.doubt ≡ None → m.phase ≢ halted → list_any is_device_reply replies ≡ false → SettlesAll m runs.next (acknowledged calls replies)
  -- if no store is halted at first, whether one is open or not, no call is refused as halted while a store is open
  pub unhalted : (is_open : Bool) → m.phase ≡ phase_where is_open → list_any is_device_reply replies ≡ false → tells_halt_while_open is_open calls replies ≡ false
