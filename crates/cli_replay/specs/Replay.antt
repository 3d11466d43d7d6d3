-- The replay of a script: on which device, what was answered, what a crash left of it, and what is printed.
use Rattle.std.specs.Prelude.{◌≡◌, ◌+◌, ◌-◌, ◌^◌, ◌++◌, ℕ, Bool, zero, suc, min, true, false, List, [], ◌∷◌, map, take, length, codes, Option, Some, IfSome, Ok, Err}
use Rattle.sector_dev.specs.Disk.{now, shown_image}
use Rattle.sector_dev.specs.Chosen.{IsChosen}
use Rattle.sector_dev.specs.Faults.{no_faults}
use Rattle.sector_dev.specs.View.{size_of, failed_of, faults_of, history_of}
use Rattle.sector_dev.specs.declared.crash_choice.CrashChoice.{CrashChoice}
use Rattle.sector_dev.specs.declared.device.SectorDevice.{Ghosts}
use Rattle.sector_dev.specs.declared.model.ModelDevice.{ModelDevice}
use Rattle.arrow_schema.specs.Column.{PlainSchema}
use Rattle.tables.specs.Tables.{no_tables, row_counts}
use Rattle.tables.specs.Verdict.{after}
use Rattle.tables.specs.Commands as commands
use Rattle.tables.specs.Commands.{PlainCommand}
use Rattle.tables.specs.View.{command_of}
use Rattle.tables.specs.declared.command.Command.{Command}
use Rattle.store.specs.declared.store.Store.{Store}
use Rattle.store.specs.declared.call.Call.{Call}
use Rattle.store.specs.declared.call.Call.TheVariants as calls
use Rattle.store.specs.declared.call.StoreOrDevice.{StoreOrDevice}
use Rattle.store.specs.declared.call.StoreOrDevice.TheVariants as places
use Rattle.store.specs.Beginning.{IsLeftOf}
use Rattle.store_runs.specs.Calls.{PlainCall, PlainReply, done, counts}
use Rattle.store_runs.specs.History.{InOrder, acknowledged, begun}
use Rattle.store.specs.Fits.{FormatsStore, device_of, resumed}
use Rattle.store.specs.Places.{AreCallsOf, device_in, ShutFits}
use Rattle.store.specs.Answering.{AnswersCall}
use Rattle.commit.specs.Standing.{is_size}
use Rattle.commit.specs.declared.cause.Cause.TheVariants.{DeviceSize}
use Rattle.commit.specs.declared.opening_refusal.OpeningRefusal.{OpeningRefusal}
use Rattle.commit.specs.declared.sector.FormatVersion.{FormatVersion}
use Rattle.commit.specs.declared.opening_refusal.OpeningRefusal.TheVariants as openings
use Rattle.cli_reports.specs.declared.refusal.Refusal.{Refusal}
use Rattle.cli_reports.specs.declared.refusal.Refusal.TheVariants.{NoEnd, TooManyBytes, Io, BadScript, Opening, OutOfMemory}
use Rattle.cli_reports.specs.declared.refusal.Side.TheVariants.{File, Output}
use Rattle.cli_commands.specs.declared.input.TheConstants.{LARGEST_INPUT}
use Rattle.cli_commands.specs.Changing.{StateSchema}
use Rattle.cli_commands.specs.Complete.{LacksEnd}
use Rattle.civil_days.specs.declared.date_form.DateForm.TheVariants.{Numbers}
use Rattle.cli_commands.specs.Selecting.{stated_query}
use Rattle.query.specs.Query.{PlainQuery}
use Rattle.cli_scripts.specs.declared.script.ScriptError.TheVariants.{BadLine}
use Rattle.std.specs.Io.KnownBytes.{Appends}
use Rattle.cli_scripts.specs.Items.{IsScript, PlainItem, one, listed, number_of}
use Rattle.cli_scripts.specs.Script.{PlainLine, PlainRows, create, import_file, append_file, save, rename, drop, compact, upgrade, reopen}
use Rattle.cli_replay.specs.Playing.{Plays, replies_text, stop_text, FoundText}

-- ---- items as calls

-- some file has these bytes, where they are known
abbrev pub IsOfFile : {F : Type 0} → (remaining : F → Option (List ℕ)) → List ℕ → Type 0
IsOfFile {F} remaining bytes = (file : F) × IfSome (remaining file) (λ all. bytes ≡ all)

-- these are the first bytes of some file, where they are known: at most one more than a stream may have
abbrev pub IsFrontOfFile : {F : Type 0} → (remaining : F → Option (List ℕ)) → List ℕ → Type 0
IsFrontOfFile {F} remaining bytes = (file : F) × IfSome (remaining file) (λ all. bytes ≡ take (LARGEST_INPUT + 1) all)

-- a stream that is to be complete does not lack its end
abbrev pub HasItsEnd : (complete : Bool) → List ℕ → Type 0
HasItsEnd complete bytes = complete ≡ true → ¬ LacksEnd bytes

-- the stream of a line: the first bytes of some file, with its end if it is to be complete
abbrev pub IsStreamOfLine : {F : Type 0} → (remaining : F → Option (List ℕ)) → (complete : Bool) → List ℕ → Type 0
IsStreamOfLine remaining complete bytes = IsFrontOfFile remaining bytes × HasItsEnd complete bytes

-- the command saves these rows
abbrev pub SavesRows : (from to : List ℕ) → PlainRows → PlainCommand → Type 0
SavesRows from to rows command = (query : PlainQuery) × (stated_query rows.conditions rows.columns rows.limit Numbers ≡ Some query) × (command ≡ commands.save_as from to query)

-- the command of a line that changes tables
abbrev pub IsCommandOfLine : {F : Type 0} → (remaining : F → Option (List ℕ)) → PlainLine → PlainCommand → Type 0
IsCommandOfLine remaining (create name texts) command = (s : PlainSchema) × StateSchema texts s × (command ≡ commands.create name s)
IsCommandOfLine remaining (import_file name path complete) command =
    (bytes : List ℕ) × IsStreamOfLine remaining complete bytes × (command ≡ commands.import_stream name bytes)
IsCommandOfLine remaining (append_file name path complete) command =
    (bytes : List ℕ) × IsStreamOfLine remaining complete bytes × (command ≡ commands.append_stream name bytes)
IsCommandOfLine remaining (save from to rows) command = SavesRows from to rows command
IsCommandOfLine remaining (rename from to) command = command ≡ commands.rename from to
IsCommandOfLine remaining (drop name) command = command ≡ commands.drop_table name
IsCommandOfLine remaining _ command = ⊥

-- each line has its command
abbrev pub AreCommandsOfLines : {F : Type 0} → (remaining : F → Option (List ℕ)) → List PlainLine → List Command → Type 0
AreCommandsOfLines remaining [] [] = Unit {0}
AreCommandsOfLines remaining (line ∷ lines) (command ∷ more) = IsCommandOfLine remaining line (command_of command) × AreCommandsOfLines remaining lines more
AreCommandsOfLines remaining _ _ = ⊥

-- the call of a line by itself
abbrev pub IsCallOfLine : {F R : Type 0} → (remaining : F → Option (List ℕ)) → PlainLine → Call R → Type 0
IsCallOfLine remaining line (calls.Apply command) = IsCommandOfLine remaining line (command_of command)
IsCallOfLine remaining compact calls.Compact = Unit {0}
IsCallOfLine remaining upgrade calls.Upgrade = Unit {0}
IsCallOfLine remaining reopen calls.Open = Unit {0}
IsCallOfLine remaining _ _ = ⊥

-- the call of an item: the lines of a list are applied by one
abbrev pub IsCallOfItem : {F R : Type 0} → (remaining : F → Option (List ℕ)) → PlainItem → Call R → Type 0
IsCallOfItem remaining (one number line) call = IsCallOfLine remaining line call
IsCallOfItem remaining (listed list) (calls.ApplyAll commands) = AreCommandsOfLines remaining list.lines commands.items
IsCallOfItem remaining (listed list) _ = ⊥

-- each item has its call
abbrev pub AreCallsOfItems : {F R : Type 0} → (remaining : F → Option (List ℕ)) → List PlainItem → List (Call R) → Type 0
AreCallsOfItems remaining [] [] = Unit {0}
AreCallsOfItems remaining (item ∷ items) (call ∷ calls) = IsCallOfItem remaining item call × AreCallsOfItems remaining items calls
AreCallsOfItems remaining _ _ = ⊥

-- ---- the device

-- a device with this number of sectors, which a store may have, and an empty store on it; it is what a crash left after formatting in this version
pub record IsEmptyStore (g : Ghosts ModelDevice) (sectors : ℕ) (version : FormatVersion) (device : ModelDevice) : Type 0 where
  pub size : size_of device ≡ sectors
  pub failed : failed_of device ≡ 0
  pub stands : ShutFits size_of history_of no_tables resumed device
  pub new : ModelDevice
  pub store : Store ModelDevice g
  pub formatted : FormatsStore size_of history_of version new store
  pub left : IsLeftOf size_of history_of (device_of store) device

-- the number of a call after the opening, which makes one call itself; 0 means none
abbrev pub after_opening : ℕ → ℕ
after_opening zero = 0
after_opening (suc k) = min (k + 2) (2 ^ 64 - 1)

-- what is printed of the store that an opening finds on a device
pub record IsFound {D : Type 0} (g : Ghosts D) {R : Type 0} (remaining : R → Option (List ℕ)) (device : D) (text : List ℕ) : Type 0 where
  pub opened : PlainReply
  pub found : StoreOrDevice D g
  pub opens : AnswersCall g.size g.story g.failed g.tells remaining (places.Shut device) calls.Open opened found
  pub listing : PlainReply
  pub after : StoreOrDevice D g
  pub lists : AnswersCall g.size g.story g.failed g.tells remaining found calls.Tables listing after
  pub printed : FoundText opened listing text

-- what is listed after the crash keeps what was acknowledged: the tables are those after some commands of the calls that were played, in their
-- order; all acknowledged commands are among them, and only these and those in which the device failed. The lines of a list are one command
pub record IsKept {R : Type 0} (remaining : R → Option (List ℕ)) (calls : List (Call R)) (replies : List PlainReply) (shown : List (List ℕ × ℕ)) : Type 0 where
  pub plains : List PlainCall
  pub are : AreCallsOf remaining (take (length replies) calls) plains
  pub settled : List PlainCommand
  pub tables : shown ≡ row_counts (after no_tables settled)
  pub kept : InOrder (acknowledged plains replies) settled
  pub only : InOrder settled (begun plains replies)

-- ---- the whole replay

pub record IsReplay (g : Ghosts ModelDevice) {R : Type 0} (remaining : R → Option (List ℕ)) (sectors : ℕ) (version : FormatVersion) (fail stop : ℕ)
    (choice : CrashChoice)
    (numbers : List ℕ) (played : List (Call R)) (text : List ℕ) : Type 0 where
  -- a device with an empty store, of which these calls fail
  pub device : ModelDevice
  pub empty : IsEmptyStore g sectors version device
  pub faults : faults_of device ≡ record no_faults { fail = after_opening fail; stop = after_opening stop }
  -- its store is opened, and the calls are played
  pub begin : StoreOrDevice ModelDevice g
  pub opening : AnswersCall g.size g.story g.failed g.tells remaining (places.Shut device) calls.Open done begin
  pub replies : List PlainReply
  pub end : StoreOrDevice ModelDevice g
  pub plays : Plays g (λ d. (faults_of d).stopped) remaining begin played replies end
  -- what a crash leaves under this choice
  pub left : ModelDevice
  pub crash : IsLeftOf size_of history_of (device_in end) left
  pub chosen : IsChosen choice (now (history_of (device_in end))) (size_of (device_in end)) (shown_image (now (history_of left)))
  -- and what is found there
  pub tables : List ℕ
  pub found : IsFound g remaining left tables
  pub kept : found.opened ≡ done → (shown : List (List ℕ × ℕ)) → found.listing ≡ counts shown → IsKept remaining played replies shown
  pub printed : text ≡ replies_text numbers replies ++ stop_text (faults_of (device_in end)).stopped ++ codes "after:\n" ++ tables

-- a file has a script, its items have these calls, and what their replay prints is written
pub record IsReplayOfFile (g : Ghosts ModelDevice) {F R : Type 0} (remaining : F → Option (List ℕ)) (no_reader : R → Option (List ℕ)) (sectors : ℕ)
    (version : FormatVersion) (fail stop : ℕ) (choice : CrashChoice) (output output' : Option (List ℕ)) : Type 0 where
  pub script : List ℕ
  pub of_file : IsOfFile remaining script
  pub items : List PlainItem
  pub parsed : IsScript script (Ok items)
  pub calls : List (Call R)
  pub are : AreCallsOfItems remaining items calls
  pub text : List ℕ
  pub replay : IsReplay g no_reader sectors version fail stop choice (map number_of items) calls text
  pub written : Appends output output' text

-- ---- why nothing is played

-- a file can't be read, or memory is refused
abbrev pub IsOfReading : Refusal → Type 0
IsOfReading (Io File) = Unit {0}
IsOfReading OutOfMemory = Unit {0}
IsOfReading _ = ⊥

-- why the files of lines that are played are not read: one can't be, or lacks the end that it is to have, or memory is refused
abbrev pub IsOfStreams : Refusal → Type 0
IsOfStreams NoEnd = Unit {0}
IsOfStreams refusal = IsOfReading refusal

-- why a new device, on which no store is, does not get one: no store has its size, or memory is refused, to the device too
abbrev pub IsOfNewDevice : (sectors : ℕ) → OpeningRefusal → Type 0
IsOfNewDevice sectors (openings.Damaged cause) = (cause ≡ DeviceSize) × (is_size sectors ≡ false)
IsOfNewDevice sectors openings.Device = Unit {0}
IsOfNewDevice sectors openings.OutOfMemory = Unit {0}
IsOfNewDevice sectors _ = ⊥

abbrev pub FailsToFormat : (sectors : ℕ) → Refusal → Type 0
FailsToFormat sectors (Opening refusal) = IsOfNewDevice sectors refusal
FailsToFormat sectors OutOfMemory = Unit {0}
FailsToFormat sectors _ = ⊥

-- why lines that can be played are not: memory is refused, to the device too
abbrev pub IsOfPlaying : Refusal → Type 0
IsOfPlaying OutOfMemory = Unit {0}
IsOfPlaying (Opening openings.OutOfMemory) = Unit {0}
IsOfPlaying (Opening openings.Device) = Unit {0}
IsOfPlaying _ = ⊥

-- this line is the first invalid one of the script
abbrev pub RefusesScript : List ℕ → Refusal → Type 0
RefusesScript script (BadScript number) = IsScript script (Err (BadLine number))
RefusesScript script OutOfMemory = Unit {0}
RefusesScript script _ = ⊥

-- why a script is not replayed: no store has this number of sectors, which is reported first; the line of this number is the first invalid one of
-- the script in some file; a file can't be read, or lacks the end that it is to have, or the output can't be written; or memory is refused
abbrev pub RefusesReplay : {F : Type 0} → (remaining : F → Option (List ℕ)) → (sectors : ℕ) → Refusal → Type 0
RefusesReplay remaining sectors (Opening refusal) = IsOfNewDevice sectors refusal
RefusesReplay remaining sectors (BadScript number) = (is_size sectors ≡ true)
    × ((script : List ℕ) × IsOfFile remaining script × IsScript script (Err (BadLine number)))
RefusesReplay remaining sectors (Io File) = is_size sectors ≡ true
RefusesReplay remaining sectors (Io Output) = is_size sectors ≡ true
RefusesReplay remaining sectors TooManyBytes = is_size sectors ≡ true
RefusesReplay remaining sectors NoEnd = is_size sectors ≡ true
RefusesReplay remaining sectors OutOfMemory = Unit {0}
RefusesReplay remaining sectors _ = ⊥
