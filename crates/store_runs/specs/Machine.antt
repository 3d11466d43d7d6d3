-- The model against which a run is checked: the settled commands, at most one in doubt, and whether a store is open.
use Rattle.std.specs.Prelude.{◌≡◌, ◌⊎◌, ◌+◌, ◌++◌, ◌==◌, ◌&&◌, ℕ, Bool, true, false, if◌then◌else◌, not, nat_lt, List, [], ◌∷◌, find, map, Option, Some, None}
use Rattle.std.specs.List.{filter, flat_map}
use Rattle.segments.specs.declared.run.Run.{Run}
use Rattle.sector_dev.specs.Disk.{Disk, Image}
use Rattle.sector_dev.specs.Time.{LeavesOnly}
use Rattle.commit.specs.Standing.{InSome}
use Rattle.tables.specs.Tables.{Tables}
use Rattle.tables.specs.Commands.{PlainCommand}
use Rattle.tables.specs.Verdict.{after}
use Rattle.store_runs.specs.Calls.{PlainCall, PlainReply, command_in, may_be_done}

-- what an opening of an image finds: no store, a store that is damaged or has a segment that can't be read, or these tables
pub data Held : Type 0 where
  no_store : Held
  broken : Held
  holds : Tables → Held

-- the setting of a run: the sectors of its device, how images are read, and the tables with which it began
pub record Setting : Type 0 where
  pub size : ℕ
  pub held : Image → Held
  pub base : Tables

-- `shut`: no store is open. `halted`: one is, and its device failed
pub data Phase : Type 0 where
  shut : Phase
  running : Phase
  halted : Phase

-- an open export: the runs of its segments, which are not written while it is open, the pieces of its stream, and the number of pieces that were given
pub record Export : Type 0 where
  pub id : ℕ
  pub runs : List Run
  pub pieces : List (List ℕ)
  pub given : ℕ

-- `started`: the run began with a store, or a formatting or an opening succeeded. `next_id`: the id of the export that is opened next; while a store is
-- open, no id is used twice
pub record Machine : Type 0 where
  pub started : Bool
  pub phase : Phase
  pub settled : List PlainCommand
  pub doubt : Option PlainCommand
  pub exports : List Export
  pub next_id : ℕ

abbrev pub with_doubt : List PlainCommand → Option PlainCommand → List PlainCommand
with_doubt settled None = settled
with_doubt settled (Some c) = settled ++ c ∷ []

-- the tables of the settled commands
abbrev pub tables_now : Setting → Machine → Tables
tables_now s m = after s.base m.settled

-- what a stop may leave: the tables after the settled commands, or with the one in doubt as well; before the start also no store
unfoldable pub Allows : Setting → Machine → Image → Type 0
Allows s m image =
    (s.held image ≡ holds (after s.base m.settled))
    ⊎ (s.held image ≡ holds (after s.base (with_doubt m.settled m.doubt)))
    ⊎ ((m.started ≡ false) × (s.held image ≡ no_store))

-- ---- how a machine continues

abbrev pub settle : PlainCommand → Machine → Machine
settle c m = record m { started = true; phase = running; settled = m.settled ++ c ∷ []; doubt = None }

-- a store that was opened, with these commands settled
abbrev pub opened : List PlainCommand → Machine
opened settled = record { started = true; phase = running; settled = settled; doubt = None; exports = []; next_id = 0 }

-- closing the store closes its exports
abbrev pub shut_down : Machine → Machine
shut_down m = record m { phase = shut; exports = []; next_id = 0 }

-- the device failed: a command that had begun a write is in doubt
abbrev pub doubtful : PlainCall → Machine → Option PlainCommand
doubtful call m = elim (command_in call) [ None ↦ m.doubt | Some c ↦ Some c ]

abbrev pub halt : PlainCall → Bool → Machine → Machine
halt call wrote m = record m { phase = halted; doubt = if wrote then doubtful call m else m.doubt }

-- ---- while a call runs

-- a command is in doubt once it has begun a write
abbrev pub meanwhile : PlainCall → Machine → Bool → Machine
meanwhile call m begun = if begun then record m { doubt = doubtful call m } else m

abbrev pub has_written : Disk → Disk → Bool
has_written before d = nat_lt before.writes d.writes

-- what a stop may leave at a moment of a call that began at this disk: a command that is refused for another reason than a failure of the device was
-- never in doubt
abbrev pub AllowsAt : Setting → PlainCall → PlainReply → Machine → Disk → Disk → Image → Type 0
AllowsAt s call reply m before d image = Allows s (meanwhile call m (may_be_done reply && has_written before d)) image

abbrev pub AllowsEach : Setting → PlainCall → PlainReply → Machine → Disk → Disk → Type 0
AllowsEach s call reply m before d = LeavesOnly (AllowsAt s call reply m before d) d

-- ---- exports

-- the runs that they keep
abbrev pub pinned_by : Machine → List Run
pinned_by m = flat_map (λ (e : Export). e.runs) m.exports

-- no sector of such a run was written
abbrev pub SparesKept : Machine → (before : Disk) → Disk → Type 0
SparesKept m before d = (n : ℕ) → InSome (pinned_by m) n → d.at n ≡ before.at n

abbrev pub is_of : ℕ → Export → Bool
is_of id e = e.id == id

abbrev pub export_at : List Export → ℕ → Option Export
export_at exports id = find (is_of id) exports

abbrev pub with_export : Export → Machine → Machine
with_export e m = record m { exports = m.exports ++ e ∷ []; next_id = m.next_id + 1 }

-- one more piece was given
abbrev pub gave : ℕ → Export → Export
gave id e = if is_of id e then record e { given = e.given + 1 } else e

-- the end was given again
abbrev pub after_piece : Option (List ℕ) → ℕ → Machine → Machine
after_piece None id m = m
after_piece (Some piece) id m = record m { exports = map (gave id) m.exports }

abbrev pub without_export : ℕ → Machine → Machine
without_export id m = record m { exports = filter (λ e. not (is_of id e)) m.exports }
