-- The reply to a call in the middle of a run, by the commands that were acknowledged before it.
use Rattle.std.specs.Prelude.{◌≡◌, ◌≢◌, Bool, false, ℕ, List, None}
use Rattle.std.specs.List.{list_any}
use Rattle.store_runs.specs.Calls.{PlainCall, PlainReply, is_device_reply}
use Rattle.store_runs.specs.Machine.{Setting, Machine, halted}
use Rattle.store_runs.specs.Steps.{Step}
use Rattle.store_runs.specs.History.{begun, acknowledged, Settles, SettlesAll}
use Rattle.store_runs.specs.Snapshots.{GivesTable}

-- the machine that these calls lead to from another one: its settled commands grew by the acknowledged ones, in order. If no reply says that the device
-- failed, they grew by exactly those
pub record IsReached (m : Machine) (calls : List PlainCall) (replies : List PlainReply) (reached : Machine) : Type 0 where
  pub settles : Settles m.settled reached.settled m.doubt reached.doubt (acknowledged calls replies) (begun calls replies)
  pub all_settled : m.doubt ≡ None → m.phase ≢ halted → list_any is_device_reply replies ≡ false → SettlesAll m reached (acknowledged calls replies)

-- a call after these calls has this reply, which follows from the tables of that machine
pub record IsReplied (s : Setting) (m : Machine) (calls : List PlainCall) (replies : List PlainReply) (call : PlainCall) (reply : PlainReply) : Type 0 where
  pub machine : Machine
  pub reached : IsReached m calls replies machine
  pub wrote : Bool
  pub next : Machine
  pub step : Step s machine call reply wrote next

-- an export that was opened after these calls gave these pieces: joined, they are a stream of the table that this machine has at the name
pub record GivesSnapshot (s : Setting) (m : Machine) (calls : List PlainCall) (replies : List PlainReply) (name : List ℕ) (pieces : List (List ℕ)) : Type 0 where
  pub machine : Machine
  pub reached : IsReached m calls replies machine
  pub gives : GivesTable s machine name pieces
