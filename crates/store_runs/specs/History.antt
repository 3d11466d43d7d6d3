-- The commands of a run: those that may have been applied, and those that were acknowledged.
use Rattle.std.specs.Prelude.{◌≡◌, ◌≢◌, ◌⊎◌, ◌||◌, Bool, true, false, if◌then◌else◌, List, [], ◌∷◌, ◌++◌, Option, Some, None}
use Rattle.sector_dev.specs.Disk.{Image}
use Rattle.tables.specs.Commands.{PlainCommand}
use Rattle.tables.specs.Verdict.{after}
use Rattle.commit.specs.declared.opening_refusal.OpeningRefusal.TheVariants as openings
use Rattle.store_runs.specs.Calls.{PlainCall, apply_call, stream_call, PlainReply, done, shut_by, may_be_done, is_change}
use Rattle.store_runs.specs.Machine.{no_store, holds, Setting, Machine, halted}

-- these are among those, in the same order
abbrev pub InOrder : List PlainCommand → List PlainCommand → Type 0
InOrder [] ys = Unit {0}
InOrder (x ∷ xs) [] = ⊥
InOrder (x ∷ xs) (y ∷ ys) = ((x ≡ y) × InOrder xs ys) ⊎ InOrder (x ∷ xs) ys

abbrev pub in_doubt : Option PlainCommand → List PlainCommand
in_doubt None = []
in_doubt (Some c) = c ∷ []

-- the command of a call, if it has one
abbrev pub called_by : PlainCall → List PlainCommand
called_by (apply_call c) = c ∷ []
called_by (stream_call c) = c ∷ []
called_by _ = []

-- the command of a call that was acknowledged or during which the device failed; none if it was refused for another reason
abbrev pub begun_by : PlainCall → PlainReply → List PlainCommand
begun_by call reply = if may_be_done reply then called_by call else []

abbrev pub begun : List PlainCall → List PlainReply → List PlainCommand
begun [] replies = []
begun (call ∷ calls) [] = []
begun (call ∷ calls) (reply ∷ replies) = begun_by call reply ++ begun calls replies

-- the command of a call that was acknowledged
abbrev pub acknowledged_by : PlainCall → PlainReply → List PlainCommand
acknowledged_by call done = called_by call
acknowledged_by call _ = []

abbrev pub acknowledged : List PlainCall → List PlainReply → List PlainCommand
acknowledged [] replies = []
acknowledged (call ∷ calls) [] = []
acknowledged (call ∷ calls) (reply ∷ replies) = acknowledged_by call reply ++ acknowledged calls replies

-- a command, a formatting or an opening was acknowledged. From then on there is a store
abbrev pub any_change : List PlainCall → List PlainReply → Bool
any_change [] replies = false
any_change (call ∷ calls) [] = false
any_change (call ∷ calls) (reply ∷ replies) = is_change call reply || any_change calls replies

-- how the settled commands grew: by all that were acknowledged, and by none that did not begin and was not in doubt before; with the one in doubt at the end
pub record Settles (settled settled' : List PlainCommand) (doubt doubt' : Option PlainCommand) (acknowledged begun : List PlainCommand) : Type 0 where
  pub more : List PlainCommand
  pub grew : settled' ≡ settled ++ more
  pub kept : InOrder acknowledged more
  pub only : InOrder (more ++ in_doubt doubt') (in_doubt doubt ++ begun)

-- exactly the acknowledged commands are settled, none is in doubt, and no store is halted
pub record SettlesAll (m m' : Machine) (acknowledged : List PlainCommand) : Type 0 where
  pub settled : m'.settled ≡ m.settled ++ acknowledged
  pub none : m'.doubt ≡ None
  pub on : m'.phase ≢ halted

-- an image has the tables of settled commands that grew in this way from those of this machine, with none in doubt
pub record HoldsSettled (s : Setting) (m : Machine) (acknowledged begun : List PlainCommand) (image : Image) : Type 0 where
  pub settled : List PlainCommand
  pub held : s.held image ≡ holds (after s.base settled)
  pub settles : Settles m.settled settled m.doubt None acknowledged begun

-- or it has no store, and there was none: no command, formatting or opening was acknowledged
pub record HoldsNone (s : Setting) (m : Machine) (changed : Bool) (acknowledged : List PlainCommand) (image : Image) : Type 0 where
  pub none : s.held image ≡ no_store
  pub fresh : m.started ≡ false
  pub unchanged : changed ≡ false
  pub silent : acknowledged ≡ []

abbrev pub Keeps : Setting → Machine → (changed : Bool) → (acknowledged begun : List PlainCommand) → Image → Type 0
Keeps s m changed acknowledged begun image = HoldsSettled s m acknowledged begun image ⊎ HoldsNone s m changed acknowledged image

-- ---- replies that never occur

-- a store is reported as damaged
abbrev pub tells_damage : PlainReply → Bool
tells_damage (shut_by (openings.Damaged cause)) = true
tells_damage _ = false

-- a device is reported as one without a store
abbrev pub tells_no_store : PlainReply → Bool
tells_no_store (shut_by openings.NotAStore) = true
tells_no_store _ = false
