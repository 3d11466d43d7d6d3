-- Whether there was room for a change: what a reply says about the state when its call began.
use Rattle.std.specs.Prelude.{◌≡◌, ℕ, true, List, Option, Some, None, Ok, Err}
use Rattle.sector_dev.specs.Disk.{Disk, shown_image}
use Rattle.segments.specs.declared.run.Run.{Run}
use Rattle.catalogue.specs.Entries.{PlainCatalogue}
use Rattle.commit.specs.declared.sector.Commit.{Commit}
use Rattle.commit.specs.declared.sector.FormatVersion.TheVariants.{One, Two}
use Rattle.tables.specs.declared.refusal.Refusal.{Refusal}
use Rattle.tables.specs.Refusals.{Origin, by_room, origin_of}
use Rattle.tables.specs.Commands.{PlainCommand}
use Rattle.store_runs.specs.declared.compacting.Compaction.{Compaction}
use Rattle.store_runs.specs.declared.compacting.Compaction.TheVariants.{Merged, Moved, Nothing}
use Rattle.store_runs.specs.Calls.{PlainCall, apply_call, stream_call, compact_call, upgrade_call, PlainReply, done, merged, moved, nothing, already, refused}
use Rattle.store_runs.specs.Machine.{Setting}
use Rattle.store_runs.specs.Changes.{PlainChange}
use Rattle.store_runs.specs.Deciding.{IsDecided}
use Rattle.store_runs.specs.Compacting.{IsStep}
use Rattle.store_runs.specs.Digesting.{IsUpgrade}
use Rattle.store_runs.specs.Carrying.{IsInUse, IsCarriedOut, HasNoChange}

-- ---- the change that a call decides on, by what reads showed when it was called

-- a command
abbrev pub CommandDecides : (before : Disk) → PlainCommand → Commit → PlainCatalogue → PlainChange → Type 0
CommandDecides before command k c change = IsDecided true (shown_image before) c command (Ok change)

-- a step of a compaction of this kind; `None` if there is nothing to do
abbrev pub StepFinds : (size : ℕ) → (pinned : List Run) → (before : Disk) → Compaction → Commit → PlainCatalogue → Option PlainChange → Type 0
StepFinds size pinned before kind k c change = IsStep true (shown_image before) size (IsInUse k c pinned) c kind change

abbrev pub StepDecides : (size : ℕ) → (pinned : List Run) → (before : Disk) → Commit → PlainCatalogue → PlainChange → Type 0
StepDecides size pinned before k c change = (kind : Compaction) × StepFinds size pinned before kind k c (Some change)

-- an upgrade: of a store of version 1
abbrev pub UpgradeDecides : (before : Disk) → Commit → PlainCatalogue → PlainChange → Type 0
UpgradeDecides before k c change = (k.version ≡ One) × IsUpgrade true (shown_image before) c change

-- ---- the replies

-- the reason why there is no room for a change is true of the state when the call began
abbrev pub RoomFrom : Origin → ℕ → (pinned : List Run) → (before after : Disk) → (Decides : Commit → PlainCatalogue → PlainChange → Type 0) → Refusal → Type 0
RoomFrom by_room size pinned before after Decides r = IsCarriedOut size pinned before after Decides (Err r)
RoomFrom _ size pinned before after Decides r = Unit {0}

-- a command was applied, or found no room, by the state when the call began: its epoch, the number of segments after it, and the runs in use
abbrev pub TellsRoomOf : ℕ → (pinned : List Run) → PlainCommand → PlainReply → (before after : Disk) → Type 0
TellsRoomOf size pinned c done before after = IsCarriedOut size pinned before after (CommandDecides before c) (Ok tt)
TellsRoomOf size pinned c (refused r) before after = RoomFrom (origin_of r) size pinned before after (CommandDecides before c) r
TellsRoomOf size pinned c _ before after = Unit {0}

-- a step of this kind was carried out
abbrev pub StepEnds : ℕ → (pinned : List Run) → Compaction → (before after : Disk) → Type 0
StepEnds size pinned kind before after = IsCarriedOut size pinned before after (λ k c change. StepFinds size pinned before kind k c (Some change)) (Ok tt)

-- a step of a compaction was carried out, found nothing to do or found no room, by the same state
abbrev pub TellsStep : ℕ → (pinned : List Run) → PlainReply → (before after : Disk) → Type 0
TellsStep size pinned merged before after = StepEnds size pinned Merged before after
TellsStep size pinned moved before after = StepEnds size pinned Moved before after
TellsStep size pinned nothing before after = HasNoChange size before (λ k c. StepFinds size pinned before Nothing k c None)
TellsStep size pinned (refused r) before after = RoomFrom (origin_of r) size pinned before after (StepDecides size pinned before) r
TellsStep size pinned _ before after = Unit {0}

-- an upgrade was carried out, found a store of version 2 or found no room
abbrev pub TellsUpgrade : ℕ → (pinned : List Run) → PlainReply → (before after : Disk) → Type 0
TellsUpgrade size pinned done before after = IsCarriedOut size pinned before after (UpgradeDecides before) (Ok tt)
TellsUpgrade size pinned already before after = HasNoChange size before (λ k c. k.version ≡ Two)
TellsUpgrade size pinned (refused r) before after = RoomFrom (origin_of r) size pinned before after (UpgradeDecides before) r
TellsUpgrade size pinned _ before after = Unit {0}

-- the other calls need no room
abbrev pub TellsRoom : Setting → (pinned : List Run) → PlainCall → PlainReply → (before after : Disk) → Type 0
TellsRoom s pinned (apply_call c) reply before after = TellsRoomOf s.size pinned c reply before after
TellsRoom s pinned (stream_call c) reply before after = TellsRoomOf s.size pinned c reply before after
TellsRoom s pinned compact_call reply before after = TellsStep s.size pinned reply before after
TellsRoom s pinned upgrade_call reply before after = TellsUpgrade s.size pinned reply before after
TellsRoom s pinned _ reply before after = Unit {0}
