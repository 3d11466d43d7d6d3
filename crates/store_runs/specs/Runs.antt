-- Calls one after another.
use Rattle.std.specs.Prelude.{◌≡◌, ◌≢◌, ℕ, true, false, List, [], ◌∷◌, Some}
use Rattle.sector_dev.specs.Disk.{Disk, Story, now, shown_image}
use Rattle.sector_dev.specs.Time.{Grows, LeavesOnly}
use Rattle.catalogue.specs.Entries.{PlainEntry, PlainCatalogue, runs_in_segments}
use Rattle.catalogue.specs.Edits.{entry_of}
use Rattle.commit.specs.declared.opening_refusal.OpeningRefusal.TheVariants as openings
use Rattle.store_runs.specs.Calls.{PlainCall, needs_store, open_export_call, PlainReply, export_is, shut_by, is_device_reply, is_change, counted}
use Rattle.store_runs.specs.Carrying.{HasNoChange}
use Rattle.store_runs.specs.Held.{pieces_held}
use Rattle.store_runs.specs.Rooms.{TellsRoom}
use Rattle.store_runs.specs.Machine.{no_store, Setting, Machine, Export, export_at, Allows, AllowsEach, SparesKept, has_written, pinned_by}
use Rattle.store_runs.specs.Steps.{Step}

-- what is reported about a store that was already there, or about none, is what reads showed when the call began
abbrev pub TellsFound : Setting → PlainReply → Disk → Type 0
TellsFound s (shut_by openings.AlreadyAStore) d = s.held (shown_image d) ≢ no_store
TellsFound s (shut_by openings.NotAStore) d = s.held (shown_image d) ≡ no_store
TellsFound s _ d = Unit {0}

-- an export that was opened, by what reads showed when the call began: it keeps the runs of the segments that the catalogue lists for its table, and its
-- pieces are those of these segments
pub record KeepsShown (before : Disk) (name : List ℕ) (export : Export) (c : PlainCatalogue) : Type 0 where
  pub entry : PlainEntry
  pub listed : entry_of c name ≡ Some entry
  pub runs : export.runs ≡ runs_in_segments entry.segments
  pub pieces : pieces_held entry.schema entry.segments (shown_image before) ≡ Some export.pieces

-- no other call opens one
abbrev pub TellsExport : Setting → PlainCall → PlainReply → (before : Disk) → (next : Machine) → Type 0
TellsExport s (open_export_call name) (export_is id) before next =
    (export : Export) × (export_at next.exports id ≡ Some export) × HasNoChange s.size before (λ k c. KeepsShown before name export c)
TellsExport s call reply before next = Unit {0}

-- one call: its reply, how the machine continues, and what a stop during it and after it may leave. A call that did not succeed, or only reads, changes
-- nothing, unless its device failed.
pub record Goes (s : Setting) (m : Machine) (call : PlainCall) (reply : PlainReply) (old new : Story) (failed failed' : ℕ) (next : Machine) : Type 0 where
  pub step : Step s m call reply (has_written (now old) (now new)) next
  pub moments : Grows (AllowsEach s call reply m (now old)) old new
  pub settles : LeavesOnly (Allows s next) (now new)
  pub quiet : is_change call reply ≡ false → is_device_reply reply ≡ false → now new ≡ now old
  pub counts : failed' ≡ counted reply failed
  pub tells : TellsFound s reply (now old)
  pub room : TellsRoom s (pinned_by m) call reply (now old) (now new)
  pub keeps : TellsExport s call reply (now old) next
  -- an opening and a formatting end the exports
  pub spares : needs_store call ≡ true → Grows (SparesKept m (now old)) old new

-- a call, and then P of the machine, the story and the failures after it
pub record Then (s : Setting) (m : Machine) (call : PlainCall) (reply : PlainReply) (old : Story) (failed : ℕ) (P : Machine → Story → ℕ → Type 0) : Type 0 where
  pub machine : Machine
  pub story : Story
  pub failures : ℕ
  pub goes : Goes s m call reply old story failed failures machine
  pub others : P machine story failures

-- no more calls
pub record Ends (m : Machine) (story : Story) (failed : ℕ) (m' : Machine) (story' : Story) (failed' : ℕ) : Type 0 where
  pub machine : m' ≡ m
  pub same : story' ≡ story
  pub failures : failed' ≡ failed

-- these calls had these replies, one after another: from a machine, a story and a number of failures to those after them
unfoldable pub Run : Setting → List PlainCall → List PlainReply → Machine → Story → ℕ → Machine → Story → ℕ → Type 0
Run s [] [] m old failed m' new failed' = Ends m old failed m' new failed'
Run s (call ∷ calls) (reply ∷ replies) m old failed m' new failed' = Then s m call reply old failed (λ mid story failures. Run s calls replies mid story failures m' new failed')
Run s [] (reply ∷ replies) m old failed m' new failed' = ⊥
Run s (call ∷ calls) [] m old failed m' new failed' = ⊥
