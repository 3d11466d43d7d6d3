-- Laws of the story of a file in memory.
use Rattle.std.specs.Prelude.{◌≡◌, ◌≢◌, ℕ, Bool, true, false, if◌then◌else◌, List, [], ◌∷◌, Option, refl}
use Rattle.std.proofs.Common.{subst}
use Rattle.sector_dev.specs.Disk.{Disk, Sector, Story, now, flushed, ShowsImage, MayHold, MayLeave, HoldsContents, IsSafe, IsWhole}
use Rattle.sector_dev.specs.Rows.{SectorWrite, row_from, write_done, grown}
use Rattle.sector_dev.specs.History.{all_synced, content_at}
use Rattle.sector_dev.specs.FileHistory.{file_replay, file_story, flushed_where, marked_at}
use Rattle.sector_dev.specs.inner.Stored.{shown_in, stored_of}
use Rattle.sector_dev.specs.laws.Crash.{holds_synced}
use Rattle.sector_dev.specs.inner.Newest.{ReadsNewest, reads_put, reads_flushed, reads_first, shows_newest}
use Rattle.sector_dev.specs.laws.Behind.{grown_begun}
use Rattle.sector_dev.specs.declared.file_log.FileEvent.{FileEvent}
use Rattle.sector_dev.specs.declared.file_log.FileEvent.TheVariants.{Wrote, Synced, SyncedMarked}

grown_newest : (ws : List SectorWrite) (s : Story) → ReadsNewest (now s) → ReadsNewest (now (grown ws s))
grown_newest [] s reads = reads
grown_newest (w ∷ ws) s reads = grown_newest ws (write_done w s) (reads_put (now s) w.sector w.content reads)

-- ---- a sync of some sectors

-- a sector after such a sync
abbrev pub synced_if : Bool → Sector → Sector
synced_if marked s = if marked then record { synced = s.shown; pending = []; shown = s.shown } else s

reads_marked : (w : ℕ → Bool) (d : Disk) → ReadsNewest d → ReadsNewest (flushed_where w d)
unfolding flushed_where
reads_marked w d reads k = elim (w k) as (λ b. (synced_if b (d.at k)).shown ≡ shown_in (stored_of (synced_if b (d.at k)))) [ true ↦ refl | false ↦ reads k ]

pub marked_whole : (w : ℕ → Bool) (d : Disk) → IsWhole d → IsWhole (flushed_where w d)
unfolding IsWhole flushed_where
marked_whole w d whole k = elim (w k) as (λ b. HoldsContents (synced_if b (d.at k))) [ true ↦ ((whole k).1.1, (tt, (whole k).1.1)) | false ↦ whole k ]

-- a marked sector is safe then
pub marked_safe : (w : ℕ → Bool) (d : Disk) (n : ℕ) → w n ≡ true → IsSafe (flushed_where w d) n (d.at n).shown
unfolding flushed_where MayLeave
marked_safe w d n is image may =
    holds_synced (record { synced = (d.at n).shown; pending = []; shown = (d.at n).shown }) (image n) refl (subst (λ b. MayHold (synced_if b (d.at n)) (image n)) is (may n))

replay_newest : (es : List FileEvent) (s : Story) → ReadsNewest (now s) → ReadsNewest (now (file_replay es s))
replay_newest [] s reads = reads
replay_newest (Wrote n cs ∷ es) s reads = replay_newest es (grown (row_from n cs.items) s) (grown_newest (row_from n cs.items) s reads)
replay_newest (Synced ∷ es) s reads = replay_newest es (flushed (now s) ∷ now s ∷ s) (reads_flushed (now s))
replay_newest (SyncedMarked marks ∷ es) s reads =
    replay_newest es (flushed_where (marked_at marks.items) (now s) ∷ now s ∷ s) (reads_marked (marked_at marks.items) (now s) reads)

-- a read of a sector returns its newest content, or the synced one if there is none
pub file_newest : (start : List (Option (List ℕ))) (log : List FileEvent) → ReadsNewest (now (file_story start log))
unfolding file_story
file_newest start log = replay_newest log (all_synced (content_at start) ∷ []) (reads_first (content_at start))

-- what reads return is what a crash may leave
pub file_shows : (start : List (Option (List ℕ))) (log : List FileEvent) → ShowsImage (now (file_story start log))
file_shows start log = shows_newest (now (file_story start log)) (file_newest start log)

replay_begun : (es : List FileEvent) (s : Story) → s ≢ [] → file_replay es s ≢ []
replay_begun [] s some = some
replay_begun (Wrote n cs ∷ es) s some = replay_begun es (grown (row_from n cs.items) s) (grown_begun (row_from n cs.items) s some)
replay_begun (Synced ∷ es) s some = replay_begun es (flushed (now s) ∷ now s ∷ s) (λ none. cc none)
replay_begun (SyncedMarked marks ∷ es) s some = replay_begun es (flushed_where (marked_at marks.items) (now s) ∷ now s ∷ s) (λ none. cc none)

-- there is a moment
pub file_begun : (start : List (Option (List ℕ))) (log : List FileEvent) → file_story start log ≢ []
unfolding file_story
file_begun start log = replay_begun log (all_synced (content_at start) ∷ []) (λ none. cc none)
