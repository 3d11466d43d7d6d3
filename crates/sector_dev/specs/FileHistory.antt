-- The story of a file in memory that keeps its initial contents, and each write and sync since.
use Rattle.std.specs.Prelude.{◌≡◌, ◌⊎◌, ◌<◌, ◌≤◌, ◌+◌, ◌-◌, ℕ, Bool, false, if◌then◌else◌, List, [], ◌∷◌, ◌++◌, Option, Some, length, get_or}
use Rattle.std.proofs.Common.{refl, ap}
use Rattle.sector_dev.specs.Disk.{Disk, Story, now, flushed}
use Rattle.sector_dev.specs.Rows.{row_from, grown}
use Rattle.sector_dev.specs.History.{all_synced, content_at}
use Rattle.sector_dev.specs.inner.Stored.{stored_at}
use Rattle.sector_dev.specs.declared.stored.StoredSector.{StoredSector}
use Rattle.sector_dev.specs.declared.file_log.FileEvent.{FileEvent}
use Rattle.sector_dev.specs.declared.file_log.FileEvent.TheVariants.{Wrote, Synced, SyncedMarked}

-- the sector is marked
abbrev pub marked_at : List Bool → ℕ → Bool
marked_at marks n = get_or marks n false

-- after a sync of these sectors alone: what reads return of them is synced
unfoldable pub flushed_where : (ℕ → Bool) → Disk → Disk
flushed_where marked d = record { at = λ k. if marked k then record { synced = (d.at k).shown; pending = []; shown = (d.at k).shown } else d.at k; writes = d.writes }

-- after one call
abbrev pub file_step : FileEvent → Story → Story
file_step (Wrote n cs) s = grown (row_from n cs.items) s
file_step Synced s = flushed (now s) ∷ now s ∷ s
file_step (SyncedMarked marks) s = flushed_where (marked_at marks.items) (now s) ∷ now s ∷ s

-- after these calls
abbrev pub file_replay : List FileEvent → Story → Story
file_replay [] s = s
file_replay (e ∷ es) s = file_replay es (file_step e s)

-- the story since the start
unfoldable pub file_story : List (Option (List ℕ)) → List FileEvent → Story
file_story start log = file_replay log (all_synced (content_at start) ∷ [])

replay_push : (es : List FileEvent) (e : FileEvent) (s : Story) → file_replay (es ++ e ∷ []) s ≡ file_step e (file_replay es s)
replay_push [] e s = refl
replay_push (x ∷ es) e s = replay_push es e (file_step x s)

-- one call more
pub file_push : (start : List (Option (List ℕ))) (log : List FileEvent) (e : FileEvent) → file_story start (log ++ e ∷ []) ≡ file_step e (file_story start log)
unfolding file_story
file_push start log e = replay_push log e (all_synced (content_at start) ∷ [])

-- the story before the first call
pub file_first : (start : List (Option (List ℕ))) (log : List FileEvent) → log ≡ [] → file_story start log ≡ all_synced (content_at start) ∷ []
unfolding file_story
file_first start log none = ap (λ (es : List FileEvent). file_replay es (all_synced (content_at start) ∷ [])) none

-- these sectors were written, and the others are as they were
pub record SetsRow (start : ℕ) (contents : List (List ℕ)) (old new : List StoredSector) : Type 0 where
  pub len : length new ≡ length old
  pub there : (n : ℕ) → start ≤ n → n < start + length contents
      → stored_at new n ≡ record { synced = (stored_at old n).synced; newest = Some (get_or contents (n - start) []) }
  pub others : (n : ℕ) → (n < start) ⊎ (start + length contents ≤ n) → stored_at new n ≡ stored_at old n
