-- The place of a run's entry in the sorted list.
use Rattle.std.specs.Prelude.{◌≡◌, ◌≤◌, ◌<◌, ◌+◌, ℕ, zero, suc, nat_lt, if◌then◌else◌, List, [], ◌∷◌, length, get_or}
use Rattle.segments.specs.declared.run.Run.{Run}
use Rattle.segments.specs.declared.entries.UsageEntry.{UsageEntry}
use Rattle.segments.specs.Runs.{IsApart}
use Rattle.segments.specs.declared.entries.Usage.{Usage}
use Rattle.segments.specs.declared.entries.Holder.{Holder}
use Rattle.segments.specs.declared.entries.Holder.TheVariants.{Catalogue, Snapshot}
use Rattle.segments.specs.Usages.{UNUSED, usage_of, usage_after, given, unpinned, unpinned_times, times_among, EndBy}

-- the number of entries before one that starts here
abbrev pub place_of : ℕ → List UsageEntry → ℕ
place_of start [] = 0
place_of start (e ∷ es) = if nat_lt e.run.start start then suc (place_of start es) else 0

-- the end of the entries before a place, in a list that starts at this sector
abbrev pub end_before : ℕ → List UsageEntry → ℕ → ℕ
end_before from es zero = from
end_before from [] (suc place) = from
end_before from (e ∷ es) (suc place) = end_before (e.run.start + e.run.count) es place

-- the run meets none of these
abbrev pub ApartEach : Run → List UsageEntry → Type 0
ApartEach run [] = Unit {0}
ApartEach run (e ∷ es) = IsApart run e.run × ApartEach run es

-- the entry at this place is that of the run
pub record HasEntryAt (es : List UsageEntry) (run : Run) (place : ℕ) : Type 0 where
  pub within : place < length es
  pub is : (get_or es place (record { run = run; usage = UNUSED })).run ≡ run
  pub usage : (get_or es place (record { run = run; usage = UNUSED })).usage ≡ usage_of es run

-- the entries ascend from this sector on without overlap, used or not
abbrev pub Ascending : ℕ → List UsageEntry → Type 0
Ascending from [] = Unit {0}
Ascending from (e ∷ es) = (from ≤ e.run.start) × (1 ≤ e.run.count) × Ascending (e.run.start + e.run.count) es

-- the usage of a run after one of its holders releases it
abbrev pub without : Holder → Usage → Usage
without Catalogue usage = given usage
without Snapshot usage = unpinned usage

-- and after the holder releases these runs
abbrev pub without_each : Holder → List Run → Run → Usage → Usage
without_each Catalogue runs run usage = usage_after runs run usage
without_each Snapshot runs run usage = unpinned_times (times_among runs run) usage

-- these runs were released if they have entries; an entry that is no longer used may remain
pub record LetGoAmong (holder : Holder) (old new : List UsageEntry) (runs : List Run) : Type 0 where
  pub len : length new ≡ length old
  pub ascending : Ascending 2 new
  pub within : (size : ℕ) → EndBy size old → EndBy size new
  pub usages : (run : Run) → usage_of new run ≡ without_each holder runs run (usage_of old run)
