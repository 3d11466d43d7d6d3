-- The usages of the runs of a device.
use Rattle.std.specs.Prelude.{◌≡◌, ◌≢◌, ◌≤◌, ◌<◌, ◌+◌, ◌-◌, ◌==◌, ◌&&◌, ◌||◌, ℕ, Bool, true, false, nat_lt, if◌then◌else◌, List, [], ◌∷◌}
use Rattle.segments.specs.declared.run.Run.{Run}
use Rattle.segments.specs.declared.entries.Usage.{Usage}
use Rattle.segments.specs.declared.entries.UsageEntry.{UsageEntry}
use Rattle.segments.specs.declared.search_cursor.SearchCursor.{SearchCursor}
use Rattle.segments.specs.Runs.{IsFree}

-- the size of a device in sectors, and its runs in use in order
pub record Space : Type 0 where
  pub size : ℕ
  pub entries : List UsageEntry

-- a run is used while it is taken or pinned
abbrev pub is_used : Usage → Bool
is_used usage = usage.taken || nat_lt 0 usage.pins

abbrev pub UNUSED : Usage
UNUSED = record { taken = false; pins = 0 }

abbrev pub TAKEN : Usage
TAKEN = record { taken = true; pins = 0 }

-- the usage after the catalogue gave the run back, and with one pin more or less
abbrev pub given : Usage → Usage
given usage = record { taken = false; pins = usage.pins }

abbrev pub pinned : Usage → Usage
pinned usage = record { taken = usage.taken; pins = usage.pins + 1 }

abbrev pub unpinned : Usage → Usage
unpinned usage = record { taken = usage.taken; pins = usage.pins - 1 }

abbrev pub same_run : Run → Run → Bool
same_run a b = (a.start == b.start) && (a.count == b.count)

-- the usage of a run: a run without an entry is unused
abbrev pub usage_of : List UsageEntry → Run → Usage
usage_of [] run = UNUSED
usage_of (e ∷ es) run = if same_run e.run run then e.usage else usage_of es run

abbrev pub IsUsedIn : List UsageEntry → Run → Type 0
IsUsedIn es run = is_used (usage_of es run) ≡ true

-- the run is not in use, but is not free either
abbrev pub Overlaps : Space → Run → Type 0
Overlaps space run = (usage_of space.entries run ≡ UNUSED) × (IsFree space.size (IsUsedIn space.entries) run → ⊥)

abbrev pub IsUnused : Space → Run → Type 0
IsUnused space run = (usage_of space.entries run ≡ UNUSED) × IsFree space.size (IsUsedIn space.entries) run

-- each free run that starts before the cursor has at most `widest` sectors
abbrev pub IsSearched : Space → SearchCursor → Type 0
IsSearched space searched = (run : Run) → searched.widest < run.count → IsFree space.size (IsUsedIn space.entries) run → searched.start ≤ run.start

-- the entry of the run, if it is used, before these entries
abbrev pub entry_before : Run → Usage → List UsageEntry → List UsageEntry
entry_before run usage es = if is_used usage then record { run = run; usage = usage } ∷ es else es

-- the entries after the run got this usage
abbrev pub with_usage : Run → Usage → List UsageEntry → List UsageEntry
with_usage run usage [] = entry_before run usage []
with_usage run usage (e ∷ es) =
    if nat_lt e.run.start run.start then e ∷ with_usage run usage es else entry_before run usage (if same_run e.run run then es else e ∷ es)

-- the same for a device
abbrev pub with_run : Space → Run → Usage → Space
with_run space run usage = record { size = space.size; entries = with_usage run usage space.entries }

-- only the usage of one run has changed, to this one
pub record Changes (old new : Space) (run : Run) (usage : Usage) : Type 0 where
  pub size : new.size ≡ old.size
  pub this : usage_of new.entries run ≡ usage
  pub others : (other : Run) → other ≢ run → usage_of new.entries other ≡ usage_of old.entries other

-- the entries ascend from this sector on without overlap, and each is used
abbrev pub Ordered : ℕ → List UsageEntry → Type 0
Ordered from [] = Unit {0}
Ordered from (e ∷ es) = (from ≤ e.run.start) × (1 ≤ e.run.count) × (is_used e.usage ≡ true) × Ordered (e.run.start + e.run.count) es

-- each entry ends on the device
abbrev pub EndBy : ℕ → List UsageEntry → Type 0
EndBy size [] = Unit {0}
EndBy size (e ∷ es) = (e.run.start + e.run.count ≤ size) × EndBy size es

pub record IsSound (space : Space) : Type 0 where
  pub ordered : Ordered 2 space.entries
  pub within : EndBy space.size space.entries

-- each run has the same usage
abbrev pub SameUsages : List UsageEntry → List UsageEntry → Type 0
SameUsages old new = (run : Run) → usage_of new run ≡ usage_of old run

-- the run is one of these
abbrev pub is_among : List Run → Run → Bool
is_among [] run = false
is_among (r ∷ rs) run = same_run r run || is_among rs run

-- how many times it is
abbrev pub times_among : List Run → Run → ℕ
times_among [] run = 0
times_among (r ∷ rs) run = (if same_run r run then 1 else 0) + times_among rs run

-- the usage of a run after these were given back
abbrev pub usage_after : List Run → Run → Usage → Usage
usage_after back run usage = if is_among back run then given usage else usage

-- these runs are given back; no other run changes
pub record GivesAll (old new : Space) (runs : List Run) : Type 0 where
  pub size : new.size ≡ old.size
  pub usages : (run : Run) → usage_of new.entries run ≡ usage_after runs run (usage_of old.entries run)

-- the usage with `times` more pins, and with fewer
abbrev pub pinned_times : ℕ → Usage → Usage
pinned_times times usage = record { taken = usage.taken; pins = usage.pins + times }

abbrev pub unpinned_times : ℕ → Usage → Usage
unpinned_times times usage = record { taken = usage.taken; pins = usage.pins - times }

-- each of these runs has one more pin for each time it is listed; no other run changes
pub record PinsAll (old new : Space) (runs : List Run) : Type 0 where
  pub size : new.size ≡ old.size
  pub usages : (run : Run) → usage_of new.entries run ≡ pinned_times (times_among runs run) (usage_of old.entries run)

-- each of these runs has one pin less for each time it is listed
pub record UnpinsAll (old new : Space) (runs : List Run) : Type 0 where
  pub size : new.size ≡ old.size
  pub usages : (run : Run) → usage_of new.entries run ≡ unpinned_times (times_among runs run) (usage_of old.entries run)
