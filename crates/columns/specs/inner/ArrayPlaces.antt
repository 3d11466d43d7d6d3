-- The array of a dictionary that has an entry.
use Rattle.std.specs.Prelude.{ℕ, ◌+◌, ◌≤◌, ◌<◌, List, length, take}
use Rattle.columns.specs.declared.array.PlacedArray.{PlacedArray}
use Rattle.columns.specs.Ends.{entry_count}

-- the arrays before place i have at most `index` entries, and with the one at i there are more; if no array has the entry, i is past the last
pub record IsArrayPlace (arrays : List PlacedArray) (index i : ℕ) : Type 0 where
  pub within : i ≤ length arrays
  pub before : entry_count (take i arrays) ≤ index
  pub up_to : i < length arrays → index < entry_count (take (i + 1) arrays)
