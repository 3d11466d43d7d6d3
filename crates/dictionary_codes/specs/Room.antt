-- For how many cells a dictionary has room.
use Rattle.std.specs.Prelude.{◌≡◌, ◌≤◌, ◌<◌, ℕ, ◌+◌, List, length, take}
use Rattle.cells.specs.Cell.{Cell}
use Rattle.cells.specs.Dictionary.{with_entries}

-- of some cells, a dictionary that may have so many entries has room for just the first n; if these are all, their entries were added
pub record IsRoomFor (most : ℕ) (old new cells : List Cell) (n : ℕ) : Type 0 where
  pub within : n ≤ length cells
  pub fits : length (with_entries old (take n cells)) ≤ most
  pub full : n < length cells → most < length (with_entries old (take (n + 1) cells))
  pub named : n ≡ length cells → new ≡ with_entries old cells
