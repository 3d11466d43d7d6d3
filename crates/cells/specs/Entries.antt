-- The entries of a dictionary column, stated by its values.
use Rattle.std.specs.Prelude.{◌≡◌, ◌↔◌, Some, List, ◌++◌}
use Rattle.std.specs.List.{Contains, AllPairs}
use Rattle.cells.specs.Cell.{Cell}
use Rattle.cells.specs.Dictionary.{entry_in}

-- some first cells contain the one value but not the other
pub record IsSeenBefore (cells : List Cell) (one other : Cell) : Type 0 where
  pub front : List Cell
  pub behind : List Cell
  pub begins : front ++ behind ≡ cells
  pub has : Contains front one
  pub lacks : ¬ Contains front other

-- the values among the cells that can be entries, each once, in order of first occurrence
pub record AreEntries (cells entries : List Cell) : Type 0 where
  pub values : (c : Cell) → Contains entries c ↔ ((entry_in c ≡ Some c) × Contains cells c)
  pub order : AllPairs (IsSeenBefore cells) entries
