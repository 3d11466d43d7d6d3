-- Entries that were seen, each with its number, and those of them that were named.
use Rattle.std.specs.Prelude.{◌≡◌, ℕ, true, List, map, get_or, slice_get, Option, Some, None}
use Rattle.cells.specs.Cell.{Cell, null}
use Rattle.cells.specs.Dictionary.{is_entry}

-- no two of them are one entry
abbrev pub AreDistinct : List Cell → Type 0
AreDistinct seen = (i j : ℕ) → is_entry (get_or seen i null) (get_or seen j null) ≡ true → i ≡ j

-- each number that was named has its place
abbrev pub HavePlaces : (places : List (Option ℕ)) (named : List ℕ) → Type 0
HavePlaces places named = (p n : ℕ) → slice_get named p ≡ Some n → get_or places n None ≡ Some p

-- and no other number has one
abbrev pub ArePlaces : (places : List (Option ℕ)) (named : List ℕ) → Type 0
ArePlaces places named = (n p : ℕ) → get_or places n None ≡ Some p → slice_get named p ≡ Some n

-- the cells that have these numbers
abbrev pub cells_numbered : (seen : List Cell) (named : List ℕ) → List Cell
cells_numbered seen named = map (λ n. get_or seen n null) named
