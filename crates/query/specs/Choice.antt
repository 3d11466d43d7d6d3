-- The rows that a mask chooses.
use Rattle.std.specs.Prelude.{ℕ, ◌+◌, List, [], ◌∷◌, if◌then◌else◌}
use Rattle.bitmap.specs.Bits.{bit}
use Rattle.cells.specs.Cell.{Cell}

-- the rows whose bit is set; that of the first row is at `from`
abbrev pub rows_set : (mask : List ℕ) → (from : ℕ) → List (List Cell) → List (List Cell)
rows_set mask from [] = []
rows_set mask from (row ∷ rows) = if bit mask from then row ∷ rows_set mask (from + 1) rows else rows_set mask (from + 1) rows
