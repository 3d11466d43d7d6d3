-- Tests for nulls.
use Rattle.std.specs.Prelude.{Bool, true, false, not}
use Rattle.cells.specs.Cell.{Cell, null}

abbrev pub is_null : Cell → Bool
is_null null = true
is_null _ = false

-- the cell is not null
abbrev pub is_there : Cell → Bool
is_there c = not (is_null c)
