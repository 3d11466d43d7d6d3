-- Slots whose cells can be borrowed: their arrays are sound and have these slots, and their texts are UTF-8.
use Rattle.std.specs.Prelude.{ℕ, ◌+◌, Bool, ◌&&◌, nat_le, nat_lt}
use Rattle.arrow_schema.specs.Column.{Column, Columns}
use Rattle.cells.specs.Cell.{cells_of}
use Rattle.columns.specs.Array.{Array, Arrays, slots_in}
use Rattle.columns.specs.CellAt.{cell_at, cells_from, part_cells}
use Rattle.columns.specs.Sound.{is_sound, are_sound}
use Rattle.columns.specs.Texts.{have_utf8_texts}

-- the `count` slots from slot `start` on
abbrev pub is_run_readable : Column → Array → (start count : ℕ) → Bool
is_run_readable c a start count = is_sound c a && (nat_le (start + count) (slots_in a) && have_utf8_texts (cells_of (cells_from (cell_at c a) start count)))

-- the same slot of several arrays, each of which has at least this many slots
abbrev pub are_parts_readable : Columns → Arrays → (slots place : ℕ) → Bool
are_parts_readable columns arrays slots place = are_sound columns slots arrays && (nat_lt place slots && have_utf8_texts (part_cells columns arrays place))
