-- The cell of a dictionary entry, from the array that has it and its place there.
use Rattle.std.specs.Prelude.{◌≡◌, ◌<◌, true, Option, Some, None}
use Rattle.arrow_schema.specs.Column.{Kind}
use Rattle.cells.specs.Cell.{Cell, null}
use Rattle.columns.specs.declared.entry.EntryPlace.{EntryPlace}
use Rattle.columns.specs.Array.{slots_in}
use Rattle.columns.specs.CellAt.{unless_null, kind_cell}
use Rattle.columns.specs.Sound.{is_kind_sound}
use Rattle.columns.specs.View.{view_array}

-- a null if there is no such entry
abbrev pub located_cell : Kind → Option EntryPlace → Cell
located_cell kind None = null
located_cell kind (Some p) = unless_null (kind_cell kind) (view_array p.view) p.place

abbrev pub IsSoundPlace : Kind → Option EntryPlace → Type 0
IsSoundPlace kind None = Unit {0}
IsSoundPlace kind (Some p) = (p.place < slots_in (view_array p.view)) × (is_kind_sound kind (view_array p.view) ≡ true)
