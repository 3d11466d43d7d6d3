use Rattle.std.specs.List.{flat_map}
use Rattle.std.proofs.Common.{◌≡◌, take}
use Rattle.arrow_schema.specs.View.{column_of}
use Rattle.cells.specs.Dictionary.{entries_of}
use Rattle.dictionary_codes.specs.Named.{named_cells}
use Rattle.table_cut.specs.inner.Columns.{cells_at_place}
use Rattle.table_cut.proofs.columns_room.name_piece.Given as goal

-- the entries of the runs so far
abbrev pub invariant-loop-run : goal.invariant-loop-run
invariant-loop-run l = named_cells l.entries ≡ entries_of (flat_map (cells_at_place l.place (column_of l.field)) (take l.run-index l.piece))
