use Rattle.std.specs.List.{flat_map}
use Rattle.std.proofs.Common.{◌≡◌, ◌+◌, ℕ, length, take}
use Rattle.arrow_schema.specs.Column.{Column}
use Rattle.table_cut.specs.inner.Columns.{cells_at_place}
use Rattle.table_cut.proofs.columns_room.are_few.Given as goal

-- the rows so far, and how many more there may be
abbrev pub invariant-loop-run : goal.invariant-loop-run
invariant-loop-run l = (place : ℕ) (c : Column) → length (flat_map (cells_at_place place c) (take l.run-index l.runs)) + l.left ≡ l.most
