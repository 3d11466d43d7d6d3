use Rattle.std.specs.List.{flat_map, list_all}
use Rattle.std.proofs.Common.{◌≡◌, ◌++◌, true, take}
use Rattle.arrow_schema.specs.Column.{Columns}
use Rattle.table_cut.specs.Rows.{runs_rows, are_runs_sound}
use Rattle.values.specs.Parts.{batch_rows, is_batch_sound}
use Rattle.table_cut.proofs.left.add_part.Given as goal

abbrev pub invariant-loop-batch : goal.invariant-loop-batch
invariant-loop-batch l = record {
  items : l.batch-items ≡ l.part.batches.items;
  rows : (columns : Columns) → runs_rows columns l.runs.items ≡ runs_rows columns l.fn.runs.items ++ flat_map (batch_rows columns l.part) (take l.batch-index l.batch-items);
  sound : (columns : Columns) → are_runs_sound columns l.fn.runs.items ≡ true → list_all (is_batch_sound columns l.part) (take l.batch-index l.batch-items) ≡ true
      → are_runs_sound columns l.runs.items ≡ true;
}
