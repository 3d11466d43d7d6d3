use Rattle.std.proofs.Common.{◌≡◌, ◌++◌, ◌+◌, true, length, drop}
use Rattle.std.specs.List.{flat_map}
use Rattle.arrow_schema.specs.View.{column_of}
use Rattle.array_build.proofs.masked_lists.masked_items.Given as goal
use Rattle.array_build.specs.inner.Masked.{are_below}
use Rattle.dictionary_codes.specs.Masks.{mask_bits, runs_bits}
use Rattle.array_build.specs.inner.MaskedContents.{runs_under}
use Rattle.batch_build.specs.Nodes.{list_kind}
use Rattle.array_build.specs.inner.RunItems.{list_column}
use Rattle.cells.specs.Dictionary.{item_list}
use Rattle.columns.specs.Runs.{are_runs_sound, runs_cells}

-- the items so far and those of the other runs
abbrev pub invariant-loop-run : goal.invariant-loop-run
invariant-loop-run l =
    let kind = list_kind l.width (column_of l.item) in
    let others = drop l.run-index l.runs in
    record {
      sound : are_runs_sound (list_column l.width (column_of l.item)) others ≡ true;
      place : l.at + length (runs_bits others) ≡ length (runs_bits l.runs);
      below : are_below (mask_bits l.mask l.at (length (runs_bits others))) (runs_bits others) ≡ true;
      good : are_runs_sound (column_of l.item) l.items.items ≡ true;
      cells : runs_cells (column_of l.item) l.items.items ++ flat_map item_list (runs_under kind l.mask l.at others) ≡ flat_map item_list (runs_under kind l.mask 0 l.runs);
    }
