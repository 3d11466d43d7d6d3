use Rattle.std.specs.List.{flat_map, list_all}
use Rattle.std.proofs.Common.{◌≡◌, ◌++◌, true, map, take}
use Rattle.columns.specs.View.{fields_of}
use Rattle.query.specs.Selection.{pick}
use Rattle.selection.specs.inner.Picked.{picked_columns, picked_rows, is_picked_sound}
use Rattle.values.specs.Parts.{batch_rows, is_batch_sound}
use Rattle.selection.proofs.picked.pick_part.Given as goal

abbrev pub invariant-loop-batch : goal.invariant-loop-batch
invariant-loop-batch l =
    let columns = picked_columns l.fields l.places in
    record {
      rows : flat_map (picked_rows columns) l.picked.items
          ≡ flat_map (picked_rows columns) l.fn.picked.items ++ map (pick l.places) (flat_map (batch_rows (fields_of l.fields) l.part) (take l.batch-index l.part.batches.items));
      sound : list_all (is_picked_sound columns) l.fn.picked.items ≡ true → list_all (is_batch_sound (fields_of l.fields) l.part) (take l.batch-index l.part.batches.items) ≡ true
          → list_all (is_picked_sound columns) l.picked.items ≡ true;
    }
