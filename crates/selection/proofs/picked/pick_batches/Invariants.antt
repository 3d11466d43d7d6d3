use Rattle.std.specs.List.{flat_map, list_all}
use Rattle.std.proofs.Common.{◌≡◌, true, map, take}
use Rattle.columns.specs.View.{fields_of}
use Rattle.query.specs.Selection.{pick}
use Rattle.selection.specs.inner.Picked.{picked_columns, picked_rows, is_picked_sound}
use Rattle.values.specs.Parts.{parts_rows, are_parts_sound}
use Rattle.selection.proofs.picked.pick_batches.Given as goal

abbrev pub invariant-loop-part : goal.invariant-loop-part
invariant-loop-part l =
    let columns = picked_columns l.fields l.places in
    record {
      rows : flat_map (picked_rows columns) l.picked.items ≡ map (pick l.places) (parts_rows (fields_of l.fields) (take l.part-index l.parts));
      sound : are_parts_sound (fields_of l.fields) (take l.part-index l.parts) ≡ true → list_all (is_picked_sound columns) l.picked.items ≡ true;
    }
