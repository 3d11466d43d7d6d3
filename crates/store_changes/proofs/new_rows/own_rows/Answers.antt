use Rattle.std.proofs.Common.{◌∙◌, [], ◌∷◌, map, append_assoc}
use Rattle.std.proofs.lemmas.List.{map-append}
use Rattle.cells.specs.Row.{row_of}
use Rattle.columns.specs.Borrowed.{borrowed_cells}
use Rattle.store_changes.proofs.new_rows.own_rows.Goals as goal

pub loop-row-preserved : goal.loop-row-preserved
loop-row-preserved c =
    let so = map row_of c.loop-row.rows.items in
    let kept = rw c.in-Some.ensures.steps at c.loop-row.invariant in
    rw (c.in_ok-push.ensures.items, map-append row_of c.loop-row.rows.items (c.in_ok-copy_row.field-0 ∷ []), c.in_ok-copy_row.ensures) (append_assoc so (borrowed_cells c.in-Some.row ∷ []) _ ∙ kept)
