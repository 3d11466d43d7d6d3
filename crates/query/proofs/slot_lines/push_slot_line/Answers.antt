use Rattle.std.proofs.Common.{◌++◌, ℕ, List, ap, ◌∙◌}
use Rattle.std.proofs.lemmas.Result.{on_ok_weaker}
use Rattle.query.specs.inner.ColumnSlots.{slot_columns, slot_cells}
use Rattle.query.proofs.SlotLines.{whole_line, three_pushed}
use Rattle.query.proofs.slot_lines.push_slot_line.Goals as goal

pub returns : goal.returns
returns c =
    on_ok_weaker c.push_closing.result
    (λ last. three_pushed _ _ _ _ _ _ _ c.in_ok-push_opening.ensures c.in_ok-push_slots.ensures last
    ∙ ap (λ (t : List ℕ). c.args.out.now.items ++ t) (whole_line c.args.form (slot_columns c.args.columns.now) (slot_cells c.args.columns.now c.args.slot)))
    c.push_closing.ensures
