use Rattle.std.proofs.Common.{sym, ◌∙◌}
use Rattle.batch_build.proofs.FirstCells.{stored_found, stored_absent, one_pushed}
use Rattle.batch_build.proofs.part_cells.push_stored.Goals as goal

pub returns-in-Some-clause-items : goal.returns-in-Some-clause-items
returns-in-Some-clause-items c =
    let found = stored_found c.args.cells.now c.args.place c.in-Some.value.now c.in-Some.ensures.lookup.3.0 (sym (c.in-Some.ensures.lookup.3.1 _)) in
    one_pushed _ _ c.borrow_value.result _ c.push_reserved.ensures.items (c.borrow_value.ensures ∙ sym found)

pub returns-in-None-clause-items : goal.returns-in-None-clause-items
returns-in-None-clause-items c = one_pushed _ _ _ _ c.push_reserved-in-None.ensures.items (sym (stored_absent c.args.cells.now c.args.place c.in-None.ensures.lookup.3))
