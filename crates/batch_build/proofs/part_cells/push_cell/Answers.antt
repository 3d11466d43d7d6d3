use Rattle.batch_build.proofs.FirstCells.{one_pushed}
use Rattle.batch_build.proofs.part_cells.push_cell.Goals as goal

pub returns-in-None-clause-items : goal.returns-in-None-clause-items
returns-in-None-clause-items c = one_pushed _ _ c.cell_at.result _ c.push_reserved.ensures.items c.cell_at.ensures
