use Rattle.std.proofs.Common.{sym, ap, ◌∙◌}
use Rattle.cells.specs.Cell.{Cells, cell_list}
use Rattle.cells.specs.laws.Cells.{cells_listed}
use Rattle.cells.proofs.holding.item_list.Goals as goal

pub returns : goal.returns
returns c = sym (cells_listed _) ∙ ap (λ (cs : Cells). cell_list cs) c.items_in.ensures
