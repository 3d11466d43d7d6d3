use Rattle.std.specs.Prelude.{option_map, unwrap_or}
use Rattle.std.proofs.Common.{sym, ap, ◌∙◌}
use Rattle.std.proofs.lemmas.Option.{unwrap_or-slice_get}
use Rattle.cells.specs.Cell.{null}
use Rattle.columns.specs.Borrowed.{borrowed_cell, borrowed_cells}
use Rattle.table_cut.proofs.weigh.part_or_null.Goals as goal

pub returns-in-None : goal.returns-in-None
returns-in-None c =
    ap (λ o. unwrap_or (option_map borrowed_cell o) null) (sym c.in-None.is)
    ∙ ap (λ o. unwrap_or o null) c.get.ensures
    ∙ unwrap_or-slice_get (borrowed_cells c.args.parts) c.args.i null
