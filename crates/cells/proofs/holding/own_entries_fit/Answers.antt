use Rattle.std.proofs.Common.{sym, map, arith, []}
use Rattle.std.proofs.lemmas.Bool.{le-leb}
use Rattle.std.proofs.lemmas.List.{length-map}
use Rattle.cells.specs.View.{cell_behind}
use Rattle.cells.specs.laws.Entries.{entries_few}
use Rattle.cells.proofs.holding.own_entries_fit.Goals as goal

pub returns-then-cells-most : goal.returns-then-cells-most
returns-then-cells-most c =
    rw (← c.in-Some.ensures) (sym (le-leb _ _ (omega (arith, entries_few [] (map cell_behind c.args.cells.now), length-map c.args.cells.now cell_behind))))
