use Rattle.std.proofs.Common.{sym}
use Rattle.arrow_schema.specs.View.{column_of}
use Rattle.cells.proofs.CellLemmas.{part_absent}
use Rattle.cells.proofs.HoldingLemmas.{holdings_of_none}
use Rattle.cells.proofs.holding.part_entries_fit.Goals as goal

pub returns-in-None : goal.returns-in-None
returns-in-None c =
    rw (part_absent c.args.row.now c.args.i c.in-None.ensures.lookup.3) (sym (holdings_of_none (column_of c.args.field.now)))
