use Rattle.std.proofs.Common.{map}
use Rattle.cells.specs.View.{cell}
use Rattle.cells.specs.laws.Cells.{cells_listed}
use Rattle.text_import.proofs.objects.value_row.Goals as goal

pub returns : goal.returns
returns c =
    let read = rw c.deref.ensures.value at c.in_ok-cells.ensures in
    rw (read, cells_listed (map cell c.in_ok-cells.cells.items)) c.accepted.ensures
