use Rattle.arrays.proofs.RowsRead.{rows_read}
use Rattle.arrays.proofs.laws.read_rows_are_rows.Goals as goal

pub returns : goal.returns
returns c = rows_read
