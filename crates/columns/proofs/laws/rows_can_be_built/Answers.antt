use Rattle.columns.proofs.Pieces.{rows_can}
use Rattle.columns.proofs.laws.rows_can_be_built.Goals as goal

pub returns : goal.returns
returns c = rows_can
