use Rattle.table_cut.proofs.CutRows.{next_piece}
use Rattle.table_cut.proofs.Unlimited.{unlimited_piece}
use Rattle.table_cut.proofs.laws.longest_fronts_are_pieces.Goals as goal

pub returns : goal.returns
returns c = record { next = next_piece; unlimited = unlimited_piece }
