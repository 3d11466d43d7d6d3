use Rattle.table_cut.proofs.CutRows.{pieces_are_cut, no_other_cut}
use Rattle.table_cut.proofs.laws.pieces_are_the_cut.Goals as goal

pub returns : goal.returns
returns c = record { cut = pieces_are_cut; only = no_other_cut }
