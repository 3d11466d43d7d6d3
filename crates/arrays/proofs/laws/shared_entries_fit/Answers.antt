use Rattle.arrays.proofs.PlacedBytes.{placed_bytes}
use Rattle.arrays.proofs.RowsNamed.{shared_fit, share_own}
use Rattle.arrays.proofs.laws.shared_entries_fit.Goals as goal

pub returns : goal.returns
returns c = record { fit = shared_fit; own = share_own; bytes = placed_bytes }
