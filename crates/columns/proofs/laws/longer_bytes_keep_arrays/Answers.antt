use Rattle.columns.specs.laws.Grown.{within_longer, array_grown}
use Rattle.columns.proofs.laws.longer_bytes_keep_arrays.Goals as goal

pub returns : goal.returns
returns c = record { spans = within_longer; arrays = array_grown }
