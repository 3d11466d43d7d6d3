use Rattle.arrays.proofs.KnownBatches.{batch_readable, all_known}
use Rattle.arrays.proofs.laws.read_dictionaries_are_readable.Goals as goal

pub returns : goal.returns
returns c = record { batch = batch_readable; known = all_known }
