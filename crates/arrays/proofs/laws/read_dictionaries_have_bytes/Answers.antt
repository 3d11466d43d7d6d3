use Rattle.arrays.proofs.BytesRead.{dictionary_batch_bytes, known_bytes}
use Rattle.arrays.proofs.laws.read_dictionaries_have_bytes.Goals as goal

pub returns : goal.returns
returns c = record { batch = dictionary_batch_bytes; known = known_bytes }
