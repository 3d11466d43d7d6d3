use Rattle.store.proofs.Received.{streams_told}
use Rattle.store.proofs.receiving.digests_tell_streams.Goals as goal

pub returns : goal.returns
returns c = streams_told
