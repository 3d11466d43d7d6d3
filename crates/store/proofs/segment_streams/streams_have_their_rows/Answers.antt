use Rattle.store.proofs.Streamed.{streams_hold}
use Rattle.store.proofs.segment_streams.streams_have_their_rows.Goals as goal

pub returns : goal.returns
returns c = streams_hold
