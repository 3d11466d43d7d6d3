use Rattle.weight_bounds.proofs.Streams.{meaning_most}
use Rattle.weight_bounds.proofs.laws.streams_weigh_at_most.Goals as goal

pub returns : goal.returns
returns c = meaning_most c.next_message_is_framed.ensures.framed
