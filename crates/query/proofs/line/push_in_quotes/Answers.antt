use Rattle.query.proofs.Pushed.{in_room}
use Rattle.query.proofs.line.push_in_quotes.Goals as goal

pub returns : goal.returns
returns c = in_room 34 34 _ _ _ _ _ _ c.in_ok-reserve.ensures.items c.push_reserved.ensures.items c.in_ok-extend_from_slice.ensures.items c.push_reserved-2.ensures.items
