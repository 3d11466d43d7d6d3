use Rattle.table_cut.proofs.room.room_after.Goals as goal

pub returns : goal.returns
returns c = λ rows seen fit. record {
  room = c.in_ok-rows.ensures.room rows seen fit;
  known = c.in_ok-rows.ensures.seen rows seen;
}
