use Rattle.std.proofs.Common.{◌≡◌, ◌≤◌, length, vec_capacity, vec_len}
use Rattle.store.specs.Places.{replies_of}
use Rattle.store.specs.Answering.{AnswersCalls}
use Rattle.store.proofs.running.answer_all.Given as goal

abbrev pub invariant-loop-call : goal.invariant-loop-call
invariant-loop-call g l = let D = g.D.SectorDevice in record {
  next : (goal.iterator-loop-call g).can_next l.call-iterator;
  ends : (goal.iterator-loop-call g).is_finite l.call-iterator;
  room : length l.fn.calls.items ≤ vec_capacity l.replies;
  count : vec_len l.replies ≡ length l.yielded;
  calls : AnswersCalls D.size D.story D.failed D.tells g.R.Read.remaining l.fn.place l.yielded (replies_of l.replies.items) l.place;
}
