use Rattle.std.specs.Prelude.{[], Some}
use Rattle.sector_dev.specs.View.{faults_of}
use Rattle.store.specs.Places.{replies_of}
use Rattle.cli_replay.specs.Playing.{Plays}
use Rattle.cli_replay.proofs.playing.play.Given as goal

abbrev pub invariant-loop-call : goal.invariant-loop-call
invariant-loop-call l = record {
  next : goal.iterator-loop-call.can_next l.call-iterator;
  ends : goal.iterator-loop-call.is_finite l.call-iterator;
  plays : Plays _ (λ d. (faults_of d).stopped) (λ _. Some []) l.fn.place l.yielded (replies_of l.replies.items) l.place;
}
