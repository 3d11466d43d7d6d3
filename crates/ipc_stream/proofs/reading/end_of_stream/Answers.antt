use Rattle.std.proofs.Common.{subst}
use Rattle.ipc_stream.specs.inner.Reached.{IsReadTo}
use Rattle.ipc_stream.proofs.Reached.{end_without_schema, bytes_after_end, rests_at_end_of_stream}
use Rattle.ipc_stream.proofs.reading.end_of_stream.Goals as goal

pub returns-in_default : goal.returns-in_default
returns-in_default c =
    rw c.stop.ensures
    (λ bytes r ends. end_without_schema bytes c.args.number c.args.start c.args.behind ends (subst (IsReadTo bytes c.args.number c.args.start) c.in_default.is r))

pub returns-then-behind-gt0 : goal.returns-then-behind-gt0
returns-then-behind-gt0 c =
    rw c.stop-then-behind-gt0.ensures
    (λ bytes r ends. bytes_after_end bytes c.args.number c.args.start c.args.behind ends c.in-Some.front
    (subst (IsReadTo bytes c.args.number c.args.start) c.in-Some.is r) c.if-behind-gt0.true)

pub returns : goal.returns
returns c =
    λ bytes r ends. rests_at_end_of_stream bytes c.args.number c.args.start c.args.behind ends c.in-Some.front
    (subst (IsReadTo bytes c.args.number c.args.start) c.in-Some.is r) c.if-behind-gt0.false
