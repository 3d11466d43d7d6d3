use Rattle.std.proofs.Common.{◌-◌, length}
use Rattle.ipc_stream.specs.inner.Reached.{IsReadTo}
use Rattle.ipc_stream.proofs.reading.read_on.Given as goal

abbrev pub invariant-loop-start : goal.invariant-loop-start
invariant-loop-start l = IsReadTo l.bytes l.number l.start l.front

abbrev pub decreases-loop-start : goal.decreases-loop-start
decreases-loop-start l = length l.bytes - l.start
