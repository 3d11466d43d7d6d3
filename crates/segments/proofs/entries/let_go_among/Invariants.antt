use Rattle.std.proofs.Common.{take}
use Rattle.segments.specs.inner.Places.{LetGoAmong}
use Rattle.segments.proofs.entries.let_go_among.Given as goal

abbrev pub invariant-loop-run : goal.invariant-loop-run
invariant-loop-run l = LetGoAmong l.holder l.fn.entries l.entries (take l.run-index l.runs)
