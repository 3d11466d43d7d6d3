use Rattle.std.specs.Prelude.{drop}
use Rattle.arrowstore.proofs.LeftOutLemmas.{ComesToAll}
use Rattle.arrowstore.proofs.ending.tell_each.Given as goal

-- the lines of the segments so far are written
abbrev pub invariant-loop-segment : goal.invariant-loop-segment
invariant-loop-segment g l = ComesToAll (g.E.Write.contents l.fn.errors) (g.E.Write.contents l.errors) (drop l.segment-index l.left_out) l.left_out
