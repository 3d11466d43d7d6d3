use Rattle.std.proofs.Common.{arith}
use Rattle.std.proofs.lemmas.Bool.{eqb-true, ltb-true}
use Rattle.values.proofs.StartLemmas.{last_start}
use Rattle.values.proofs.starts.has_place.Goals as goal

pub returns-then-run-starts-2 : goal.returns-then-run-starts-2
returns-then-run-starts-2 c = λ lengths are all here.
    last_start lengths c.args.starts.now c.args.run c.args.place are all (omega arith) (omega arith) (λ lt. absurd (omega (arith, eqb-true _ _ here)))

pub returns-else-run-starts-2 : goal.returns-else-run-starts-2
returns-else-run-starts-2 c = λ lengths are all here.
    last_start lengths c.args.starts.now c.args.run c.args.place are all (omega arith) (omega arith) (λ lt. ltb-true _ _ here)
