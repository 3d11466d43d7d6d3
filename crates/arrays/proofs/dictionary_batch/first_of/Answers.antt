use Rattle.std.proofs.Common.{arith}
use Rattle.arrays.proofs.Ends.{first_ends}
use Rattle.arrays.proofs.dictionary_batch.first_of.Goals as goal

pub returns-clause-placed : goal.returns-clause-placed
returns-clause-placed c = λ body end.
    first_ends body c.args.arrays.items c.swap_remove.result (omega (arith, c.len.ensures, c.if-len-eq0.false)) c.swap_remove.ensures.value end
