use Rattle.arrays.proofs.NextBits.{filled_few, first, rest_after, rest_before, rest_fewer, run_set, some_set}
use Rattle.std.proofs.Common.{arith}
use Rattle.arrays.proofs.masked.first_run.Goals as goal

pub overflow_add-carried : goal.overflow_add-carried
overflow_add-carried c = omega (arith, filled_few c.args.bits c.requires.some c.requires.few)

pub returns : goal.returns
returns c = record {
  unset = (first c.args.bits c.requires.some c.requires.few).2;
  set = run_set c.args.bits c.requires.some c.requires.few;
  some = some_set c.args.bits c.requires.some c.requires.few;
  before = rest_before c.args.bits c.requires.some c.requires.few;
  after = rest_after c.args.bits c.requires.some c.requires.few;
  fewer = rest_fewer c.args.bits c.requires.some c.requires.few;
}
