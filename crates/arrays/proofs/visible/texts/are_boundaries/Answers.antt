use Rattle.std.proofs.Common.{arith}
use Rattle.arrays.proofs.visible.texts.are_boundaries.Goals as goal

pub returns : goal.returns
returns c = λ h i low high. c.loop-i.invariant i low (omega (arith, high, c.loop-i-test.false))
