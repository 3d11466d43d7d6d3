use Rattle.std.proofs.Common.{arith, w8}
use Rattle.std.proofs.lemmas.Nat.Bits.{bit_at_not}
use Rattle.bitmap.proofs.runs.differing.Goals as goal

pub returns-then-set : goal.returns-then-set
returns-then-set c = λ j lt. rw c.if-set.true (bit_at_not w8 c.args.byte j (omega arith) lt)
