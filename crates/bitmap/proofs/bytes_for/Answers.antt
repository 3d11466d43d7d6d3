use Rattle.std.proofs.Common.{arith}
use Rattle.bitmap.proofs.bytes_for.Goals as goal

pub returns : goal.returns
returns c = omega arith
