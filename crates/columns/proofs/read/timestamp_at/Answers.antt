use Rattle.std.proofs.Common.{arith, rules}
use Rattle.columns.proofs.read.timestamp_at.Goals as goal

pub returns : goal.returns
returns c =
    let same = rw (c.timestamp_integer.ensures.bytes, c.timestamp_integer.ensures.signed) at c.number_in.ensures in
    first_of (search (rules, same), grind (arith, same))
