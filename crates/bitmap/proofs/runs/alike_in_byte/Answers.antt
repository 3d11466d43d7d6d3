use Rattle.std.proofs.Common.{arith}
use Rattle.bitmap.proofs.Alike.{like_from, unlike_at}
use Rattle.bitmap.proofs.runs.alike_in_byte.Goals as goal

pub returns-clause-alike : goal.returns-clause-alike
returns-clause-alike c = like_from c.args.byte c.differing.result c.args.set c.args.from c.min.result c.requires (omega arith) c.differing.ensures c.min.ensures

pub returns-clause-longest : goal.returns-clause-longest
returns-clause-longest c = unlike_at c.args.byte c.differing.result c.args.set c.args.from c.min.result c.requires (omega arith) c.differing.ensures c.min.ensures
