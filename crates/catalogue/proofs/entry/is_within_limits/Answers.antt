use Rattle.std.proofs.Common.{sym, rules}
use Rattle.arrow_schema.specs.View.{schema_of}
use Rattle.catalogue.specs.laws.Kept.{fails_limits}
use Rattle.catalogue.proofs.entry.is_within_limits.Goals as goal

pub returns-in-Err : goal.returns-in-Err
returns-in-Err c = sym (fails_limits (schema_of c.args.schema.now) (λ w. let ok = rw c.in-Err.is at (c.check.ensures.within.1 w) in search rules))
