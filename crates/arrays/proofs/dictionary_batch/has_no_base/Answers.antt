use Rattle.std.specs.Prelude.{not}
use Rattle.std.proofs.Common.{ap}
use Rattle.arrays.proofs.dictionary_batch.has_no_base.Goals as goal

pub returns-then-raw : goal.returns-then-raw
returns-then-raw c = λ bytes before h. rw c.if-raw.true (ap not (c.has.ensures bytes before h))
