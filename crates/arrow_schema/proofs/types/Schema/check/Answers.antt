use Rattle.arrow_schema.proofs.Counting.{within_from_first}
use Rattle.arrow_schema.proofs.Sound.{sound_schema}
use Rattle.arrow_schema.proofs.types.Schema.check.Goals as goal

pub returns-clause-within : goal.returns-clause-within
returns-clause-within c = within_from_first _ _ (sound_schema c.args.self.now) c.first_exceeded.ensures
