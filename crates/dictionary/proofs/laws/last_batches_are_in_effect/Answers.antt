use Rattle.std.proofs.Common.{[]}
use Rattle.dictionary.proofs.InEffect.{since_replaced, no_batch, none_only_without}
use Rattle.dictionary.proofs.laws.last_batches_are_in_effect.Goals as goal

pub returns : goal.returns
returns c = record { since = since_replaced; none = λ id batches. (none_only_without id [] batches, no_batch id [] batches) }
