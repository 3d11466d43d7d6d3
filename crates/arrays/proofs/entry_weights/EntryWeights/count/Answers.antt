use Rattle.std.proofs.Common.{sym, ◌∙◌}
use Rattle.arrays.proofs.EntryWeights.{sized_count}
use Rattle.arrays.proofs.entry_weights.EntryWeights.count.Goals as goal

pub returns-in-Sized : goal.returns-in-Sized
returns-in-Sized c = c.slots.ensures ∙ sym (sized_count c.args.self c.in-Sized.slots c.in-Sized.is)
