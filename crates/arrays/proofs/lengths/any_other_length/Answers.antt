use Rattle.std.proofs.Common.{sym, ◌∙◌}
use Rattle.arrays.proofs.SlotCounts.{any_other}
use Rattle.arrays.proofs.lengths.any_other_length.Goals as goal

pub returns : goal.returns
returns c = λ bytes all. c.any_other.ensures ∙ sym (any_other bytes all c.args.length c.args.arrays.now)
