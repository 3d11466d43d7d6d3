use Rattle.std.proofs.Common.{length, arith, ap, ◌∙◌}
use Rattle.std.proofs.lemmas.List.{take_all}
use Rattle.columns.specs.Ends.{entry_count}
use Rattle.columns.proofs.Ends.{all_counted}
use Rattle.columns.proofs.entry.entry_count.Goals as goal

pub returns : goal.returns
returns c = λ bytes kind. c.end_before.ensures ∙ ap entry_count (take_all (length c.args.known.arrays.now) c.args.known.arrays.now (omega arith)) ∙ all_counted bytes kind c.args.known.arrays.now
