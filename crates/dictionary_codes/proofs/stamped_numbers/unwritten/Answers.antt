use Rattle.dictionary_codes.proofs.Stamped.{below_zeros}
use Rattle.dictionary_codes.proofs.stamped_numbers.unwritten.Goals as goal

pub returns : goal.returns
returns c = below_zeros c.new-numbers.result.items c.resize.new.self.items c.args.places _ c.new-numbers.ensures.items c.in_ok-resize.ensures.items
