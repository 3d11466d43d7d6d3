use Rattle.std.proofs.Common.{refl}
use Rattle.text_columns.proofs.LineSteps.{array_ended}
use Rattle.text_columns.proofs.plain_reader.PlainReader.take_end_array.Goals as goal

pub returns : goal.returns
returns c = array_ended c.close.result c.args.self.now c.close.new.self (λ yes. (c.close.ensures.closes yes).0 refl) c.close.ensures.stays
