use Rattle.text_columns.proofs.ShortIntegers.{no_digits}
use Rattle.text_columns.proofs.short_integers.read_digits.Goals as goal

pub read_on-requires-clause-read : goal.read_on-requires-clause-read
read_on-requires-clause-read c = no_digits c.args.text.now c.args.from c.requires
