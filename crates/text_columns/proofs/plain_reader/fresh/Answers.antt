use Rattle.std.proofs.Common.{ap}
use Rattle.json.specs.Lex.{fresh, punctuate}
use Rattle.text_columns.proofs.plain_reader.fresh.Goals as goal

pub returns-clause-same : goal.returns-clause-same
returns-clause-same c = ap (punctuate fresh) c.skip_spaces-at.ensures.same
