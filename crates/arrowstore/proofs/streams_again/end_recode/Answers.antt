use Rattle.std.proofs.lemmas.Result.{IfErr-weaker}
use Rattle.arrowstore.proofs.streams_again.end_recode.Goals as goal

pub returns-clause-line : goal.returns-clause-line
returns-clause-line g c = (c.hint_of.result, IfErr-weaker _ _ _ c.hint_of.ensures c.found_of_recode-found.ensures, c.end_output.ensures.line)
