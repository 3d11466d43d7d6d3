use Rattle.std.proofs.Common.{◌∙◌, refl, sym}
use Rattle.cli_reports.proofs.TextLemmas.{where_ok}
use Rattle.cli_reports.proofs.reports.end.Goals as goal

pub returns-in-Err-clause-line : goal.returns-in-Err-clause-line
returns-in-Err-clause-line g c = λ reported. where_ok c.tell.result _ c.tell.ensures (sym c.is_ok.ensures.value ∙ reported)

pub returns-in-Err-clause-refused : goal.returns-in-Err-clause-refused
returns-in-Err-clause-refused g c = rw c.in-Err.is refl
