use Rattle.civil_days.proofs.ShownLaws.{shown_back}
use Rattle.civil_days.proofs.laws.shown_reads_back.Goals as goal

pub returns : goal.returns
returns c = shown_back
