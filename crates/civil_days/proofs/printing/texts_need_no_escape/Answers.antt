use Rattle.civil_days.proofs.TextBytes.{shown_between}
use Rattle.civil_days.proofs.printing.texts_need_no_escape.Goals as goal

pub returns : goal.returns
returns c = shown_between
