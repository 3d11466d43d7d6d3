use Rattle.export_book.specs.laws.Kept.{kept_few}
use Rattle.export_book.proofs.laws.runs_are_kept_few_times.Goals as goal

pub returns : goal.returns
returns c = kept_few
