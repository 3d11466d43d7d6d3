use Rattle.export_book.specs.laws.Changes.{open_kept, given_kept, closed_kept}
use Rattle.export_book.proofs.laws.kept_runs_after_changes.Goals as goal

pub returns : goal.returns
returns c = record {
  opened = λ b schema segments run. open_kept run b schema segments;
  given = given_kept;
  closed = λ b id e run is found. closed_kept run b id e is found;
}
