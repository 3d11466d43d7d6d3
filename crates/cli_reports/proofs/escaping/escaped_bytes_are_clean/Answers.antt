use Rattle.cli_reports.proofs.EscapeLemmas.{clean}
use Rattle.cli_reports.proofs.escaping.escaped_bytes_are_clean.Goals as goal

pub returns : goal.returns
returns c = clean
