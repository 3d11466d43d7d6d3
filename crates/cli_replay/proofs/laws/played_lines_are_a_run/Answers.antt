use Rattle.cli_replay.proofs.Runs.{played_run}
use Rattle.cli_replay.proofs.laws.played_lines_are_a_run.Goals as goal

pub returns : goal.returns
returns g c = λ told is_over base m calls replies old new plays fits. played_run g.D.SectorDevice is_over g.R.Read.remaining told base calls m replies old new plays fits
