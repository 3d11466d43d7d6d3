use Rattle.cli_reports.proofs.reports.end_output.Goals as goal

pub returns-clause-line : goal.returns-clause-line
returns-clause-line g c = rw (← c.audience_after_output.ensures, ← c.unchanging-known.ensures) c.end.ensures.line
