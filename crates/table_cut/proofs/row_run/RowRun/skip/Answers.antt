use Rattle.table_cut.specs.Rows.{arrays_of_run}
use Rattle.table_cut.proofs.RowLemmas.{rows_after}
use Rattle.table_cut.proofs.row_run.RowRun.skip.Goals as goal

pub returns-clause-rows : goal.returns-clause-rows
returns-clause-rows c cs = rows_after cs (arrays_of_run c.args.self) c.args.self.from c.args.self.len c.args.len c.requires
