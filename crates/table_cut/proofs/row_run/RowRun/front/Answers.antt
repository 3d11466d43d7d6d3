use Rattle.table_cut.specs.Rows.{arrays_of_run}
use Rattle.std.proofs.Common.{◌+◌, arith}
use Rattle.columns.specs.laws.Rows.{fewer_sound}
use Rattle.table_cut.proofs.RowLemmas.{front_rows}
use Rattle.table_cut.proofs.row_run.RowRun.front.Goals as goal

pub returns-clause-rows : goal.returns-clause-rows
returns-clause-rows c cs = front_rows cs (arrays_of_run c.args.self) c.args.self.from c.args.self.len c.args.len c.requires

pub returns-clause-sound : goal.returns-clause-sound
returns-clause-sound c cs h =
    fewer_sound cs (arrays_of_run c.args.self) (c.args.self.from + c.args.self.len) (c.args.self.from + c.args.len) h (omega (arith, c.requires))
