use Rattle.std.proofs.Common.{◌≡◌, drop}
use Rattle.arrow_schema.specs.View.{schema_of}
use Rattle.values.specs.Table.{first_unfit}
use Rattle.values.specs.TableView.{table_of}
use Rattle.table_cut.proofs.RowsTaken.{unfit_from}
use Rattle.table_cut.proofs.unfit.first_unfit_row.Given as goal

abbrev pub invariant-loop-place : goal.invariant-loop-place
invariant-loop-place l = unfit_from (schema_of l.schema) l.place (drop l.place (table_of l.table).rows) ≡ first_unfit (schema_of l.schema) (table_of l.table).rows
