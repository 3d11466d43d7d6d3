use Rattle.query.proofs.SelectedTables.{selection_is_table}
use Rattle.query.proofs.laws.selection_is_a_table.Goals as goal

pub returns : goal.returns
returns c = selection_is_table
