use Rattle.tables.specs.laws.Steps.{others_keep}
use Rattle.tables.proofs.laws.a_command_changes_its_names_alone.Goals as goal

pub returns : goal.returns
returns c = λ t k name. others_keep t name k
