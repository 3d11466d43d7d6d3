use Rattle.tables.specs.laws.Steps.{refused}
use Rattle.tables.proofs.laws.a_refused_command_changes_nothing.Goals as goal

pub returns : goal.returns
returns c = refused
