use Rattle.tables.specs.laws.Steps.{after_append}
use Rattle.tables.proofs.laws.commands_in_turn.Goals as goal

pub returns : goal.returns
returns c = after_append
