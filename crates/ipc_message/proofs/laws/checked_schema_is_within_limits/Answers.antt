use Rattle.ipc_message.proofs.Columns.{checked_within}
use Rattle.ipc_message.proofs.laws.checked_schema_is_within_limits.Goals as goal

pub returns : goal.returns
returns c = checked_within
