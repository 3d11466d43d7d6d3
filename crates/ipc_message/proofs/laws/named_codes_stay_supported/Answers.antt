use Rattle.ipc_message.proofs.LaterCodes.{older_alike, checked_alike}
use Rattle.ipc_message.proofs.laws.named_codes_stay_supported.Goals as goal

pub returns : goal.returns
returns c = record { older = older_alike; checked = checked_alike }
