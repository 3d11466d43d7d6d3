use Rattle.ipc_canonical.proofs.Replaced.{replaced}
use Rattle.ipc_canonical.proofs.laws.replaced_dictionaries_are_in_effect.Goals as goal

pub returns : goal.returns
returns c = replaced
