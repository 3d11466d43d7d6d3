use Rattle.ipc_canonical.proofs.Ids.{ids_of_schema, own}
use Rattle.ipc_canonical.proofs.laws.written_ids_count_dictionaries.Goals as goal

pub returns : goal.returns
returns c = record { ids = ids_of_schema; own = own }
