use Rattle.ipc_message.proofs.NamedCodes.{codes_whatever_supported, schemas_alone_name, header_alike, checks_alike}
use Rattle.ipc_message.proofs.laws.only_named_codes_matter.Goals as goal

pub returns : goal.returns
returns c = record { named = codes_whatever_supported; schemas = schemas_alone_name; header = header_alike; checks = checks_alike }
