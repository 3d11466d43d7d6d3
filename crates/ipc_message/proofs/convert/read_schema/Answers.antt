use Rattle.std.proofs.Common.{sym, subst}
use Rattle.arrow_schema.specs.Limits.{IsWithinLimits}
use Rattle.ipc_message.specs.laws.Accepted.{accepted_outcome}
use Rattle.ipc_message.specs.Header.{supported_codes}
use Rattle.ipc_message.specs.View.{raw_schema_of}
use Rattle.ipc_message.proofs.Columns.{accepted_within}
use Rattle.ipc_message.proofs.convert.read_schema.Goals as goal

pub returns-clause-within : goal.returns-clause-within
returns-clause-within c =
    let s = raw_schema_of c.args.raw.now in
    subst IsWithinLimits (sym c.in_ok-copy_schema.ensures) (accepted_within s (accepted_outcome supported_codes s tt c.in_ok-check_schema.ensures))
