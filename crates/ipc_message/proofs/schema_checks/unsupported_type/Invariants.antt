use Rattle.std.proofs.Common.{◌≡◌, drop}
use Rattle.std.specs.Prelude.{find}
use Rattle.ipc_message.specs.Header.{supported_codes}
use Rattle.ipc_message.specs.Checks.{is_unsupported}
use Rattle.ipc_message.specs.inner.Listed.{listed}
use Rattle.ipc_message.proofs.schema_checks.unsupported_type.Given as goal

abbrev pub invariant-loop-place : goal.invariant-loop-place
invariant-loop-place l = find (is_unsupported supported_codes) (listed (drop l.place-index l.fields)) ≡ find (is_unsupported supported_codes) (listed l.fields)
