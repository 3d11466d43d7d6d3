-- Why bytes that were read give no table.
use Rattle.std.specs.Prelude.{◌≡◌, ℕ, List}
use Rattle.ipc_message.specs.declared.error.ImportError.{ImportError}
use Rattle.ipc_message.specs.declared.error.ImportError.TheVariants as errors
use Rattle.ipc_stream.specs.declared.decoder.FinishError.{FinishError}
use Rattle.ipc_stream.specs.declared.decoder.FinishError.TheVariants as finishing
use Rattle.ipc_stream.specs.Fed.{reading}

abbrev pub HasFailed : ImportError → List ℕ → FinishError → Type 0
HasFailed errors.OutOfMemory bytes failed = failed ≡ finishing.OutOfMemory (reading bytes)
HasFailed (errors.Fault told) bytes failed = failed ≡ finishing.Fault told
