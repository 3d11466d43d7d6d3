-- The answers of a decoder, by the bytes that it was fed.
use Rattle.std.specs.Prelude.{◌≡◌, Option, Some, None, Result, Ok, Err}
use Rattle.ipc_message.specs.declared.error.ImportError.{ImportError}
use Rattle.ipc_message.specs.declared.error.ImportError.TheVariants as errors
use Rattle.ipc_message.specs.declared.fault.Fault.{Fault}
use Rattle.cells.specs.Cell.{PlainTable}
use Rattle.values.specs.declared.table.Table.{Table}
use Rattle.values.specs.TableView.{table_of}
use Rattle.ipc_stream.specs.declared.decoder.FinishError.{FinishError}
use Rattle.ipc_stream.specs.declared.decoder.FinishError.TheVariants as finishing
use Rattle.ipc_stream.specs.Fed.{Fed}

-- the given fault, and no error if there is none, unless memory was refused
abbrev pub Tells : Result (Unit {0}) ImportError → Option Fault → Type 0
Tells (Ok u) fault = fault ≡ None
Tells (Err errors.OutOfMemory) fault = Unit {0}
Tells (Err (errors.Fault told)) fault = fault ≡ Some told

-- the first holds unless memory was refused, and the second if it was
abbrev pub UnlessRefused : Result (Unit {0}) ImportError → (answered refused : Type 0) → Type 0
UnlessRefused (Ok u) answered refused = answered
UnlessRefused (Err errors.OutOfMemory) answered refused = refused
UnlessRefused (Err (errors.Fault told)) answered refused = answered

-- the table that the bytes mean, or their first fault, unless memory was refused
abbrev pub Finishes : Result Table FinishError → Result PlainTable Fault → Type 0
Finishes (Ok t) exact = exact ≡ Ok (table_of t)
Finishes (Err (finishing.Fault told)) exact = exact ≡ Err told
Finishes (Err (finishing.OutOfMemory decoder)) exact = Unit {0}

-- the decoder comes back unchanged if memory was refused
abbrev pub GivesBack : Result Table FinishError → Fed → Type 0
GivesBack (Err (finishing.OutOfMemory decoder)) old = decoder ≡ old
GivesBack _ old = Unit {0}
