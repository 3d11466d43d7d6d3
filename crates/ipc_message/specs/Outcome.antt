-- The outcome of a call that a definition states and that may also run out of memory.
use Rattle.std.specs.Prelude.{◌≡◌, Result, Ok, Err}
use Rattle.ipc_message.specs.declared.fault.Fault.{Fault}
use Rattle.ipc_message.specs.declared.error.ImportError.{ImportError}
use Rattle.ipc_message.specs.declared.error.ImportError.TheVariants as errors

abbrev pub Fails : {Y : Type 0} → ImportError → Result Y Fault → Type 0
Fails errors.OutOfMemory reported = Unit {0}
Fails (errors.Fault f) reported = reported ≡ Err f

-- the result, seen by `view`, is what is reported, unless memory was refused
abbrev pub Gives : {X Y : Type 0} → (X → Y) → Result X ImportError → Result Y Fault → Type 0
Gives view (Ok x) reported = reported ≡ Ok (view x)
Gives view (Err e) reported = Fails e reported
