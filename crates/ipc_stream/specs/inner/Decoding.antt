-- The invariant of a decoder.
use Rattle.std.specs.Prelude.{◌≡◌, ℕ, List, ◌++◌, Option, Some, None, Result, Ok, Err}
use Rattle.ipc_message.specs.declared.error.ImportError.{ImportError}
use Rattle.ipc_message.specs.declared.error.ImportError.TheVariants as errors
use Rattle.ipc_message.specs.declared.fault.Fault.{Fault}
use Rattle.ipc_message.specs.Header.{supported_codes}
use Rattle.ipc_stream.specs.declared.reading.Reading.{Reading}
use Rattle.ipc_stream.specs.Fed.{settled_fault, held_of}
use Rattle.ipc_stream.specs.inner.Reached.{IsReadTo}

-- bytes without a settled fault, read up to some point, which may be before their end
pub record IsReading (bytes : List ℕ) (r : Reading) : Type 0 where
  pub settled : settled_fault supported_codes bytes ≡ None
  pub read : IsReadTo bytes r.number r.start r.front
  pub held : r.held ≡ held_of supported_codes bytes

-- as above, or only a fault
abbrev pub IsDecoding : Option Fault → List ℕ → Reading → Type 0
IsDecoding None bytes r = IsReading bytes r
IsDecoding (Some fault) bytes r = r.held ≡ 0

-- the result of feeding a piece: the bytes with the piece, or unchanged bytes if memory was refused, or a fault
abbrev pub GivesFed : (bytes piece : List ℕ) → (new : List ℕ) → Reading → Result (Unit {0}) ImportError → Type 0
GivesFed bytes piece new r (Ok u) = (new ≡ bytes ++ piece) × IsReading new r
GivesFed bytes piece new r (Err errors.OutOfMemory) = (new ≡ bytes) × IsReading new r
GivesFed bytes piece new r (Err (errors.Fault fault)) = settled_fault supported_codes (bytes ++ piece) ≡ Some fault
