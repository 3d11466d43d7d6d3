-- The state of a decoder that is fed a stream in pieces: a function of all bytes so far, wherever they were cut.
use Rattle.std.specs.Prelude.{ℕ, zero, suc, Bool, List, length, drop, Option, Some, None, is_some, Result, Ok, Err, if◌then◌else◌}
use Rattle.ipc_message.specs.declared.fault.Fault.{Fault}
use Rattle.ipc_message.specs.declared.fault.Fault.TheVariants.{Truncated}
use Rattle.ipc_message.specs.Framing.{NextMessage, next_message, taken, fault_of}
use Rattle.ipc_stream.specs.Meaning.{meaning, is_empty}

-- a truncated message may go on
abbrev pub unless_cut_off : Option Fault → Option Fault
unless_cut_off (Some Truncated) = None
unless_cut_off fault = fault

-- the first fault, if no further bytes can change it: a stream that has not begun, or whose last message is truncated, may go on
unfoldable pub settled_fault : (ℕ → Bool) → List ℕ → Option Fault
settled_fault supported bytes = if is_empty bytes then None else unless_cut_off (fault_of (meaning supported bytes))

abbrev pub after_next : Result NextMessage Fault → (bytes : List ℕ) → (NextMessage → List ℕ) → List ℕ
after_next (Ok f) bytes rest = rest f
after_next (Err fault) bytes rest = bytes

-- the bytes left after the whole messages and the end of stream at the front; each takes bytes, so as many steps as bytes are enough
unfoldable pub after_whole : (steps : ℕ) → List ℕ → List ℕ
after_whole zero bytes = bytes
after_whole (suc steps) bytes = after_next (next_message bytes) bytes (λ f. after_whole steps (drop (taken f) bytes))

-- the number of bytes after the last whole message, which wait for the rest of theirs; 0 if there is a settled fault
unfoldable pub held_of : (ℕ → Bool) → List ℕ → ℕ
held_of supported bytes = if is_some (settled_fault supported bytes) then 0 else length (after_whole (length bytes) bytes)

-- what a decoder keeps: the bytes so far, or only their fault
pub data Fed : Type 0 where
  reading : (bytes : List ℕ) → Fed
  refused : Fault → Fed

abbrev pub fed_with : Option Fault → List ℕ → Fed
fed_with None bytes = reading bytes
fed_with (Some fault) bytes = refused fault

-- the decoder that was fed these bytes
abbrev pub fed : (ℕ → Bool) → List ℕ → Fed
fed supported bytes = fed_with (settled_fault supported bytes) bytes
