-- How far the bytes of a stream have been read.
use Rattle.std.specs.Prelude.{◌≡◌, ◌≤◌, ◌<◌, ◌+◌, ℕ, suc, List, [], ◌++◌, length, drop, Option, Some, None, Result, Ok, Err}
use Rattle.ipc_message.specs.declared.error.ImportError.{ImportError}
use Rattle.ipc_message.specs.declared.error.ImportError.TheVariants as errors
use Rattle.ipc_message.specs.declared.fault.Fault.{Fault}
use Rattle.ipc_message.specs.declared.fault.Fault.TheVariants.{Truncated}
use Rattle.ipc_message.specs.declared.message.NextMessage as code
use Rattle.ipc_message.specs.Framing.{Envelope, end_of_stream, next_message, taken}
use Rattle.ipc_message.specs.Header.{supported_codes}
use Rattle.ipc_message.specs.Messages.{next_message_of}
use Rattle.ipc_stream.specs.declared.front.Front.{Front}
use Rattle.ipc_stream.specs.declared.reading.Reading.{Reading}
use Rattle.ipc_stream.specs.declared.reading.Stopped.{Stopped}
use Rattle.ipc_stream.specs.Fed.{settled_fault, held_of, after_whole}
use Rattle.ipc_stream.specs.Meaning.{Known, known_at_end, read_from}
use Rattle.ipc_stream.specs.Place.{accepted, bytes_taken, place_of}
use Rattle.ipc_stream.specs.Progress.{IsBefore}

-- ---- the next message

-- a message or the end of stream, and its size in bytes
pub record IsNext (bytes : List ℕ) (found : code.NextMessage × ℕ) : Type 0 where
  pub next : next_message bytes ≡ Ok (next_message_of found.0)
  pub size : found.1 ≡ taken (next_message_of found.0)
  pub within : found.1 ≤ length bytes

-- none is found if the bytes are cut off
abbrev pub FindsNext : List ℕ → Result (Option (code.NextMessage × ℕ)) Fault → Type 0
FindsNext bytes (Ok (Some found)) = IsNext bytes found
FindsNext bytes (Ok None) = next_message bytes ≡ Err Truncated
FindsNext bytes (Err fault) = (next_message bytes ≡ Err fault) × (fault ≡ Truncated → ⊥)

-- ---- all messages

-- the state at the end of bytes that follow the state `before`
abbrev pub known_from : Option Known → List ℕ → Result Known Fault
known_from before bytes = read_from supported_codes (suc (length bytes)) before bytes

abbrev pub after_all : List ℕ → List ℕ
after_all bytes = after_whole (length bytes) bytes

-- the state is empty only if nothing was read
abbrev pub BeginsAt : Option Known → (start : ℕ) → Type 0
BeginsAt None start = start ≡ 0
BeginsAt (Some k) start = Unit {0}

abbrev pub accepted_from : Option Known → List ℕ → List Envelope
accepted_from before bytes = accepted supported_codes (length bytes) before bytes

-- the bytes were read up to `start`, `number` messages: with any bytes appended they mean what the rest means after the state
pub record IsReadTo (bytes : List ℕ) (number start : ℕ) (front : Option Front) : Type 0 where
  pub before : Option Known
  pub known : IsBefore bytes front before
  pub within : start ≤ length bytes
  pub begins : BeginsAt before start
  pub others : (more : List ℕ) → known_from None (bytes ++ more) ≡ known_from before (drop start bytes ++ more)
  pub waits : (more : List ℕ) → after_all (bytes ++ more) ≡ after_all (drop start bytes ++ more)
  pub messages : List Envelope
  pub counted : number ≡ length messages
  pub sized : start ≡ bytes_taken messages
  pub passed : (more : List ℕ) → accepted_from None (bytes ++ more) ≡ messages ++ accepted_from before (drop start bytes ++ more)

-- the bytes were read as far as they go
pub record Rests (bytes : List ℕ) (r : Reading) : Type 0 where
  pub read : IsReadTo bytes r.number r.start r.front
  pub settled : settled_fault supported_codes bytes ≡ None
  pub held : r.held ≡ held_of supported_codes bytes
  pub cut_off : 0 < r.held → known_from None bytes ≡ Err Truncated
  pub whole : r.held ≤ 0 → known_from None bytes ≡ known_at_end read.before
  pub stops : accepted_from read.before (drop r.start bytes) ≡ []

-- the first fault, and where it lies
abbrev pub StoppedBy : List ℕ → ImportError → (number start : ℕ) → Type 0
StoppedBy bytes errors.OutOfMemory number start = Unit {0}
StoppedBy bytes (errors.Fault fault) number start = (settled_fault supported_codes bytes ≡ Some fault) × (place_of supported_codes bytes ≡ Some (number, start))

-- the result of reading on
abbrev pub GivesReading : List ℕ → Result Reading Stopped → Type 0
GivesReading bytes (Ok r) = Rests bytes r
GivesReading bytes (Err s) = StoppedBy bytes s.error s.number s.start

-- the end of stream is at `start`, with `behind` bytes after it
pub record EndsReading (bytes : List ℕ) (start behind : ℕ) : Type 0 where
  pub next : next_message (drop start bytes) ≡ Ok end_of_stream
  pub size : length bytes ≡ start + 8 + behind
