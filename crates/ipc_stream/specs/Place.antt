-- Where the first fault of a stream lies: the number of the first faulty message, counted from 0, and the offset of its first byte. The end of stream
-- counts as a message.
use Rattle.std.specs.Prelude.{ℕ, zero, suc, Bool, List, [], ◌∷◌, length, drop, Option, Some, None, Result, Ok, Err, is_ok, if◌then◌else◌}
use Rattle.std.specs.List.{sum_by}
use Rattle.ipc_message.specs.declared.fault.Fault.{Fault}
use Rattle.ipc_message.specs.Framing.{Envelope, NextMessage, message, end_of_stream, next_message, taken}
use Rattle.ipc_stream.specs.Meaning.{Known, read_next, meaning}

abbrev pub accepted_next : Result NextMessage Fault → (Envelope → List Envelope) → List Envelope
accepted_next (Ok (message m)) f = f m
accepted_next (Ok end_of_stream) f = []
accepted_next (Err fault) f = []

abbrev pub accepted_known : Result Known Fault → (Known → List Envelope) → List Envelope
accepted_known (Ok k) f = f k
accepted_known (Err fault) f = []

-- the messages before the first faulty one, or before the end; each takes bytes, so as many steps as bytes are enough
unfoldable pub accepted : (ℕ → Bool) → (steps : ℕ) → Option Known → List ℕ → List Envelope
accepted supported zero before bytes = []
accepted supported (suc steps) before bytes =
    accepted_next (next_message bytes)
    (λ m. accepted_known (read_next supported before m) (λ k. m ∷ accepted supported steps (Some k) (drop (taken (message m)) bytes)))

abbrev pub bytes_taken : List Envelope → ℕ
bytes_taken messages = sum_by (λ m. taken (message m)) messages

-- the faulty message follows the accepted ones; there is none if the bytes mean a table
unfoldable pub place_of : (ℕ → Bool) → List ℕ → Option (ℕ × ℕ)
place_of supported bytes =
    let before : List Envelope = accepted supported (length bytes) None bytes in
    if is_ok (meaning supported bytes) then None else Some (length before, bytes_taken before)
