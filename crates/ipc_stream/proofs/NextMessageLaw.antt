-- What is known of the front of a stream: the clauses of `ipc_message::next_message_is_framed`, as the lemmas on streams take them.
use Rattle.std.proofs.Common.{◌≡◌, ℕ, List, ◌++◌, drop, Ok}
use Rattle.ipc_message.specs.Framing.{Envelope, Framed, IsMessage, next_message, message, end_of_stream, continuation_marker, no_size, taken}

pub record NextMessageLaw : Type 0 where
  pub framed : (bytes : List ℕ) (m : Envelope) → next_message bytes ≡ Ok (message m) → IsMessage m × Framed bytes m (drop (taken (message m)) bytes)
  pub read : (bytes others : List ℕ) (m : Envelope) → IsMessage m → Framed bytes m others → next_message bytes ≡ Ok (message m)
  pub marked : (bytes : List ℕ) → next_message bytes ≡ Ok end_of_stream → bytes ≡ continuation_marker ++ (no_size ++ drop (taken end_of_stream) bytes)
  pub ended : (others : List ℕ) → next_message (continuation_marker ++ (no_size ++ others)) ≡ Ok end_of_stream
