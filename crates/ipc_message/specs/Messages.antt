-- Messages of the code as plain messages.
use Rattle.std.specs.Prelude.{Result, Ok, Err}
use Rattle.flatbuf.specs.Seen.{bytes_of}
use Rattle.ipc_message.specs.declared.message.Message.{Message}
use Rattle.ipc_message.specs.declared.message.NextMessage.{NextMessage}
use Rattle.ipc_message.specs.declared.message.NextMessage.TheVariants as next_messages
use Rattle.ipc_message.specs.declared.fault.Fault.{Fault}
use Rattle.ipc_message.specs.Framing.{Envelope, end_of_stream, message}
use Rattle.ipc_message.specs.Framing as framing

-- its metadata and its body
abbrev pub envelope_of : Message → Envelope
envelope_of m = record { metadata = bytes_of m.table; body = m.body.now }

-- what the bytes start with
abbrev pub next_message_of : NextMessage → framing.NextMessage
next_message_of (next_messages.Message m) = message (envelope_of m)
next_message_of next_messages.EndOfStream = end_of_stream

-- a result with its value mapped by a view
abbrev pub seen_by : {X Y : Type 0} → (X → Y) → Result X Fault → Result Y Fault
seen_by view (Ok x) = Ok (view x)
seen_by view (Err f) = Err f
