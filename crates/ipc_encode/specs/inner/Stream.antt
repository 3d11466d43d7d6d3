-- The bytes of a stream as it is written.
use Rattle.std.specs.Prelude.{ℕ, List, ◌++◌}
use Rattle.ipc_encode.specs.View.{joined_parts}
use Rattle.ipc_encode.specs.declared.stream.Stream.{Stream}

unfoldable pub stream_in : Stream → List ℕ
stream_in s = joined_parts s.parts.items ++ s.last.items
