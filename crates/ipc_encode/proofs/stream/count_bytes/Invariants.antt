use Rattle.std.proofs.Common.{◌≡◌, ◌+◌, length, drop}
use Rattle.ipc_encode.specs.View.{joined_parts}
use Rattle.ipc_encode.proofs.stream.count_bytes.Given as goal

-- what is counted, and the bytes of the parts that are left
abbrev pub invariant-loop-part : goal.invariant-loop-part
invariant-loop-part l = l.count + length (joined_parts (drop l.part-index l.parts)) ≡ l.fn.before + length (joined_parts l.parts)
