use Rattle.std.proofs.Common.{◌≡◌, ◌++◌, drop}
use Rattle.ipc_encode.specs.View.{joined_parts}
use Rattle.store_changes.proofs.drafting.owned_stream.Given as goal

-- the bytes so far and the parts that are left are all
abbrev pub invariant-loop-part : goal.invariant-loop-part
invariant-loop-part l = record { all : l.stream.items ++ joined_parts (drop l.part-index l.parts) ≡ l.front ++ joined_parts l.parts }
