use Rattle.std.proofs.Common.{◌≡◌, ◌≤◌, ◌+◌, ◌++◌, drop, length, vec_len, vec_capacity}
use Rattle.ipc_encode.specs.View.{joined_parts}
use Rattle.segments.specs.Pieces.{bytes_of_parts}
use Rattle.store_changes.proofs.preparing.borrowed_parts.Given as goal

-- the parts so far and those that are left are all, and there is room for the others
abbrev pub invariant-loop-part : goal.invariant-loop-part
invariant-loop-part l = record {
  all : bytes_of_parts l.borrowed.items ++ joined_parts (drop l.part-index l.parts) ≡ l.first ++ joined_parts l.parts;
  len : vec_len l.borrowed ≡ l.part-index + 1;
  room : length l.parts + 1 ≤ vec_capacity l.borrowed;
}
