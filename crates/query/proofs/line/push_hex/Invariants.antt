use Rattle.std.proofs.Common.{◌≡◌, ◌++◌, ◌+◌, ◌*◌, ◌≤◌, drop, length, vec_len, vec_capacity}
use Rattle.hex.specs.Hex.{encode_lower}
use Rattle.query.proofs.line.push_hex.Given as goal

abbrev pub invariant-loop-byte : goal.invariant-loop-byte
invariant-loop-byte l = record {
  digits : l.out.items ++ encode_lower (drop l.byte-index l.bytes) ≡ l.fn.out.items ++ encode_lower l.bytes;
  room : vec_len l.out + 2 * length (drop l.byte-index l.bytes) ≤ vec_capacity l.out;
}
