use Rattle.std.specs.List.{range_with_len}
use Rattle.std.proofs.Common.{◌≡◌, ◌≤◌, ◌+◌, ◌++◌, ◌-◌, map, vec_len, vec_capacity}
use Rattle.bitmap.specs.Bits.{bit}
use Rattle.array_build.proofs.run_flags.push_bits.Given as goal

-- those so far and those that are left, for which there is room
abbrev pub invariant-loop-i : goal.invariant-loop-i
invariant-loop-i l = record {
  flags : l.flags.items ++ map (bit l.bits) (range_with_len l.i (l.to - l.i)) ≡ l.fn.flags.items ++ map (bit l.bits) (range_with_len l.from (l.to - l.from));
  room : vec_len l.flags + (l.to - l.i) ≤ vec_capacity l.flags;
}
