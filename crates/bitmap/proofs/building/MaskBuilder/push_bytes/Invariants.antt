use Rattle.std.specs.List.{range_with_len}
use Rattle.std.proofs.Common.{◌≡◌, ◌-◌, ◌*◌, ◌++◌, map}
use Rattle.bitmap.specs.Bits.{bit}
use Rattle.bitmap.proofs.building.MaskBuilder.push_bytes.Given as goal

abbrev pub invariant-loop-byte : goal.invariant-loop-byte
invariant-loop-byte l = l.self ≡ l.fn.self ++ map (bit l.mask) (range_with_len (8 * l.fn.from) (8 * l.byte - 8 * l.fn.from))
