use Rattle.std.specs.List.{range_with_len}
use Rattle.std.proofs.Common.{◌≡◌, ◌≤◌, ◌-◌, ◌++◌, map}
use Rattle.bitmap.specs.Bits.{bit}
use Rattle.array_build.proofs.mask_bits.push_mask_bits.Given as goal

-- the bits so far and the others
abbrev pub invariant-loop-next : goal.invariant-loop-next
invariant-loop-next l = record {
  begins : l.from ≤ l.next;
  ends : l.next ≤ l.to;
  bits : l.bits ++ map (bit l.mask) (range_with_len l.next (l.to - l.next)) ≡ l.fn.bits ++ map (bit l.mask) (range_with_len l.from (l.to - l.from));
}

abbrev pub decreases-loop-next : goal.decreases-loop-next
decreases-loop-next l = l.to - l.next
