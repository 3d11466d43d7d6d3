use Rattle.std.proofs.Common.{◌≡◌, ◌≤◌, ◌-◌}
use Rattle.dictionary_codes.specs.Masks.{mask_bits}
use Rattle.array_build.specs.inner.Masked.{repeated}
use Rattle.array_build.proofs.run_fixed_items.repeated_bits.Given as goal

abbrev pub decreases-loop-next : goal.decreases-loop-next
decreases-loop-next l = l.slots - l.next

-- the bits so far
abbrev pub invariant-loop-next : goal.invariant-loop-next
invariant-loop-next l = record {
  high : l.next ≤ l.slots;
  bits : l.bits ≡ repeated l.size (mask_bits l.mask 0 l.next);
}
