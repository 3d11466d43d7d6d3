use Rattle.std.specs.Simd.Lanes.{mask_l}
use Rattle.std.proofs.Common.{◌≡◌, ◌≤◌, ◌-◌}
use Rattle.dictionary_codes.specs.Masks.{mask_bits}
use Rattle.array_build.specs.inner.Masked.{repeated}
use Rattle.array_build.proofs.run_fixed_items.repeated_word.Given as goal

-- the bits that were gone through, from the last one back
abbrev pub invariant-loop-i : goal.invariant-loop-i
invariant-loop-i l = record {
  begins : l.from ≤ l.i;
  word : l.word ≡ mask_l (repeated l.size (mask_bits l.mask l.i (l.to - l.i)));
}
