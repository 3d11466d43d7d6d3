use Rattle.std.proofs.Common.{◌≡◌, ◌+◌, ◌-◌, ◌*◌, ◌++◌, List, ℕ, take}
use Rattle.dictionary_codes.specs.Masks.{mask_bits}
use Rattle.array_build.specs.inner.MaskedContents.{masked_sizes, total}
use Rattle.array_build.proofs.RunContents.{offsets_with}
use Rattle.columns.specs.Offsets.{width_of}
use Rattle.columns.specs.View.{view_array}
use Rattle.array_build.proofs.slot_offsets.put_masked_slot_offsets.Given as goal

-- the offsets so far and those of the other slots, which end where all end
abbrev pub invariant-loop-i : goal.invariant-loop-i
invariant-loop-i l =
    let a = view_array l.array in
    let w = width_of l.width in
    record {
      next : l.next + total (masked_sizes w a (l.from + (l.i - l.at)) (mask_bits l.mask l.i (l.to - l.i))) ≡ l.start + total (masked_sizes w a l.from (mask_bits l.mask l.at (l.to - l.at)));
      offsets : (front rest : List ℕ) → offsets_with w (front ++ take (w * (l.i - l.at)) l.room) l.next (masked_sizes w a (l.from + (l.i - l.at)) (mask_bits l.mask l.i (l.to - l.i))) rest
          ≡ offsets_with w front l.start (masked_sizes w a l.from (mask_bits l.mask l.at (l.to - l.at))) rest;
    }
