use Rattle.std.proofs.Common.{◌≡◌, ◌≤◌, ◌+◌, ◌-◌, ◌++◌}
use Rattle.dictionary_codes.specs.Masks.{mask_bits}
use Rattle.array_build.specs.inner.MaskedContents.{masked_spans}
use Rattle.columns.specs.Offsets.{width_of}
use Rattle.columns.specs.View.{view_array}
use Rattle.array_build.proofs.masked_contents.push_slot_contents.Given as goal

-- the bytes so far and those of the other slots
abbrev pub invariant-loop-i : goal.invariant-loop-i
invariant-loop-i l =
    let a = view_array l.array in
    let w = width_of l.width in
    record {
      begins : l.at ≤ l.i;
      ends : l.i ≤ l.to;
      contents : l.contents.items ++ masked_spans w a (l.from + (l.i - l.at)) (mask_bits l.mask l.i (l.to - l.i)) ≡ l.fn.contents.items ++ masked_spans w a l.from (mask_bits l.mask l.at (l.to - l.at));
    }

abbrev pub decreases-loop-i : goal.decreases-loop-i
decreases-loop-i l = l.to - l.i
