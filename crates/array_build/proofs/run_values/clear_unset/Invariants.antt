use Rattle.std.specs.List.{range_with_len}
use Rattle.std.proofs.Common.{◌≡◌, ◌+◌, ◌-◌, ◌*◌, ◌≤◌, ◌<◌, false, map}
use Rattle.bitmap.specs.Bits.{bit}
use Rattle.array_build.proofs.Cleared.{cleared_with}
use Rattle.array_build.proofs.run_values.clear_unset.Given as goal

-- the values so far and those that are left, of which the first is not there
abbrev pub invariant-loop-i : goal.invariant-loop-i
invariant-loop-i l = record {
  begins : l.from ≤ l.i;
  ends : l.i ≤ l.to;
  unset : l.i < l.to → bit l.bits l.i ≡ false;
  values : cleared_with l.width (l.start + (l.i - l.from) * l.width) l.values (map (bit l.bits) (range_with_len l.i (l.to - l.i)))
      ≡ cleared_with l.width l.start l.fn.values (map (bit l.bits) (range_with_len l.from (l.to - l.from)));
}

abbrev pub decreases-loop-i : goal.decreases-loop-i
decreases-loop-i l = l.to - l.i
