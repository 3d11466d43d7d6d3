use Rattle.std.proofs.Common.{◌≡◌, ◌≤◌, ◌+◌, ◌-◌, ◌*◌, ◌++◌, List, ℕ, take}
use Rattle.array_build.specs.inner.Runs.{slot_sizes, span_of}
use Rattle.array_build.proofs.RunContents.{offsets_with}
use Rattle.columns.specs.Offsets.{width_of}
use Rattle.columns.specs.View.{view_array}
use Rattle.array_build.proofs.slot_offsets.put_slot_offsets.Given as goal

-- the offsets so far and those of the other slots
abbrev pub invariant-loop-i : goal.invariant-loop-i
invariant-loop-i l =
    let a = view_array l.array in
    let w = width_of l.width in
    record {
      low : l.from ≤ l.i;
      high : l.i ≤ l.from + l.len;
      offsets : (front rest : List ℕ) → offsets_with w (front ++ take (w * (l.i - l.from)) l.room) (l.start + span_of w a l.from (l.i - l.from)) (slot_sizes w a l.i (l.from + l.len - l.i)) rest
          ≡ offsets_with w front l.start (slot_sizes w a l.from l.len) rest;
    }
