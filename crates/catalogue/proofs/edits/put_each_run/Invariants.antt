use Rattle.std.proofs.Common.{◌≡◌, ◌≤◌, ◌+◌, ◌-◌, ◌++◌, take, map, length}
use Rattle.std.specs.Prelude.{vec_len}
use Rattle.std.specs.Vec.{vec_capacity}
use Rattle.catalogue.specs.declared.entry.Segment.{Segment}
use Rattle.catalogue.proofs.edits.put_each_run.Given as goal

abbrev pub invariant-loop-segment : goal.invariant-loop-segment
invariant-loop-segment l = record {
  runs : l.runs.items ≡ l.initial.runs.items ++ map (λ (s : Segment). s.place.run) (take l.segment-index l.segments);
  room : vec_len l.runs + (length l.segments - l.segment-index) ≤ vec_capacity l.runs;
}
