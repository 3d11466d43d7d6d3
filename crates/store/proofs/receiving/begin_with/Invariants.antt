-- The segments so far are those that are listed, so all of them are if the others are.
use Rattle.std.proofs.Common.{◌≡◌, drop, map}
use Rattle.store.specs.declared.segment_streams.SegmentInfo.{SegmentInfo}
use Rattle.store.specs.Receiving.{begin_with}
use Rattle.store.proofs.receiving.begin_with.Given as goal

abbrev pub invariant-loop-i : goal.invariant-loop-i
invariant-loop-i l =
    begin_with (map (λ (i : SegmentInfo). i.digest) (drop l.i l.own)) (drop l.i l.listed) ≡ begin_with (map (λ (i : SegmentInfo). i.digest) l.own) l.listed
