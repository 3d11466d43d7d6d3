use Rattle.std.specs.Prelude.{get_or}
use Rattle.std.proofs.Common.{None, arith}
use Rattle.std.proofs.lemmas.List.{get_or_default}
use Rattle.catalogue.specs.declared.entry.Segment.{Segment}
use Rattle.store_changes.proofs.Turns.{placed_more}
use Rattle.store_changes.proofs.editing.in_runs.Goals as goal

abbrev no_segment : Segment
no_segment = record { place = record { run = record { start = 0; count = 0 }; bytes = 0 }; rows = 0; digest = None }

pub loop-place-preserved : goal.loop-place-preserved
loop-place-preserved c =
    let segments = c.args.segments.now in
    let place = c.loop-place.place in
    let segment = get_or segments place no_segment in
    record {
      all = placed_more c.loop-place.placed.items c.push_reserved.new.self.items c.args.pieces.now segments place c.index-pieces-place.result segment _ c.loop-place-test.true c.index-pieces-place.is
          (omega arith) (get_or_default segments place no_segment segment (omega arith)) c.push_reserved.ensures.items c.loop-place.invariant.all;
      len = omega (arith, c.push_reserved.ensures.len, c.loop-place.invariant.len);
      room = omega (arith, c.push_reserved.ensures.capacity, c.loop-place.invariant.room);
    }
