use Rattle.std.proofs.Common.{List, length, ap, arith}
use Rattle.catalogue.specs.declared.entry.Segment.{Segment}
use Rattle.catalogue.proofs.Digests.{own_few, more_left, more_digested, all_digested}
use Rattle.catalogue.proofs.edits.digested_entries.Goals as goal

pub split_at-requires : goal.split_at-requires
split_at-requires c =
    let count = ap (λ (ss : List Segment). length ss) c.segments.ensures in
    own_few c.args.entries.now c.loop-entry.entry-index c.entry-item.result c.loop-entry.rest.now (length c.segments.result.now) c.loop-entry-test.true c.entry-item.is count c.loop-entry.invariant.left

pub loop-entry-preserved : goal.loop-entry-preserved
loop-entry-preserved c =
    let items = c.args.entries.now in
    let i = c.loop-entry.entry-index in
    let x = c.entry-item.result in
    let y = c.in_ok-digested_entry.field-0 in
    let front = c.split_at.result.0.now in
    let back = c.split_at.result.1.now in
    let count = ap (λ (ss : List Segment). length ss) c.segments.ensures in
    record {
      left = more_left items i x c.loop-entry.rest.now (length c.segments.result.now) c.loop-entry-test.true c.entry-item.is count y front back c.split_at.ensures.front c.split_at.ensures.back c.in_ok-digested_entry.ensures c.loop-entry.invariant.left;
      so_far = more_digested items i x c.loop-entry.rest.now (length c.segments.result.now) c.loop-entry-test.true c.entry-item.is count y front back c.split_at.ensures.front c.split_at.ensures.back c.in_ok-digested_entry.ensures c.loop-entry.all.items _ _ c.in_ok-push.ensures.items c.loop-entry.invariant.so_far;
    }

pub returns : goal.returns
returns c = all_digested c.args.entries.now c.loop-entry.all.items c.loop-entry.entry-index c.loop-entry.rest.now c.args.digests.now (omega (arith, c.loop-entry-test.false)) c.loop-entry.invariant.so_far
