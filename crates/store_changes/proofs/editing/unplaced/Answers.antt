use Rattle.std.specs.Global.{Vec}
use Rattle.std.proofs.Common.{◌∙◌, List, length, ap, arith}
use Rattle.segments.specs.declared.piece.PiecePart.{PiecePart}
use Rattle.segments.specs.Pieces.{bytes_of_parts}
use Rattle.store_runs.specs.Changes.{digest_for}
use Rattle.store_changes.proofs.NewDigests.{digest_at}
use Rattle.store_changes.proofs.Turns.{counted, unplaced_more}
use Rattle.store_changes.proofs.editing.unplaced.Goals as goal

pub loop-place-preserved : goal.loop-place-preserved
loop-place-preserved c =
    let streams = c.args.streams.now in
    let i = c.loop-place.place in
    let stream = c.index-streams-place.result in
    let bytes = counted c.byte_count.result _ c.ok_or.result c.in_ok-bytes.bytes _ c.ok_or.ensures.value c.in_ok-bytes.was c.byte_count.ensures.some in
    let digest = digest_at (λ (parts : Vec PiecePart). digest_for c.args.version (bytes_of_parts parts.items)) streams c.in_ok-digests.digests.items i stream c.index.result.now c.loop-place-test.true c.index-streams-place.is
    c.in_ok-digests.ensures c.index.ensures in
    record {
      all = unplaced_more c.args.version c.loop-place.segments.items c.push_reserved.new.self.items streams c.args.rows.now i stream c.in_ok-bytes.bytes c.div_ceil.result c.index.result.now _ c.loop-place-test.true c.index-streams-place.is (omega arith)
          (bytes ∙ ap (λ (ps : List PiecePart). length (bytes_of_parts ps)) c.deref.ensures.value) c.div_ceil.ensures digest c.push_reserved.ensures.items c.loop-place.invariant.all;
      len = omega (arith, c.push_reserved.ensures.len, c.loop-place.invariant.len);
      room = omega (arith, c.push_reserved.ensures.capacity, c.loop-place.invariant.room);
    }
