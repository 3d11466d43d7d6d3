use Rattle.std.proofs.Common.{◌≡◌, ◌<◌, ◌++◌, ◌∙◌, List, length, get_or, subst, arith}
use Rattle.std.specs.Global.{Vec}
use Rattle.batch_build.specs.declared.batch.Buffer.{Buffer}
use Rattle.ipc_encode.specs.View.{joined_parts}
use Rattle.store_changes.proofs.Turns.{stream_more}
use Rattle.store_changes.proofs.preparing.borrowed_streams.Goals as goal

pub loop-parts-preserved : goal.loop-parts-preserved
loop-parts-preserved c =
    let pieces = c.args.pieces.now in
    let i = c.loop-parts.parts-index in
    let parts = c.parts-item.result in
    let within = subst (λ (xs : List (Vec Buffer)). i < length xs) c.deref-parts-items.ensures.value c.loop-parts-test.true in
    let is = subst (λ (xs : List (Vec Buffer)). parts ≡ get_or xs i parts) c.deref-parts-items.ensures.value c.parts-item.is in
    let same = c.in_ok-borrowed_parts.ensures ∙ (λ j. c.deref.ensures.value j ++ joined_parts (c.deref-in-loop-parts.ensures.value j)) in
    record {
      all = stream_more pieces.schema_message.items c.loop-parts.borrowed.items c.push_reserved.new.self.items c.in_ok-borrowed_parts.field-0 pieces.parts.items i parts _ within is same c.push_reserved.ensures.items c.loop-parts.invariant.all;
      len = omega (arith, c.push_reserved.ensures.len, c.loop-parts.invariant.len);
      room = omega (arith, c.push_reserved.ensures.capacity, c.loop-parts.invariant.room);
    }
