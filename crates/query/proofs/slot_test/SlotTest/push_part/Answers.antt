use Rattle.std.proofs.Common.{◌∙◌}
use Rattle.query.specs.inner.SlotTests.{batch_flags, batch_has_slots}
use Rattle.query.specs.laws.Tests.{all_here}
use Rattle.query.proofs.SlotFlags.{flags_more}
use Rattle.query.proofs.slot_test.SlotTest.push_part.Goals as goal

pub push_batch-requires : goal.push_batch-requires
push_batch-requires c =
    let within = rw c.deref-batch-items.ensures.value at c.loop-batch-test.true in
    let is = rw c.deref-batch-items.ensures.value at c.batch-item.is in
    all_here (batch_has_slots c.args.self c.args.part.now) c.args.part.now.batches.items c.loop-batch.batch-index c.batch-item.result c.requires within is

pub loop-batch-preserved : goal.loop-batch-preserved
loop-batch-preserved c =
    let within = rw c.deref-batch-items.ensures.value at c.loop-batch-test.true in
    let is = rw c.deref-batch-items.ensures.value at c.batch-item.is in
    c.in_ok-push_batch.ensures
    ∙ flags_more (batch_flags c.args.self c.args.part.now) c.args.part.now.batches.items c.loop-batch.batch-index c.batch-item.result c.args.flags.now c.loop-batch.flags
    within is c.loop-batch.invariant
