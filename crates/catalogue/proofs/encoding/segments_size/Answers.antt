use Rattle.std.proofs.Common.{arith}
use Rattle.catalogue.proofs.encoding.segments_size.Goals as goal

pub overflow_add-size : goal.overflow_add-size
overflow_add-size c = omega (arith, c.loop-segment.invariant.most, c.segment_size-size.ensures.most, c.loop-segment-test.true, c.requires.few)
