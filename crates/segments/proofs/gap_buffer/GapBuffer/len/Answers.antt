use Rattle.std.proofs.Common.{length, ap, arith}
use Rattle.segments.proofs.Gaps.{length_both}
use Rattle.segments.proofs.gap_buffer.GapBuffer.len.Goals as goal

pub overflow_add-result : goal.overflow_add-result
overflow_add-result c = omega (arith, c.self.invariant, c.self.inside.before.small)

pub returns : goal.returns
returns c =
    omega (arith, length_both c.self.inside.before.items c.self.inside.behind.items, c.self.inside.before.ok.0, c.self.inside.behind.ok.0, ap length c.self.view_is)
