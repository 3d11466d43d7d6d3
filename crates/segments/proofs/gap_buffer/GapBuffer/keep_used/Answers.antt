use Rattle.std.proofs.Common.{◌∙◌, ap}
use Rattle.segments.proofs.Gaps.{settled, settled_room}
use Rattle.segments.proofs.LetGo.{used_entries}
use Rattle.segments.proofs.gap_buffer.GapBuffer.keep_used.Goals as goal

pub invariant_of-self : goal.invariant_of-self
invariant_of-self c = settled_room c.retain_used.new.entries c.settle.new.behind c.settle.ensures.behind

pub returns : goal.returns
returns c =
    settled c.retain_used.new.entries.items c.settle.new.behind.items c.settle.ensures.behind ∙ c.retain_used.ensures
    ∙ ap used_entries (c.settle.ensures.before ∙ c.self.view_is)
