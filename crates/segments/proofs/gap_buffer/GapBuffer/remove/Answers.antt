use Rattle.std.proofs.Common.{◌<◌, ◌∙◌, List, length, remove, sym, ap, subst, arith}
use Rattle.segments.specs.declared.entries.UsageEntry.{UsageEntry}
use Rattle.segments.proofs.Gaps.{settled, settled_room}
use Rattle.segments.proofs.gap_buffer.GapBuffer.remove.Goals as goal

pub remove-requires : goal.remove-requires
remove-requires c =
    omega (arith, c.settle.new.before.ok.0, subst (λ (es : List UsageEntry). c.args.place < length es) (sym (c.settle.ensures.before ∙ c.self.view_is)) c.requires)

pub invariant_of-self : goal.invariant_of-self
invariant_of-self c = settled_room c.remove.new.self c.settle.new.behind c.settle.ensures.behind

pub returns : goal.returns
returns c =
    settled c.remove.new.self.items c.settle.new.behind.items c.settle.ensures.behind ∙ c.remove.ensures.items
    ∙ ap (λ (es : List UsageEntry). remove es c.args.place) (c.settle.ensures.before ∙ c.self.view_is)
