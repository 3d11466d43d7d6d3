use Rattle.std.proofs.Common.{◌<◌, ◌∙◌, List, length, set, sym, ap, subst, arith}
use Rattle.segments.specs.declared.entries.UsageEntry.{UsageEntry}
use Rattle.segments.proofs.Gaps.{settled, settled_room}
use Rattle.segments.proofs.gap_buffer.GapBuffer.set.Goals as goal

pub index_mut-requires : goal.index_mut-requires
index_mut-requires c =
    omega (arith, c.settle.new.before.ok.0, subst (λ (es : List UsageEntry). c.args.place < length es) (sym (c.settle.ensures.before ∙ c.self.view_is)) c.requires)

pub invariant_of-self : goal.invariant_of-self
invariant_of-self c = settled_room c.settle.new.before c.settle.new.behind c.settle.ensures.behind

pub returns : goal.returns
returns c =
    settled (set c.settle.new.before.items c.args.place c.args.entry) c.settle.new.behind.items c.settle.ensures.behind
    ∙ ap (λ (es : List UsageEntry). set es c.args.place c.args.entry) (c.settle.ensures.before ∙ c.self.view_is)
