use Rattle.std.proofs.Common.{◌∙◌, ◌++◌, List, insert, reverse, sym, ap}
use Rattle.segments.specs.declared.entries.UsageEntry.{UsageEntry}
use Rattle.segments.proofs.Gaps.{inserted}
use Rattle.segments.proofs.gap_buffer.GapBuffer.insert.Goals as goal

pub returns : goal.returns
returns c =
    record {
      ok =
          ap (λ (es : List UsageEntry). es ++ reverse c.move_gap.new.behind.items) c.push_reserved.ensures.items
          ∙ inserted c.move_gap.new.before.items c.move_gap.new.behind.items c.args.entry c.args.place (sym c.move_gap.new.before.ok.0 ∙ c.move_gap.ensures.place)
          ∙ ap (λ (es : List UsageEntry). insert es c.args.place c.args.entry) (c.move_gap.ensures.entries ∙ (λ i. c.in_ok-reserve.ensures.items i ++ reverse (c.in_ok-reserve-2.ensures.items i)) ∙ c.self.view_is);
      err = tt;
    }
