use Rattle.std.proofs.Common.{◌∙◌, sym, arith}
use Rattle.std.proofs.lemmas.List.{nil_from_length}
use Rattle.segments.proofs.Gaps.{settled}
use Rattle.segments.proofs.gap_buffer.settle.Goals as goal

pub returns : goal.returns
returns c =
    let none = nil_from_length c.move_gap.new.behind.items (omega (arith, c.move_gap.ensures.place, c.move_gap.ensures.len, c.move_gap.new.behind.ok.0)) in
    record { before = sym (settled c.move_gap.new.before.items c.move_gap.new.behind.items none) ∙ c.move_gap.ensures.entries; behind = none }
