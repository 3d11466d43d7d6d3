use Rattle.std.proofs.Common.{◌≡◌, ℕ, ◌+◌, ◌-◌, ◌++◌, map, ap, ◌∙◌, arith}
use Rattle.std.specs.List.{range_with_len}
use Rattle.query.specs.ObjectLine.{lines_text}
use Rattle.query.specs.inner.ColumnSlots.{slot_columns, slot_row}
use Rattle.query.proofs.SlotLines.{fewer_readable, no_line, line_more}
use Rattle.query.proofs.slot_lines.push_slot_lines.Goals as goal

pub loop-slot-init : goal.loop-slot-init
loop-slot-init c = no_line c.args.form (slot_columns c.args.columns.now) (slot_row c.args.columns.now) c.args.from _ c.args.out.now.items (omega arith)

pub push_slot_line-requires : goal.push_slot_line-requires
push_slot_line-requires c = fewer_readable c.args.form.dates c.args.columns.now (c.args.from + c.args.len) _ (omega (arith, c.loop-slot-test.true)) c.requires.readable

pub loop-slot-preserved : goal.loop-slot-preserved
loop-slot-preserved c =
    line_more c.args.form (slot_columns c.args.columns.now) (slot_row c.args.columns.now) c.args.from (c.loop-slot.slot - c.args.from) c.loop-slot.slot _ _ _ _
    (omega arith) (omega arith) c.loop-slot.invariant c.in_ok-push_slot_line.ensures

pub returns : goal.returns
returns c =
    let all : c.loop-slot.slot - c.args.from ≡ c.args.len = omega arith in
    c.loop-slot.invariant
    ∙ ap (λ (n : ℕ). c.args.out.now.items ++ lines_text c.args.form (slot_columns c.args.columns.now) (map (slot_row c.args.columns.now) (range_with_len c.args.from n))) all
