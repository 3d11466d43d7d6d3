use Rattle.std.proofs.Common.{sym, ◌∙◌}
use Rattle.columns.specs.Offsets.{width_of}
use Rattle.columns.specs.View.{view_array}
use Rattle.columns.proofs.Unordered.{none_falls, either_true, either_false}
use Rattle.columns.proofs.array_checks.are_unordered.Goals as goal

pub returns-then-is_negative : goal.returns-then-is_negative
returns-then-is_negative c =
    either_true _ _ _ _ c.is_negative.ensures c.if-is_negative.true
    (none_falls (width_of c.args.width) c.args.most (view_array c.args.view) c.offsets-offsets.result.now c.slots-slots.result c.slot_offset-last.result
    c.offsets-offsets.ensures c.slots-slots.ensures c.if-slots-eq0.false c.slot_offset-last.ensures (sym c.any_falls.ensures ∙ c.if-any_falls.false))

pub returns-else-is_negative : goal.returns-else-is_negative
returns-else-is_negative c =
    either_false _ _ _ _ c.is_negative.ensures c.if-is_negative.false
    (none_falls (width_of c.args.width) c.args.most (view_array c.args.view) c.offsets-offsets.result.now c.slots-slots.result c.slot_offset-last.result
    c.offsets-offsets.ensures c.slots-slots.ensures c.if-slots-eq0.false c.slot_offset-last.ensures (sym c.any_falls.ensures ∙ c.if-any_falls.false))
