use Rattle.std.proofs.Common.{[], ap, ◌∙◌, arith}
use Rattle.std.specs.List.{flat_map}
use Rattle.std.proofs.lemmas.List.{take_all}
use Rattle.query.specs.inner.SlotTests.{part_flags, part_has_slots}
use Rattle.query.proofs.Joining.{packed_mask}
use Rattle.query.specs.laws.Tests.{all_here}
use Rattle.query.proofs.SlotFlags.{flags_more}
use Rattle.query.proofs.slot_test.SlotTest.mask_of.Goals as goal

pub push_part-requires : goal.push_part-requires
push_part-requires c = all_here (part_has_slots c.args.self) c.args.parts.now c.loop-part.part-index c.part-item.result c.requires c.loop-part-test.true c.part-item.is

pub loop-part-preserved : goal.loop-part-preserved
loop-part-preserved c =
    c.in_ok-push_part.ensures
    ∙ flags_more (part_flags c.args.self) c.args.parts.now c.loop-part.part-index c.part-item.result [] c.loop-part.flags c.loop-part-test.true c.part-item.is c.loop-part.invariant

pub returns : goal.returns
returns c =
    packed_mask _ c.loop-part.flags _ (c.loop-part.invariant ∙ ap (flat_map (part_flags c.args.self)) (take_all c.loop-part.part-index c.args.parts.now (omega arith)))
    c.into_mask.ensures.bits c.into_mask.ensures.length
