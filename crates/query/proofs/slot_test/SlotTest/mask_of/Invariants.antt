use Rattle.std.proofs.Common.{◌≡◌, take}
use Rattle.std.specs.List.{flat_map}
use Rattle.query.specs.inner.SlotTests.{part_flags}
use Rattle.query.proofs.slot_test.SlotTest.mask_of.Given as goal

abbrev pub invariant-loop-part : goal.invariant-loop-part
invariant-loop-part l = l.flags ≡ flat_map (part_flags l.self) (take l.part-index l.parts)
