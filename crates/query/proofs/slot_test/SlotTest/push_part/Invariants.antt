use Rattle.std.proofs.Common.{◌≡◌, ◌++◌, take}
use Rattle.std.specs.List.{flat_map}
use Rattle.query.specs.inner.SlotTests.{batch_flags}
use Rattle.query.proofs.slot_test.SlotTest.push_part.Given as goal

abbrev pub invariant-loop-batch : goal.invariant-loop-batch
invariant-loop-batch l = l.flags ≡ l.initial.flags ++ flat_map (batch_flags l.self l.part) (take l.batch-index l.part.batches.items)
