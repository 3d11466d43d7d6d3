use Rattle.std.proofs.Common.{◌≡◌, ◌*◌, ◌++◌, map}
use Rattle.std.specs.List.{range_with_len}
use Rattle.query.specs.inner.Slots.{integer_holds_in}
use Rattle.query.proofs.integer_slots.IntegerComparison.push_blocks.Given as goal

abbrev pub invariant-loop-block : goal.invariant-loop-block
invariant-loop-block l = l.flags ≡ l.fn.flags ++ map (integer_holds_in l.fn.self l.validity l.values) (range_with_len 0 (l.slots * l.block))
