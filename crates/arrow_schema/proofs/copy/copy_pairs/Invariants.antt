use Rattle.std.proofs.Common.{◌≡◌, map, take}
use Rattle.arrow_schema.specs.View.{pair_of}
use Rattle.arrow_schema.proofs.copy.copy_pairs.Given as goal

abbrev pub invariant-loop-key : goal.invariant-loop-key
invariant-loop-key l = map pair_of l.copy.items ≡ map pair_of (take l.key-index l.pairs)
