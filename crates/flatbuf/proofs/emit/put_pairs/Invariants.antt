use Rattle.std.proofs.Common.{◌≡◌, ◌++◌, drop}
use Rattle.flatbuf.specs.Laid.{struct_bytes}
use Rattle.flatbuf.proofs.emit.put_pairs.Given as goal

abbrev pub invariant-loop-pair : goal.invariant-loop-pair
invariant-loop-pair l = l.out.items ++ struct_bytes (drop l.pair-index l.pairs) ≡ l.initial.out.items ++ struct_bytes l.pairs
