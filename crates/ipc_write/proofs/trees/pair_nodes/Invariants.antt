use Rattle.std.proofs.Common.{◌≡◌, map, take}
use Rattle.arrow_schema.specs.View.{pair_of}
use Rattle.flatbuf.specs.View.{node_of}
use Rattle.ipc_write.specs.Trees.{pair_tree}
use Rattle.ipc_write.proofs.trees.pair_nodes.Given as goal

abbrev pub invariant-loop-key : goal.invariant-loop-key
invariant-loop-key l = map node_of l.nodes.items ≡ map (λ p. pair_tree (pair_of p)) (take l.key-index l.pairs)
