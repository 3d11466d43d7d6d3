use Rattle.std.specs.Prelude.{String}
use Rattle.std.specs.Global.{Global}
use Rattle.std.proofs.Common.{List, map, take_all, ap, ◌∙◌}
use Rattle.arrow_schema.specs.View.{pair_of}
use Rattle.ipc_write.specs.Trees.{pair_tree}
use Rattle.ipc_write.proofs.trees.pair_nodes.Goals as goal

pub returns : goal.returns
returns c =
    c.loop-key.invariant ∙ ap (λ (ps : List (String Global × String Global)). map (λ p. pair_tree (pair_of p)) ps) (take_all c.loop-key.key-index c.args.pairs.now c.loop-key-test.false)
