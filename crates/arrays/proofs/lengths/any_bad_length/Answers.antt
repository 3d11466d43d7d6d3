use Rattle.std.proofs.Common.{◌≡◌, ℕ, true, false, Bool, List, arith, sym, ap, ◌∙◌}
use Rattle.ipc_message.specs.Raw.{RawNode, nodes_in}
use Rattle.arrays.specs.Checks.{is_bad_length}
use Rattle.arrays.proofs.Raws.{any_here, any_later, any_end, node_at, next_node, count_nodes}
use Rattle.arrays.proofs.lengths.any_bad_length.Goals as goal

abbrev bad : RawNode → Bool
bad n = is_bad_length n.length

pub returns-then-is_bad_length : goal.returns-then-is_bad_length
returns-then-is_bad_length c =
    let nodes : List ℕ = c.args.nodes.now in
    let here : bad (node_at nodes c.loop-i.i) ≡ true = ap is_bad_length (sym c.pair_at.ensures.first) ∙ sym c.is_bad_length.ensures ∙ c.if-is_bad_length.true in
    sym (any_here bad (nodes_in nodes) c.loop-i.i (node_at nodes c.loop-i.i) (next_node nodes c.loop-i.i (omega arith)) here) ∙ c.loop-i.invariant

pub loop-i-preserved : goal.loop-i-preserved
loop-i-preserved c =
    let nodes : List ℕ = c.args.nodes.now in
    let here : bad (node_at nodes c.loop-i.i) ≡ false = ap is_bad_length (sym c.pair_at.ensures.first) ∙ sym c.is_bad_length.ensures ∙ c.if-is_bad_length.false in
    any_later bad (nodes_in nodes) c.loop-i.i (node_at nodes c.loop-i.i) (next_node nodes c.loop-i.i (omega arith)) here ∙ c.loop-i.invariant

pub returns : goal.returns
returns c = sym (any_end bad (nodes_in c.args.nodes.now) c.loop-i.i (omega (arith, count_nodes c.args.nodes.now))) ∙ c.loop-i.invariant
