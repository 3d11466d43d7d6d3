use Rattle.std.proofs.Common.{◌∙◌, ◌+◌, List, map, drop, sym, arith, rules}
use Rattle.std.proofs.lemmas.List.{at_drop_all}
use Rattle.flatbuf.specs.declared.nodes.Slot.{Slot}
use Rattle.flatbuf.specs.Ends.{ends_at, below_ends_at}
use Rattle.facts.specs.laws.Lists.{drop-item}
use Rattle.flatbuf.specs.declared.nodes.Node.{Node, the_lemmas}
use Rattle.flatbuf.specs.View.{node_of, nodes_of, slot_before, slots_in}
use Rattle.flatbuf.proofs.Cases.{node_fits, slot_fits, node_ends}
use Rattle.flatbuf.proofs.sizes.+ends.Goals as goal

pub references_end-end_of-end-requires : goal.references_end-end_of-end-requires
references_end-end_of-end-requires t c = (
  search (rules, the_lemmas),
  omega (arith, node_fits c.args.nodes.now c.loop-node.node-index c.node-item.result c.loop-node.end (omega arith) c.node-item.is, c.loop-node.invariant),
)

pub table_end-slot_end-end-requires : goal.table_end-slot_end-end-requires
table_end-slot_end-end-requires t c = (
  search (rules, the_lemmas),
  omega (arith, slot_fits c.args.slots.now c.loop-slot.slot-index c.slot-item.result c.loop-slot.end (omega arith) c.slot-item.is, c.loop-slot.invariant),
)

pub references_end-loop-node-preserved : goal.references_end-loop-node-preserved
references_end-loop-node-preserved t c =
    node_ends c.args.nodes.now c.loop-node.node-index c.node-item.result c.loop-node.end c.end_of-end.result _ (omega arith) c.node-item.is c.end_of-end.ensures c.loop-node.invariant

pub table_end-loop-slot-preserved : goal.table_end-loop-slot-preserved
table_end-loop-slot-preserved t c =
    let slots = c.args.slots.now in
    let i = c.loop-slot.slot-index in
    c.slot_end-end.ensures (slots_in (map slot_before (drop (i + 1) slots))) ∙ (rw (drop-item slots i c.slot-item.result (omega arith) c.slot-item.is) at c.loop-slot.invariant)

pub references_end-returns : goal.references_end-returns
references_end-returns t c =
    sym (at_drop_all (λ (ns : List Node). ends_at c.loop-node.end (nodes_of (map node_of ns))) c.args.nodes.now c.loop-node.node-index (omega arith)) ∙ c.loop-node.invariant

pub table_end-returns : goal.table_end-returns
table_end-returns t c =
    sym (at_drop_all (λ (ss : List Slot). below_ends_at c.loop-slot.end (slots_in (map slot_before ss))) c.args.slots.now c.loop-slot.slot-index (omega arith)) ∙ c.loop-slot.invariant
