use Rattle.std.proofs.Common.{rules, ◌≡◌, map, sym, ap, ◌∙◌}
use Rattle.arrow_schema.specs.View.{pair_of}
use Rattle.flatbuf.specs.declared.nodes.Node.{the_lemmas as node_lemmas, Table, References}
use Rattle.flatbuf.specs.declared.nodes.Slot.{the_lemmas as slot_lemmas, Refers}
use Rattle.flatbuf.specs.Tree.{table, references, no_slot, refers}
use Rattle.flatbuf.specs.View.{node_of, nodes_of, slot_before, slots_in}
use Rattle.ipc_write.proofs.TreeSteps.{without_pairs, with_pairs}
use Rattle.ipc_write.proofs.trees.table_with_pairs.Goals as goal

pub returns-then-is_empty : goal.returns-then-is_empty
returns-then-is_empty c =
    let built : node_of (Table c.args.slots) ≡ table (slots_in (map slot_before c.args.slots.items)) = search (rules, node_lemmas) in
    built ∙ ap table (without_pairs pair_of c.args.pairs.now (map slot_before c.args.slots.items) (sym c.is_empty.ensures ∙ c.if-is_empty.true))

pub returns : goal.returns
returns c =
    let built : node_of (Table c.push.new.self) ≡ table (slots_in (map slot_before c.push.new.self.items)) = search (rules, node_lemmas) in
    let last : slot_before (Refers (References c.in_ok-nodes.nodes)) no_slot ≡ refers (references (nodes_of (map node_of c.in_ok-nodes.nodes.items))) no_slot = search (rules, node_lemmas, slot_lemmas) in
    built ∙ ap table (with_pairs pair_of c.args.pairs.now c.args.slots.items c.push.new.self.items (Refers (References c.in_ok-nodes.nodes)) (map node_of c.in_ok-nodes.nodes.items)
    (sym c.is_empty.ensures ∙ c.if-is_empty.false) c.in_ok-push.ensures.items last c.in_ok-nodes.ensures)
