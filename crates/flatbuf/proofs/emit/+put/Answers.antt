use Rattle.std.proofs.Common.{◌≡◌, ◌+◌, ◌≤◌, ◌++◌, ◌∙◌, ℕ, List, map, drop, length, append-nil, sym, arith, rules}
use Rattle.std.proofs.lemmas.List.{drop_all}
use Rattle.flatbuf.specs.declared.nodes.Node.{Node}
use Rattle.flatbuf.specs.declared.nodes.Slot.{Slot}
use Rattle.flatbuf.specs.Laid.{laid_all, laid_slots}
use Rattle.flatbuf.specs.declared.nodes.Node.{the_lemmas}
use Rattle.flatbuf.specs.View.{node_of, nodes_of, slot_before, slots_in}
use Rattle.facts.specs.laws.Lists.{drop-item}
use Rattle.flatbuf.proofs.Cases.{node_fits, slot_fits, fits_split}
use Rattle.flatbuf.proofs.Puts.{below_kept, ends_kept, slot_put, node_put}
use Rattle.flatbuf.proofs.emit.+put.Goals as goal

-- nothing is left after the last node or slot
all_nodes_put : (out whole : List ℕ) (ns : List Node) (i : ℕ) → length ns ≤ i → out ++ laid_all (length out) (nodes_of (map node_of (drop i ns))) ≡ whole → out ≡ whole
unfolding laid_all
all_nodes_put out whole ns i past kept = sym (append-nil out) ∙ (rw (drop_all i ns past) at kept)

all_slots_put : (out whole : List ℕ) (ss : List Slot) (i : ℕ) → length ss ≤ i → out ++ laid_slots (length out) (slots_in (map slot_before (drop i ss))) ≡ whole → out ≡ whole
unfolding laid_slots
all_slots_put out whole ss i past kept = sym (append-nil out) ∙ (rw (drop_all i ss past) at kept)

pub put_references-returns : goal.put_references-returns
put_references-returns t c = all_nodes_put c.loop-node.out.items _ c.args.nodes.now c.loop-node.node-index (omega arith) c.loop-node.invariant.bytes

pub put_table-returns : goal.put_table-returns
put_table-returns t c = all_slots_put c.loop-slot.out.items _ c.args.slots.now c.loop-slot.slot-index (omega arith) c.loop-slot.invariant.bytes

pub put_references-put-requires : goal.put_references-put-requires
put_references-put-requires t c =
    let ns = c.args.nodes.now in
    let i = c.loop-node.node-index in
    let rest = nodes_of (map node_of (drop i ns)) in
    let fits = rw (drop-item ns i c.node-item.result (omega arith) c.node-item.is) at c.loop-node.invariant.fits in (
      search (rules, the_lemmas),
      (
        fits.0,
        omega (
          arith,
          node_fits ns i c.node-item.result (length c.loop-node.out.items) (omega arith) c.node-item.is,
          ends_kept c.args.out.now.items c.loop-node.out.items rest (nodes_of (map node_of ns)) c.loop-node.invariant.bytes,
          c.requires.small,
        ),
      ),
    )

pub put_references-loop-node-preserved : goal.put_references-loop-node-preserved
put_references-loop-node-preserved t c =
    let ns = c.args.nodes.now in
    let i = c.loop-node.node-index in
    let fits = rw (drop-item ns i c.node-item.result (omega arith) c.node-item.is) at c.loop-node.invariant.fits in
    record {
      bytes = node_put c.loop-node.out.items c.put.new.out.items _ i ns c.node-item.result (omega arith) c.node-item.is c.in_ok-put.ensures c.loop-node.invariant.bytes;
      fits = fits.1;
    }

pub put_table-put_below-requires : goal.put_table-put_below-requires
put_table-put_below-requires t c =
    let ss = c.args.slots.now in
    let i = c.loop-slot.slot-index in
    let rest = slots_in (map slot_before (drop i ss)) in
    let fits = rw (drop-item ss i c.slot-item.result (omega arith) c.slot-item.is) at c.loop-slot.invariant.fits in (
      search (rules, the_lemmas),
      (
        (fits_split c.slot-item.result (slots_in (map slot_before (drop (i + 1) ss))) fits).0,
        omega (
          arith,
          slot_fits ss i c.slot-item.result (length c.loop-slot.out.items) (omega arith) c.slot-item.is,
          below_kept c.args.out.now.items c.loop-slot.out.items rest (slots_in (map slot_before ss)) c.loop-slot.invariant.bytes,
          c.requires.small,
        ),
      ),
    )

pub put_table-loop-slot-preserved : goal.put_table-loop-slot-preserved
put_table-loop-slot-preserved t c =
    let ss = c.args.slots.now in
    let i = c.loop-slot.slot-index in
    let fits = rw (drop-item ss i c.slot-item.result (omega arith) c.slot-item.is) at c.loop-slot.invariant.fits in
    record {
      bytes = slot_put c.loop-slot.out.items c.put_below.new.out.items _ i ss c.slot-item.result (omega arith) c.slot-item.is c.in_ok-put_below.ensures c.loop-slot.invariant.bytes;
      fits = (fits_split c.slot-item.result (slots_in (map slot_before (drop (i + 1) ss))) fits).1;
    }
