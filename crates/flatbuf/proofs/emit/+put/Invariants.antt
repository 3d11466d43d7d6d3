use Rattle.std.proofs.Common.{◌≡◌, ◌++◌, drop, map, length}
use Rattle.flatbuf.specs.Tree.{table, references}
use Rattle.flatbuf.specs.Laid.{laid, laid_all, laid_slots}
use Rattle.flatbuf.specs.Held.{FitsSlots, FitsAll}
use Rattle.flatbuf.specs.View.{node_of, nodes_of, slot_before, slots_in}
use Rattle.flatbuf.proofs.emit.+put.Given as goal

abbrev pub invariant-put_table-loop-slot : goal.invariant-put_table-loop-slot
invariant-put_table-loop-slot l = record {
  bytes : l.out.items ++ laid_slots (length l.out.items) (slots_in (map slot_before (drop l.slot-index l.slots)))
      ≡ l.fn.out.items ++ laid (length l.fn.out.items) (table (slots_in (map slot_before l.slots)));
  fits : FitsSlots (slots_in (map slot_before (drop l.slot-index l.slots)));
}

abbrev pub invariant-put_references-loop-node : goal.invariant-put_references-loop-node
invariant-put_references-loop-node l = record {
  bytes : l.out.items ++ laid_all (length l.out.items) (nodes_of (map node_of (drop l.node-index l.nodes)))
      ≡ l.fn.out.items ++ laid (length l.fn.out.items) (references (nodes_of (map node_of l.nodes)));
  fits : FitsAll (nodes_of (map node_of (drop l.node-index l.nodes)));
}
