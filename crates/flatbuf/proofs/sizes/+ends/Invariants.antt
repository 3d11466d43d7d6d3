use Rattle.std.proofs.Common.{◌≡◌, map, drop}
use Rattle.flatbuf.specs.Tree.{table, references}
use Rattle.flatbuf.specs.Ends.{end_at, ends_at, below_ends_at}
use Rattle.flatbuf.specs.View.{node_of, nodes_of, slot_before, slots_in}
use Rattle.flatbuf.proofs.sizes.+ends.Given as goal

abbrev pub invariant-table_end-loop-slot : goal.invariant-table_end-loop-slot
invariant-table_end-loop-slot l =
    below_ends_at l.end (slots_in (map slot_before (drop l.slot-index l.slots))) ≡ end_at l.cursor (table (slots_in (map slot_before l.slots)))

abbrev pub invariant-references_end-loop-node : goal.invariant-references_end-loop-node
invariant-references_end-loop-node l =
    ends_at l.end (nodes_of (map node_of (drop l.node-index l.nodes))) ≡ end_at l.cursor (references (nodes_of (map node_of l.nodes)))
