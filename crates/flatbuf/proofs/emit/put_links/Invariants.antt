use Rattle.std.proofs.Common.{◌≡◌, ◌≤◌, ◌+◌, ◌*◌, ◌++◌, drop, map, length}
use Rattle.flatbuf.specs.Laid.{links, starts}
use Rattle.flatbuf.specs.Ends.{ends_at}
use Rattle.flatbuf.specs.View.{node_of, nodes_of}
use Rattle.flatbuf.proofs.emit.put_links.Given as goal

abbrev pub invariant-loop-node : goal.invariant-loop-node
invariant-loop-node l = record {
  bytes : l.out.items ++ links (length l.out.items) (starts l.cursor (nodes_of (map node_of (drop l.node-index l.nodes))))
      ≡ l.initial.out.items ++ links (length l.initial.out.items) (starts l.below (nodes_of (map node_of l.nodes)));
  end : ends_at l.cursor (nodes_of (map node_of (drop l.node-index l.nodes))) ≡ ends_at l.below (nodes_of (map node_of l.nodes));
  len : length l.out.items ≡ length l.initial.out.items + 4 * l.node-index;
  low : l.below ≤ l.cursor;
}
