use Rattle.std.proofs.Common.{◌-◌, ap, length, arith}
use Rattle.flatbuf.specs.View.{node_of}
use Rattle.flatbuf.proofs.Cases.{node_fits, node_ends}
use Rattle.flatbuf.proofs.Ends.{start_le, end_le}
use Rattle.flatbuf.proofs.Puts.{links_put, length_more}
use Rattle.flatbuf.proofs.emit.put_links.Goals as goal

pub start_of-requires : goal.start_of-requires
start_of-requires c = record {
  small = omega (arith, start_le c.loop-node.cursor (node_of c.node-item.result), node_fits c.args.nodes.now c.loop-node.node-index c.node-item.result c.loop-node.cursor (omega arith) c.node-item.is, c.loop-node.invariant.end);
}

pub overflow_cast-distance : goal.overflow_cast-distance
overflow_cast-distance c =
    omega (arith, c.start_of.ensures, start_le c.loop-node.cursor (node_of c.node-item.result), node_fits c.args.nodes.now c.loop-node.node-index c.node-item.result c.loop-node.cursor (omega arith) c.node-item.is, c.loop-node.invariant.end)

pub end_of-cursor-requires : goal.end_of-cursor-requires
end_of-cursor-requires c = record {
  small = omega (arith, node_fits c.args.nodes.now c.loop-node.node-index c.node-item.result c.loop-node.cursor (omega arith) c.node-item.is, c.loop-node.invariant.end);
}

pub loop-node-preserved : goal.loop-node-preserved
loop-node-preserved c = record {
  bytes = links_put c.loop-node.out.items _ _ (c.start_of.result - c.len.result) c.loop-node.cursor _ c.loop-node.node-index c.args.nodes.now c.node-item.result (omega arith) c.node-item.is (rw c.to_le_bytes.ensures at c.in_ok-extend_from_slice.ensures.items) (omega (arith, c.start_of.ensures, c.len.ensures)) c.end_of-cursor.ensures c.loop-node.invariant.bytes;
  end = node_ends c.args.nodes.now c.loop-node.node-index c.node-item.result c.loop-node.cursor _ _ (omega arith) c.node-item.is c.end_of-cursor.ensures c.loop-node.invariant.end;
  len = omega (arith, length_more c.loop-node.out.items c.extend_from_slice.new.self.items c.to_le_bytes.result c.in_ok-extend_from_slice.ensures.items, ap length c.to_le_bytes.ensures, c.loop-node.invariant.len);
  low = omega (arith, c.end_of-cursor.ensures, end_le c.loop-node.cursor (node_of c.node-item.result), c.loop-node.invariant.low);
}
