use Rattle.std.proofs.Common.{◌≡◌, ◌+◌, ◌*◌, map, length, arith, sym, ap}
use Rattle.flatbuf.specs.Tree.{references}
use Rattle.flatbuf.specs.Laid.{gap, count_of}
use Rattle.flatbuf.specs.Ends.{ends_at}
use Rattle.flatbuf.specs.View.{node_of, nodes_of}
use Rattle.flatbuf.proofs.Cases.{count_nodes}
use Rattle.flatbuf.proofs.Ends.{end_le, ends_le}
use Rattle.flatbuf.proofs.Puts.{vector_put, length_more, length_gap}
use Rattle.flatbuf.proofs.emit.put_vector.Goals as goal

pub pad-requires-clause-near : goal.pad-requires-clause-near
pad-requires-clause-near c =
    omega (arith, c.len.ensures, c.requires.small, end_le (length c.args.out.now.items) (references (nodes_of (map node_of c.args.nodes.now))))

pub pad-requires-clause-small : goal.pad-requires-clause-small
pad-requires-clause-small c =
    omega (arith, c.requires.small, end_le (length c.args.out.now.items) (references (nodes_of (map node_of c.args.nodes.now))))

pub overflow_cast-nodes : goal.overflow_cast-nodes
overflow_cast-nodes c =
    let ns = nodes_of (map node_of c.args.nodes.now) in
    let old = length c.args.out.now.items in
    omega (arith, c.requires.small, count_nodes c.args.nodes.now, ends_le (old + gap 4 old + 4 + 4 * count_of ns) ns)

pub put_links-requires-clause-small : goal.put_links-requires-clause-small
put_links-requires-clause-small c =
    let ns = nodes_of (map node_of c.args.nodes.now) in
    let old = length c.args.out.now.items in
    let here : c.len.result ≡ old = omega (arith, c.len.ensures) in
    let first : c.len-2.result + 4 * length c.args.nodes.now ≡ old + gap 4 old + 4 + 4 * count_of ns = omega (
      arith,
      c.len-2.ensures,
      length_gap c.args.out.now.items c.pad.new.out.items 4 old (rw here at c.in_ok-pad.ensures),
      length_more c.pad.new.out.items c.extend_from_slice.new.self.items _ c.in_ok-extend_from_slice.ensures.items,
      ap length c.to_le_bytes.ensures,
      count_nodes c.args.nodes.now,
    ) in
    let same : ends_at (c.len-2.result + 4 * length c.args.nodes.now) ns ≡ ends_at (old + gap 4 old + 4 + 4 * count_of ns) ns = ap (λ k. ends_at k ns) first in
    omega (arith, same, c.requires.small)

pub returns : goal.returns
returns c =
    let ns = nodes_of (map node_of c.args.nodes.now) in
    let old = length c.args.out.now.items in
    let here : c.len.result ≡ old = omega (arith, c.len.ensures) in
    let next : c.len-2.result ≡ length c.extend_from_slice.new.self.items = omega (arith, c.len-2.ensures) in
    vector_put c.args.out.now.items c.pad.new.out.items c.extend_from_slice.new.self.items c.put_links.new.out.items _ (length c.args.nodes.now) ns
    (rw here at c.in_ok-pad.ensures)
    (sym (count_nodes c.args.nodes.now))
    (rw c.to_le_bytes.ensures at c.in_ok-extend_from_slice.ensures.items)
    (omega (arith, next))
    c.in_ok-put_links.ensures
