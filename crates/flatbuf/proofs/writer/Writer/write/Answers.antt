use Rattle.std.proofs.Common.{◌≡◌, ◌++◌, ◌∙◌, length, arith, ap}
use Rattle.byteorder.specs.Endian.{little_bytes}
use Rattle.byteorder.specs.Numbers.{length-bytes_low_first}
use Rattle.flatbuf.specs.Laid.{start, laid}
use Rattle.flatbuf.specs.View.{node_of}
use Rattle.flatbuf.proofs.Ends.{end_is, start_le, metadata_len}
use Rattle.flatbuf.proofs.Puts.{metadata_put, length_more}
use Rattle.flatbuf.proofs.writer.Writer.write.Goals as goal

pub end_of-end-requires : goal.end_of-end-requires
end_of-end-requires c = record { small = omega (arith, metadata_len (node_of c.args.root.now), c.requires.small) }

pub aligned-requires : goal.aligned-requires
aligned-requires c = record {
  positive = omega arith;
  small = omega (arith, c.end_of-end.ensures, metadata_len (node_of c.args.root.now), c.requires.small);
}

pub start_of-requires : goal.start_of-requires
start_of-requires c =
    let n = node_of c.args.root.now in
    record { small = omega (arith, start_le 4 n, metadata_len n, c.requires.small) }

pub overflow_cast-start_of : goal.overflow_cast-start_of
overflow_cast-start_of c =
    let n = node_of c.args.root.now in
    omega (arith, c.start_of.ensures, start_le 4 n, metadata_len n, c.requires.small)

pub pad-requires-clause-near : goal.pad-requires-clause-near
pad-requires-clause-near c = omega (arith, c.end_of-end.ensures, metadata_len (node_of c.args.root.now), c.requires.small)

pub pad-requires-clause-small : goal.pad-requires-clause-small
pad-requires-clause-small c =
    let n = node_of c.args.root.now in
    let a = c.extend_from_slice.new.self.items in
    let first : a ≡ little_bytes 4 (start 4 n) = rw (c.in_ok-out.ensures.items, c.to_le_bytes.ensures, c.start_of.ensures) at c.in_ok-extend_from_slice.ensures.items in
    let four : length a ≡ 4 = ap length first ∙ length-bytes_low_first 0 4 (start 4 n) in
    let laid_at : c.put.new.out.items ≡ a ++ laid 4 n = rw four at c.in_ok-put.ensures in
    omega (arith, length_more a c.put.new.out.items (laid 4 n) laid_at, four, end_is 4 n, metadata_len n, c.requires.small)

pub returns : goal.returns
returns c =
    let n = node_of c.args.root.now in
    let a = c.extend_from_slice.new.self.items in
    let first : a ≡ little_bytes 4 (start 4 n) = rw (c.in_ok-out.ensures.items, c.to_le_bytes.ensures, c.start_of.ensures) at c.in_ok-extend_from_slice.ensures.items in
    metadata_put a c.put.new.out.items c.pad.new.out.items c.end_of-end.result n first c.in_ok-put.ensures c.end_of-end.ensures c.in_ok-pad.ensures
