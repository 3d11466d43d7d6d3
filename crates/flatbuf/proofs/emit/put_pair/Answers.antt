use Rattle.std.proofs.Common.{append_assoc}
use Rattle.byteorder.specs.Endian.{little_bytes}
use Rattle.flatbuf.proofs.emit.put_pair.Goals as goal

pub returns : goal.returns
returns c =
    let first = rw c.to_le_bytes.ensures at c.in_ok-extend_from_slice.ensures.items in
    let second = rw c.to_le_bytes-2.ensures at c.in_ok-extend_from_slice-2.ensures.items in
    rw (second, first) (append_assoc c.args.out.now.items (little_bytes 8 c.args.pair.now.0) (little_bytes 8 c.args.pair.now.1))
