use Rattle.ipc_stream.proofs.Stays.{reads_stay}
use Rattle.ipc_stream.proofs.decoder.feed_bytes.Goals as goal

pub read_on-requires : goal.read_on-requires
read_on-requires c =
    rw (c.deref.ensures.value, c.in_ok-extend_from_slice.ensures.items, c.take.ensures.value)
    (reads_stay c.args.bytes.now.items c.args.piece.now c.args.reading.now.number c.args.reading.now.start c.args.reading.now.front c.requires.read)
