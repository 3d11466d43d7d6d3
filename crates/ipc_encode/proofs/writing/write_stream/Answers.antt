use Rattle.std.proofs.Common.{ℕ, List}
use Rattle.std.proofs.KnownBytes.{Appends-kept}
use Rattle.batch_build.specs.declared.batch.Buffer.{Buffer}
use Rattle.ipc_encode.specs.View.{joined_parts}
use Rattle.ipc_encode.specs.inner.Stream.{stream_in}
use Rattle.ipc_encode.proofs.Gathering.{all_gathered, gathers_more}
use Rattle.ipc_encode.proofs.writing.write_stream.Goals as goal

pub returns-clause-written : goal.returns-clause-written
unfolding stream_in
returns-clause-written g c =
    let contents = g.W.Write.contents in
    let first = contents c.args.writer.now in
    let last : List ℕ = c.args.stream.now.last.items in
    let parts : List Buffer = c.args.stream.now.parts.items in
    let was = rw c.deref.ensures.value at c.in_ok-put_parts.ensures.written in
    let now = rw c.deref-2.ensures.value at c.in_ok-put_part.ensures.written in
    let all = gathers_more first (contents c.put_parts.new.writer) (contents c.put_part.new.writer) c.args.gathered.now.items c.put_parts.new.gathered.items c.put_part.new.gathered.items
    (joined_parts parts) last was now in
    let written = all_gathered first (contents c.put_part.new.writer) (contents c.write_gathered.new.writer) c.args.gathered.now.items c.put_part.new.gathered.items
    (stream_in c.args.stream.now) all c.requires c.in_ok-write_gathered.ensures.written in
    Appends-kept first (contents c.write_gathered.new.writer) (contents c.flush.new.self) (stream_in c.args.stream.now) written c.in_ok-flush.ensures.bytes
