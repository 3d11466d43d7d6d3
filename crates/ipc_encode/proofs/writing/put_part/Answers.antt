use Rattle.std.proofs.lemmas.Result.{on_ok_weaker}
use Rattle.ipc_encode.proofs.Gathering.{written_all}
use Rattle.ipc_encode.proofs.writing.put_part.Goals as goal

pub returns-then-bytes-ge-LEAST_ALONE-clause-written : goal.returns-then-bytes-ge-LEAST_ALONE-clause-written
returns-then-bytes-ge-LEAST_ALONE-clause-written g c =
    let contents = g.W.Write.contents in
    let gathered = c.in_ok-write_gathered.ensures in
    on_ok_weaker c.write_part.result
    (λ last. written_all (contents c.args.writer.now) (contents c.write_gathered.new.writer) (contents c.write_part.new.writer) c.args.gathered.now.items c.write_gathered.new.gathered.items
    c.args.bytes.now gathered.written last gathered.none)
    c.write_part.ensures.written
