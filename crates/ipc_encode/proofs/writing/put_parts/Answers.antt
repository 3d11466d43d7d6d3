use Rattle.std.proofs.Common.{[], append-nil, sym, take, take_all}
use Rattle.ipc_encode.specs.View.{joined_parts}
use Rattle.ipc_encode.proofs.BufferLemmas.{parts_taken}
use Rattle.ipc_encode.proofs.Gathering.{gathers_more, only_gathered}
use Rattle.ipc_encode.proofs.writing.put_parts.Goals as goal

pub loop-part-init : goal.loop-part-init
loop-part-init g c =
    only_gathered (g.W.Write.contents c.args.writer.now) c.args.gathered.now.items c.args.gathered.now.items [] (sym (append-nil c.args.gathered.now.items))

pub loop-part-preserved : goal.loop-part-preserved
loop-part-preserved g c =
    let contents = g.W.Write.contents in
    let i = c.loop-part.part-index in
    let bytes = c.bytes.result.now in
    let more = gathers_more (contents c.args.writer.now) (contents c.loop-part.writer) (contents c.put_part.new.writer) c.args.gathered.now.items c.loop-part.gathered.items c.put_part.new.gathered.items
    (joined_parts (take i c.args.parts.now)) bytes c.loop-part.invariant c.in_ok-put_part.ensures.written in
    rw (parts_taken c.args.parts.now i c.part-item.result bytes c.loop-part-test.true c.part-item.is c.bytes.ensures) more

pub returns-clause-written : goal.returns-clause-written
returns-clause-written g c = rw (take_all c.loop-part.part-index c.args.parts.now c.loop-part-test.false) at c.loop-part.invariant
