use Rattle.std.proofs.Common.{Ok, Err}
use Rattle.tables.specs.Commands.{append_stream}
use Rattle.store.proofs.Replied.{stream_answers}
use Rattle.store.proofs.running.append_in.Goals as goal

pub returns-in-Ok : goal.returns-in-Ok
returns-in-Ok g c =
    let D = g.D.SectorDevice in
    let e = c.in-Ok.ensures in
    stream_answers D.size D.story D.failed D.tells (g.R.Read.remaining c.args.reader) (append_stream c.args.name.now) c.args.store c.append_from.new.self (Ok tt) e.takes e.size e.count

pub returns : goal.returns
returns g c =
    let D = g.D.SectorDevice in
    let e = c.in-Err.ensures in
    stream_answers D.size D.story D.failed D.tells (g.R.Read.remaining c.args.reader) (append_stream c.args.name.now) c.args.store c.append_from.new.self (Err c.in-Err.refusal) e.takes e.size e.count
