use Rattle.std.proofs.Common.{Vec, Global, subst}
use Rattle.std.specs.Prelude.{Err}
use Rattle.tables.specs.declared.command.Command.{Command}
use Rattle.store_runs.specs.Calls.{PlainReply, done}
use Rattle.store.specs.Reading.{OnlyReadsStore}
use Rattle.store.specs.Receiving.{ended_receiving}
use Rattle.store.proofs.Received.{ended_alike}
use Rattle.store.proofs.Sent.{reads_then}
use Rattle.store.proofs.store.Store.commands_for.Goals as goal

pub returns-in-Ok-push_parts-clause-reads : goal.returns-in-Ok-push_parts-clause-reads
returns-in-Ok-push_parts-clause-reads g c =
    let D = g.D.SectorDevice in
    reads_then D.size D.story D.failed D.tells done c.args.self.now c.read_places.new.self c.push_parts.new.self c.in-Ok.ensures.reads
    c.in-Ok-push_parts.ensures.reads

pub returns-clause-reads : goal.returns-clause-reads
returns-clause-reads g c =
    let D = g.D.SectorDevice in
    let refusal = c.in-Err-push_parts.refusal in
    subst (λ (reply : PlainReply). OnlyReadsStore D.size D.story D.failed D.tells reply c.args.self.now c.push_parts.new.self) (ended_alike (Unit {0}) (Vec Command Global) refusal)
    (reads_then D.size D.story D.failed D.tells (ended_receiving {T = Unit {0}} (Err refusal)) c.args.self.now c.read_places.new.self c.push_parts.new.self
    c.in-Ok.ensures.reads c.in-Err-push_parts.ensures.reads)
