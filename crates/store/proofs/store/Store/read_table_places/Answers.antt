use Rattle.store_runs.specs.Calls.{done, refused}
use Rattle.store.proofs.Sent.{reads_then}
use Rattle.store.proofs.store.Store.read_table_places.Goals as goal

pub returns-in-Err : goal.returns-in-Err
returns-in-Err g c =
    let D = g.D.SectorDevice in
    record {
      reads =
          reads_then D.size D.story D.failed D.tells (refused c.in-Err.refusal) c.args.self.now c.loop-found.self c.read_place.new.self c.loop-found.invariant c.in-Err.ensures.reads;
    }

pub loop-found-preserved : goal.loop-found-preserved
loop-found-preserved g c =
    let D = g.D.SectorDevice in
    reads_then D.size D.story D.failed D.tells done c.args.self.now c.loop-found.self c.read_place.new.self c.loop-found.invariant c.in-Ok.ensures.reads
