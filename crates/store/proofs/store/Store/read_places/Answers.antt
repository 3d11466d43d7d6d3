use Rattle.store_runs.specs.Calls.{done, refused}
use Rattle.store.proofs.Sent.{reads_then}
use Rattle.store.proofs.store.Store.read_places.Goals as goal

pub returns-in-Err : goal.returns-in-Err
returns-in-Err g c =
    let D = g.D.SectorDevice in
    record {
      reads =
          reads_then D.size D.story D.failed D.tells (refused c.in-Err.refusal) c.args.self.now c.loop-name.self c.read_table_places.new.self c.loop-name.invariant c.in-Err.ensures.reads;
    }

pub loop-name-preserved : goal.loop-name-preserved
loop-name-preserved g c =
    let D = g.D.SectorDevice in
    reads_then D.size D.story D.failed D.tells done c.args.self.now c.loop-name.self c.read_table_places.new.self c.loop-name.invariant c.in-Ok.ensures.reads
