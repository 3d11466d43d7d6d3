use Rattle.std.proofs.Common.{◌++◌, map}
use Rattle.table_archive.specs.Manifest.{plain_listed}
use Rattle.tables.specs.View.{command_of}
use Rattle.store_runs.specs.Calls.{done}
use Rattle.store.specs.Fits.{listed_in}
use Rattle.store.proofs.Sent.{reads_then, same_list}
use Rattle.store.proofs.Received.{parts_more, part_of_first, pushed_more}
use Rattle.store.proofs.store.Store.push_parts.Goals as goal

pub returns-in-Err-clause-reads : goal.returns-in-Err-clause-reads
returns-in-Err-clause-reads g c =
    let D = g.D.SectorDevice in
    reads_then D.size D.story D.failed D.tells _ c.args.self.now c.loop-table.self c.push_part.new.self
    c.loop-table.invariant.reads c.in-Err.ensures.reads

pub loop-table-preserved : goal.loop-table-preserved
loop-table-preserved g c =
    let D = g.D.SectorDevice in
    let first = c.args.self.now in
    let mid = c.loop-table.self in
    let tables = c.args.tables.now in
    let i = c.loop-table.table-index in
    let table = c.table-item.result in
    let was = c.loop-table.invariant in
    let one = c.in-Ok.ensures.pushed in
    let same = same_list D.size D.story D.failed D.tells first mid was.reads in
    record {
      reads = reads_then D.size D.story D.failed D.tells done first mid c.push_part.new.self was.reads c.in-Ok.ensures.reads;
      parts = was.parts ++ one.0;
      are =
          parts_more plain_listed (listed_in first) tables i table was.parts one.0 c.loop-table-test.true c.table-item.is was.are
          (part_of_first (listed_in mid) (listed_in first) same (plain_listed table) one.0 one.1);
      pushed =
          pushed_more (map command_of c.args.commands.now.items) (map command_of c.loop-table.commands.items) (map command_of c.push_part.new.commands.items)
          was.parts one.0 was.pushed one.2;
    }
