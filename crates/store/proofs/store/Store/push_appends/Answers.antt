use Rattle.std.proofs.Common.{◌∙◌, ◌++◌, ◌∷◌, [], List, map, ap}
use Rattle.std.proofs.lemmas.List.{get_or_default}
use Rattle.tables.specs.Commands.{PlainCommand, append_stream}
use Rattle.tables.specs.View.{command_of}
use Rattle.store_runs.specs.Calls.{done}
use Rattle.store.proofs.Sent.{reads_then}
use Rattle.store.proofs.Received.{streams_more, pushed_more, appends_more}
use Rattle.store.proofs.store.Store.push_appends.Goals as goal

pub returns-in-Err-clause-reads : goal.returns-in-Err-clause-reads
returns-in-Err-clause-reads g c =
    let D = g.D.SectorDevice in
    reads_then D.size D.story D.failed D.tells _ c.args.self.now c.loop-listed.self c.push_append.new.self
    c.loop-listed.invariant.reads c.in-Err.ensures.reads

pub loop-listed-preserved : goal.loop-listed-preserved
loop-listed-preserved g c =
    let D = g.D.SectorDevice in
    let segments = c.args.segments.now in
    let i = c.loop-listed.listed-index in
    let was = c.loop-listed.invariant in
    let one = c.in-Ok.ensures.pushed in
    let name = c.args.name.now in
    let before = map command_of c.args.commands.now.items in
    record {
      reads = reads_then D.size D.story D.failed D.tells done c.args.self.now c.loop-listed.self c.push_append.new.self was.reads c.in-Ok.ensures.reads;
      streams = was.streams ++ one.0 ∷ [];
      are = streams_more segments i _ was.streams one.0 c.loop-listed-test.true (get_or_default segments i _ _ c.loop-listed-test.true) was.are one.1;
      pushed =
          pushed_more before (map command_of c.loop-listed.commands.items) (map command_of c.push_append.new.commands.items)
          (map (append_stream name) was.streams) (append_stream name one.0 ∷ []) was.pushed one.2
          ∙ ap (λ (cs : List PlainCommand). before ++ cs) (appends_more name was.streams one.0);
    }
