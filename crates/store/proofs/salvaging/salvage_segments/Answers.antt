use Rattle.std.specs.Prelude.{get_or}
use Rattle.std.proofs.Common.{◌≡◌, List, [], ◌+◌, take, refl, sym, ap, ◌∙◌, subst, arith, take_all, length-take}
use Rattle.facts.specs.laws.Lists.{take-item}
use Rattle.sector_dev.specs.Disk.{now, shown_image}
use Rattle.catalogue.specs.declared.entry.Segment.{Segment}
use Rattle.commit.specs.Standing.{is_size}
use Rattle.arrow_schema.specs.Column.{PlainSchema}
use Rattle.arrow_schema.specs.Limits.{IsWithinLimits}
use Rattle.ipc_write.specs.Written.{schema_message}
use Rattle.store_runs.specs.Calls.{done, refused}
use Rattle.store.specs.Salvaging.{plain_left}
use Rattle.store.specs.declared.salvaging.LeftOut.{LeftOut}
use Rattle.store.specs.inner.Salvaging.{SalvagesEach}
use Rattle.store_changes.specs.laws.ReadTables.{no_segment, at_place, placed_at, sound_at, reads_more, reads_none, image_then}
use Rattle.store.proofs.Salvaged.{each_first, each_more}
use Rattle.store.proofs.salvaging.salvage_segments.Goals as goal

pub salvage_segment-requires-clause-size : goal.salvage_segment-requires-clause-size
salvage_segment-requires-clause-size g c = ap is_size c.loop-place.invariant.reads.same ∙ c.requires.size

pub salvage_segment-requires-clause-placed : goal.salvage_segment-requires-clause-placed
salvage_segment-requires-clause-placed g c =
    let D = g.D.SectorDevice in
    placed_at c.args.segments.now c.loop-place.place c.loop-place-test.true (D.size c.args.device.now) (D.size c.loop-place.device) c.loop-place.invariant.reads.same c.requires.placed

pub salvage_segment-requires-clause-sound : goal.salvage_segment-requires-clause-sound
salvage_segment-requires-clause-sound g c = sound_at c.args.segments.now c.loop-place.place c.loop-place-test.true c.requires.sound

pub loop-place-init : goal.loop-place-init
loop-place-init g c =
    let D = g.D.SectorDevice in
    record {
      reads = reads_none D.size D.story D.failed D.tells c.args.device.now;
      salvaged =
          let start = shown_image (now (D.story c.args.device.now)) in
          let written = g.W.Write.contents c.args.writer.now in
          λ s within message. subst (λ (ls : List LeftOut). SalvagesEach D.tells start s [] written written (plain_left ls)) (sym c.new-left_out.ensures.items) (each_first D.tells start s written);
    }

pub loop-place-preserved : goal.loop-place-preserved
loop-place-preserved g c =
    let D = g.D.SectorDevice in
    let W = g.W.Write in
    let segments = c.args.segments.now in
    let place = c.loop-place.place in
    let segment = get_or segments place no_segment in
    let before = D.story c.args.device.now in
    let mid = D.story c.loop-place.device in
    record {
      reads = reads_more D.size D.story D.failed D.tells done c.args.device.now c.loop-place.device c.salvage_segment.new.device c.loop-place.invariant.reads c.in-Ok.ensures.reads;
      salvaged =
          λ s within message. each_more D.tells (shown_image (now before)) (shown_image (now mid)) s (take place segments) (take (place + 1) segments) segment place
          (W.contents c.args.writer.now) (W.contents c.loop-place.writer) (W.contents c.salvage_segment.new.writer) (plain_left c.loop-place.left_out.items) (plain_left c.salvage_segment.new.left_out.items)
          (λ told. image_then before mid (c.loop-place.invariant.reads.moments told))
          (take-item segments place segment c.loop-place-test.true (at_place segments place c.loop-place-test.true segment refl)) (omega (arith, length-take place segments, c.loop-place-test.true)) (c.loop-place.invariant.salvaged s within message) (c.in-Ok.ensures.salvaged s within message);
    }

pub returns-in-Err-clause-reads : goal.returns-in-Err-clause-reads
returns-in-Err-clause-reads g c =
    let D = g.D.SectorDevice in
    reads_more D.size D.story D.failed D.tells (refused c.in-Err.refusal) c.args.device.now c.loop-place.device c.salvage_segment.new.device c.loop-place.invariant.reads c.in-Err.ensures.reads

pub returns-clause-reads : goal.returns-clause-reads
returns-clause-reads g c = c.loop-place.invariant.reads

pub returns-clause-salvaged : goal.returns-clause-salvaged
returns-clause-salvaged g c =
    let D = g.D.SectorDevice in
    let W = g.W.Write in
    subst (λ (gs : List Segment). (s : PlainSchema) → IsWithinLimits s → c.args.front.now ≡ schema_message s → SalvagesEach D.tells (shown_image (now (D.story c.args.device.now))) s gs (W.contents c.args.writer.now) (W.contents c.loop-place.writer) (plain_left c.loop-place.left_out.items))
    (take_all c.loop-place.place c.args.segments.now (omega (arith, c.loop-place-test.false))) c.loop-place.invariant.salvaged
