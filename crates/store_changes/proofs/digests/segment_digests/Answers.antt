use Rattle.std.specs.Prelude.{get_or}
use Rattle.std.proofs.Common.{◌≡◌, ℕ, true, [], List, Result, Err, refl, ap, ◌∙◌, subst, arith, take_all}
use Rattle.sector_dev.specs.Disk.{now, shown_image}
use Rattle.catalogue.specs.declared.entry.Segment.{Segment}
use Rattle.commit.specs.Standing.{is_size}
use Rattle.tables.specs.declared.refusal.Refusal.{Refusal}
use Rattle.tables.specs.declared.refusal.Refusal.TheVariants as refusals
use Rattle.store_runs.specs.Calls.{done, refused}
use Rattle.store_changes.specs.inner.Digesting.{DigestsRows}
use Rattle.store_changes.specs.laws.ReadTables.{no_segment, at_place, placed_at, sound_at, unreads_step, reads_more, reads_none, reads_ended, image_then}
use Rattle.store_changes.specs.laws.ReadRows.{no_rows, reads_none_of, reads_step}
use Rattle.store_changes.proofs.Digesting.{digested_step}
use Rattle.store_changes.proofs.digests.segment_digests.Goals as goal

-- memory was refused
abbrev no_memory : Result ℕ Refusal
no_memory = Err refusals.OutOfMemory

pub loop-place-init : goal.loop-place-init
loop-place-init g c =
    let D = g.D.SectorDevice in
    let image = shown_image (now (D.story c.args.device.now)) in
    record {
      reads = reads_none D.size D.story D.failed D.tells c.args.device.now;
      light = omega arith;
      digested = λ s within message. ([], reads_none_of D.tells image s (no_rows s within), refl, (refl, c.new-digests.ensures.items));
    }

-- ---- what is asked of the segment at a place

pub digest_next-requires-clause-size : goal.digest_next-requires-clause-size
digest_next-requires-clause-size g c = ap is_size c.loop-place.invariant.reads.same ∙ c.requires.size

pub digest_next-requires-clause-placed : goal.digest_next-requires-clause-placed
digest_next-requires-clause-placed g c =
    let D = g.D.SectorDevice in
    placed_at c.args.segments.now c.loop-place.place c.loop-place-test.true (D.size c.args.device.now) (D.size c.loop-place.device) c.loop-place.invariant.reads.same c.requires.placed

pub digest_next-requires-clause-sound : goal.digest_next-requires-clause-sound
digest_next-requires-clause-sound g c = sound_at c.args.segments.now c.loop-place.place c.loop-place-test.true c.requires.sound

-- ---- one segment more

pub loop-place-preserved : goal.loop-place-preserved
loop-place-preserved g c =
    let D = g.D.SectorDevice in
    let segments = c.args.segments.now in
    let place = c.loop-place.place in
    let segment = get_or segments place no_segment in
    let inside = c.loop-place-test.true in
    let at = at_place segments place inside segment refl in
    let before = D.story c.args.device.now in
    let mid = D.story c.loop-place.device in
    let image = shown_image (now before) in
    let other = shown_image (now mid) in
    let same : D.tells ≡ true → other ≡ image = λ told. image_then before mid (c.loop-place.invariant.reads.moments told) in
    record {
      reads = reads_more D.size D.story D.failed D.tells done c.args.device.now c.loop-place.device c.digest_next.new.device c.loop-place.invariant.reads c.in-Ok.ensures.reads;
      light = c.in-Ok.ensures.light;
      digested = λ s within message.
          let so_far = c.loop-place.invariant.digested s within message in
          let next = c.in-Ok.ensures.digested s so_far.0 message so_far.1.kept so_far.2 in (
            next.0,
            reads_step D.tells image other same s segments place segment inside at so_far.0 next.0 so_far.1 next.1,
            next.2,
            digested_step D.tells image other same s segments place segment inside at so_far.0 next.0 c.loop-place.digests.items c.push.new.self.items
                c.in-Ok.next.digest so_far.3 next.1 next.3 c.in-Ok-push.ensures.items,
          );
    }

pub returns-in-Err-clause-reads : goal.returns-in-Err-clause-reads
returns-in-Err-clause-reads g c =
    let D = g.D.SectorDevice in
    reads_more D.size D.story D.failed D.tells (refused c.in-Err.refusal) c.args.device.now c.loop-place.device c.digest_next.new.device c.loop-place.invariant.reads c.in-Err.ensures.reads

pub returns-in-Err-clause-unread : goal.returns-in-Err-clause-unread
returns-in-Err-clause-unread g c = λ s name page within message.
    let D = g.D.SectorDevice in
    let segments = c.args.segments.now in
    let place = c.loop-place.place in
    let segment = get_or segments place no_segment in
    let inside = c.loop-place-test.true in
    let so_far = c.loop-place.invariant.digested s within message in
    let before = D.story c.args.device.now in
    let mid = D.story c.loop-place.device in
    unreads_step D.tells (shown_image (now before)) (shown_image (now mid)) (record { name = name; schema = s; segments = segments; page = page }) s so_far.0 segment place c.in-Err.refusal refl
    (λ told. image_then before mid (c.loop-place.invariant.reads.moments told)) inside (at_place segments place inside segment refl) so_far.1.kept.weight so_far.1.held (c.in-Err.ensures.unread s so_far.0 within message so_far.2)

-- ---- all were read

pub returns-clause-reads : goal.returns-clause-reads
returns-clause-reads g c = c.loop-place.invariant.reads

pub returns-clause-found : goal.returns-clause-found
returns-clause-found g c = λ s within message.
    let D = g.D.SectorDevice in
    let image = shown_image (now (D.story c.args.device.now)) in (
      c.loop-place.weight,
      subst (λ (gs : List Segment). DigestsRows D.tells image s gs c.loop-place.weight c.loop-place.digests.items)
          (take_all c.loop-place.place c.args.segments.now (omega (arith, c.loop-place-test.false))) (c.loop-place.invariant.digested s within message),
    )

-- ---- memory for a digest is refused

pub returns-in-Err-push-clause-reads : goal.returns-in-Err-push-clause-reads
returns-in-Err-push-clause-reads g c =
    let D = g.D.SectorDevice in
    reads_ended D.size D.story D.failed D.tells no_memory c.args.device.now c.digest_next.new.device refl
    (reads_more D.size D.story D.failed D.tells done c.args.device.now c.loop-place.device c.digest_next.new.device c.loop-place.invariant.reads c.in-Ok.ensures.reads)

pub returns-in-Err-push-clause-unread : goal.returns-in-Err-push-clause-unread
returns-in-Err-push-clause-unread g c = λ s name page within message. tt
