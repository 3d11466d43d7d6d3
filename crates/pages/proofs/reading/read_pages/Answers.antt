use Rattle.std.proofs.Common.{◌+◌, ◌-◌, ◌∙◌, ℕ, List, ap, sym, map, drop, length, arith}
use Rattle.sector_dev.specs.Disk.{now, shown_image}
use Rattle.sector_dev.specs.laws.Time.{read_on}
use Rattle.catalogue.specs.declared.entry.Segment.{Segment}
use Rattle.catalogue.specs.declared.limits.TheConstants.{MAX_SEGMENTS}
use Rattle.catalogue.specs.Entries.{plain_entry, plain_root}
use Rattle.pages.specs.Stored.{pages_shown}
use Rattle.pages.proofs.Behind.{behind, told_at, read_at, all_read}
use Rattle.pages.proofs.Gathered.{named_at, one_sound, one_formed, one_named, one_counted, all_sound}
use Rattle.pages.proofs.reading.read_pages.Goals as goal

pub returns-in-Err-clause-moments : goal.returns-in-Err-clause-moments
returns-in-Err-clause-moments g c = λ told. read_on _ _ _ (c.loop-root.invariant.moments told) (c.read_table.ensures.moments told)

pub returns-in-Err-clause-damaged : goal.returns-in-Err-clause-damaged
returns-in-Err-clause-damaged g c = λ told.
    let D = g.D.SectorDevice in
    let size = D.size c.args.device.now in
    let old = D.story c.args.device.now in
    told_at c.args.form size (D.size c.loop-root.device) old (D.story c.loop-root.device) c.loop-root.left c.args.roots.now c.loop-root.root-index _ c.loop-root.entries.items c.loop-root-test.true c.loop-root.invariant.same (c.loop-root.invariant.moments told)
    (pages_shown c.args.form size old MAX_SEGMENTS (map plain_root c.args.roots.now)) c.in-Err.error (c.loop-root.invariant.found told) (c.in-Err.ensures.damaged told)

pub returns-clause-found : goal.returns-clause-found
returns-clause-found g c = λ told.
    let D = g.D.SectorDevice in
    c.loop-root.invariant.found told
    ∙ all_read c.args.form (D.size c.args.device.now) (shown_image (now (D.story c.args.device.now))) c.loop-root.left c.args.roots.now c.loop-root.root-index c.loop-root.entries.items (omega (arith, c.loop-root-test.false))

pub returns-in-Err-push-clause-moments : goal.returns-in-Err-push-clause-moments
returns-in-Err-push-clause-moments g c = λ told. read_on _ _ _ (c.loop-root.invariant.moments told) (c.read_table.ensures.moments told)

pub loop-root-preserved : goal.loop-root-preserved
loop-root-preserved g c =
    let D = g.D.SectorDevice in
    let size = D.size c.args.device.now in
    let old = D.story c.args.device.now in
    let i = c.loop-root.root-index in
    let count = sym (ap (λ (ss : List Segment). length ss) c.segments.ensures) in
    record {
      same = c.read_table.ensures.size ∙ c.loop-root.invariant.same;
      count = c.in-Ok.ensures.count ∙ c.loop-root.invariant.count;
      moments = λ told. read_on _ _ _ (c.loop-root.invariant.moments told) (c.read_table.ensures.moments told);
      found = λ told. c.loop-root.invariant.found told
          ∙ read_at c.args.form size (D.size c.loop-root.device) old (D.story c.loop-root.device) c.loop-root.left c.args.roots.now i _ c.loop-root.entries.items c.loop-root-test.true c.loop-root.invariant.same (c.loop-root.invariant.moments told)
          c.push.new.self.items c.in-Ok.entry c.in-Ok.ensures.entry (c.in-Ok.ensures.found told) c.in-Ok-push.ensures.items
          ∙ ap (λ (n : ℕ). behind (map plain_entry c.push.new.self.items) (pages_shown c.args.form size old (c.loop-root.left - n) (map plain_root (drop (i + 1) c.args.roots.now)))) count;
      entries = one_sound c.loop-root.entries.items c.push.new.self.items c.in-Ok.entry c.in-Ok-push.ensures.items c.loop-root.invariant.entries
          (c.in-Ok.ensures.sound (named_at c.args.roots.now i _ c.requires.root.named c.loop-root-test.true));
      names = one_named c.args.roots.now i _ c.loop-root.entries.items c.push.new.self.items c.in-Ok.entry c.loop-root-test.true c.in-Ok-push.ensures.items c.in-Ok.ensures.entry c.loop-root.invariant.names;
      few = one_counted c.loop-root.entries.items c.push.new.self.items c.in-Ok.entry c.loop-root.left (length c.segments.result.now) c.in-Ok-push.ensures.items count c.in-Ok.ensures.few c.loop-root.invariant.few;
      form = one_formed c.args.form c.loop-root.entries.items c.push.new.self.items c.in-Ok.entry c.in-Ok-push.ensures.items c.loop-root.invariant.form c.in-Ok.ensures.form;
    }

pub returns-clause-sound : goal.returns-clause-sound
returns-clause-sound g c = all_sound c.args.roots.now c.loop-root.root-index c.loop-root.entries.items c.loop-root.left (omega (arith, c.loop-root-test.false)) c.requires.root c.loop-root.invariant.entries c.loop-root.invariant.names c.loop-root.invariant.few
