use Rattle.std.proofs.Common.{rules, refl, sym, map, subst}
use Rattle.sector_dev.specs.Disk.{now, shown_image}
use Rattle.catalogue.specs.Entries.{is_entry, plain_entry}
use Rattle.catalogue.specs.View.{catalogue_of}
use Rattle.catalogue.specs.laws.Changed.{found_passes}
use Rattle.tables.specs.declared.refusal.Refusal.{Refusal}
use Rattle.tables.specs.declared.refusal.Refusal.TheVariants as refusals
use Rattle.store_runs.specs.Calls.{refused}
use Rattle.store_runs.specs.Reading.{Unreads}
use Rattle.store_changes.specs.Draft.{laid, streams_of}
use Rattle.store_changes.specs.Source.{disk_laid}
use Rattle.store_changes.specs.laws.Lines.{drafted_readable}
use Rattle.store_changes.specs.laws.ReadTables.{reads_quiet}
use Rattle.store_changes.specs.laws.Sources.{laid_alike}
use Rattle.store.proofs.Heavy.{heavy_drafted, unread_in_draft, missing_told}
use Rattle.store.proofs.drafting.heavy_line.Goals as goal

-- ---- the table is on the device and in the draft

pub weigh_entry-requires-clause-readable : goal.weigh_entry-requires-clause-readable
weigh_entry-requires-clause-readable g c =
    drafted_readable (g.D.SectorDevice.size c.args.device.now) c.args.draft.now c.requires.draft c.requires.begins c.requires.placed _ (plain_entry c.in-Some.entry.now) (sym c.in-Some.ensures.entry)

pub weigh_entry-requires-clause-sound : goal.weigh_entry-requires-clause-sound
weigh_entry-requires-clause-sound g c = found_passes is_entry (catalogue_of c.args.draft.now.made) _ (plain_entry c.in-Some.entry.now) c.in-Some.ensures.kept.entries (sym c.in-Some.ensures.entry)

-- ---- it was read

pub returns-in-Ok-clause-reads : goal.returns-in-Ok-clause-reads
returns-in-Ok-clause-reads g c =
    let below = c.weigh_entry.ensures.goes_on.1 in
    let named = below.named in
    let same = below.same in
    let moments = below.moments in
    let count = c.in-Ok.ensures.reads.count in
    search (rules, named, same, moments, count)

pub returns-in-Ok-clause-answers : goal.returns-in-Ok-clause-answers
returns-in-Ok-clause-answers g c = λ image shows rows heavy.
    let D = g.D.SectorDevice in
    let d = c.args.draft.now in
    let made = catalogue_of d.made in
    let story = D.story c.args.device.now in
    let e = plain_entry c.in-Some.entry.now in
    let read = c.in-Ok.ensures.weight in
    heavy_drafted D.tells (laid d.from (streams_of d) image) made c.args.name.now rows (shown_image (now (map (disk_laid d.from (streams_of d)) story))) e (sym c.in-Some.ensures.entry)
    (found_passes is_entry made _ e c.in-Some.ensures.kept.entries (sym c.in-Some.ensures.entry))
    (λ told n within. laid_alike d.from (streams_of d) story image (g.met.D.SectorDevice.begun c.args.device.now told) (shows told) n)
    read.0 read.1 heavy

-- ---- it was not

pub returns-in-Err-clause-reads : goal.returns-in-Err-clause-reads
returns-in-Err-clause-reads g c =
    let below = c.weigh_entry.ensures.goes_on.1 in
    let named = below.named in
    let same = below.same in
    let moments = below.moments in
    let count = c.in-Err.ensures.reads.count in
    search (rules, named, same, moments, count)

pub returns-in-Err-clause-answers : goal.returns-in-Err-clause-answers
returns-in-Err-clause-answers g c = λ image shows rows heavy.
    let D = g.D.SectorDevice in
    let d = c.args.draft.now in
    let made = catalogue_of d.made in
    let story = D.story c.args.device.now in
    let e = plain_entry c.in-Some.entry.now in
    unread_in_draft D.tells (laid d.from (streams_of d) image) made c.args.name.now rows (shown_image (now (map (disk_laid d.from (streams_of d)) story))) e (sym c.in-Some.ensures.entry)
    (found_passes is_entry made _ e c.in-Some.ensures.kept.entries (sym c.in-Some.ensures.entry))
    (λ told n within. laid_alike d.from (streams_of d) story image (g.met.D.SectorDevice.begun c.args.device.now told) (shows told) n)
    c.in-Err.refusal c.in-Err.ensures.unread heavy

pub returns-in-Err-clause-not_halted : goal.returns-in-Err-clause-not_halted
returns-in-Err-clause-not_halted g c = λ is.
    let D = g.D.SectorDevice in
    let d = c.args.draft.now in
    subst (λ (r : Refusal). Unreads D.tells (shown_image (now (map (disk_laid d.from (streams_of d)) (D.story c.args.device.now)))) (plain_entry c.in-Some.entry.now) r) is c.in-Err.ensures.unread

-- ---- no table

pub returns-in-None-clause-reads : goal.returns-in-None-clause-reads
returns-in-None-clause-reads g c =
    let D = g.D.SectorDevice in reads_quiet D.size D.story D.failed D.tells (refused refusals.NoTable) c.args.device.now refl

pub returns-in-None-clause-answers : goal.returns-in-None-clause-answers
returns-in-None-clause-answers g c = λ image shows rows heavy.
    let D = g.D.SectorDevice in
    let d = c.args.draft.now in
    missing_told D.tells (laid d.from (streams_of d) image) (catalogue_of d.made) c.args.name.now rows (sym c.in-None.ensures.entry)
