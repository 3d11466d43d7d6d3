use Rattle.std.proofs.Common.{rules, ◌≡◌, Some, None, refl, sym, ap, ◌∙◌, map, string_bytes}
use Rattle.sector_dev.specs.Disk.{now, shown_image}
use Rattle.catalogue.specs.Edits.{entry_of}
use Rattle.catalogue.specs.Entries.{is_entry, plain_entry}
use Rattle.catalogue.specs.View.{catalogue_of}
use Rattle.catalogue.specs.laws.Changed.{found_passes}
use Rattle.query.specs.View.{query_in}
use Rattle.tables.specs.declared.refusal.Refusal.TheVariants as refusals
use Rattle.store_runs.specs.Calls.{refused}
use Rattle.store_changes.specs.Draft.{laid, streams_of}
use Rattle.store_changes.specs.Source.{disk_laid}
use Rattle.store_changes.specs.Tests.{decision_of}
use Rattle.store_changes.specs.laws.Lines.{drafted_readable, save_read}
use Rattle.store_changes.specs.laws.ReadTables.{reads_quiet}
use Rattle.store_changes.specs.laws.Sources.{laid_alike}
use Rattle.store.proofs.AtNames.{save_nowhere}
use Rattle.store.proofs.drafting.save_line.Goals as goal

-- ---- the table is on the device and in the draft

pub save_from_entry-requires-clause-readable : goal.save_from_entry-requires-clause-readable
save_from_entry-requires-clause-readable g c =
    drafted_readable (g.D.SectorDevice.size c.args.device.now) c.args.draft.now c.requires.draft c.requires.begins c.requires.placed _ (plain_entry c.in-Some.entry.now) (sym c.in-Some.ensures.entry)

pub save_from_entry-requires-clause-sound : goal.save_from_entry-requires-clause-sound
save_from_entry-requires-clause-sound g c = found_passes is_entry (catalogue_of c.args.draft.now.made) _ (plain_entry c.in-Some.entry.now) c.in-Some.ensures.kept.entries (sym c.in-Some.ensures.entry)

-- the device is the one that the source has read
pub returns-in-Some-clause-reads : goal.returns-in-Some-clause-reads
returns-in-Some-clause-reads g c =
    let below = c.save_from_entry.ensures.goes_on.1 in
    let named = below.named in
    let same = below.same in
    let moments = below.moments in
    let count = c.save_from_entry.ensures.reads.count in
    search (rules, named, same, moments, count)

pub returns-in-Some-clause-answers : goal.returns-in-Some-clause-answers
returns-in-Some-clause-answers g c = λ image shows.
    let D = g.D.SectorDevice in
    let d = c.args.draft.now in
    let made = catalogue_of d.made in
    let e = plain_entry c.in-Some.entry.now in
    let story = D.story c.args.device.now in
    let shown = shown_image (now (map (disk_laid d.from (streams_of d)) story)) in
    let found : entry_of made (string_bytes c.args.from) ≡ Some e = ap (entry_of made) (sym c.deref.ensures) ∙ sym c.in-Some.ensures.entry in
    save_read D.tells shown (laid d.from (streams_of d) image) made (string_bytes c.args.from) e found (string_bytes c.args.to) (query_in c.args.query) (decision_of c.save_from_entry.result)
    (found_passes is_entry made _ e c.in-Some.ensures.kept.entries found)
    (λ told n within. laid_alike d.from (streams_of d) story image (g.met.D.SectorDevice.begun c.args.device.now told) (shows told) n)
    c.save_from_entry.ensures.answers

pub returns-in-Some-clause-not_halted : goal.returns-in-Some-clause-not_halted
returns-in-Some-clause-not_halted g c = c.save_from_entry.ensures.not_halted

-- ---- no table

pub returns-clause-reads : goal.returns-clause-reads
returns-clause-reads g c =
    let D = g.D.SectorDevice in reads_quiet D.size D.story D.failed D.tells (refused refusals.NoTable) c.args.device.now refl

pub returns-clause-answers : goal.returns-clause-answers
returns-clause-answers g c = λ image shows.
    let D = g.D.SectorDevice in
    let d = c.args.draft.now in
    let made = catalogue_of d.made in
    let none : entry_of made (string_bytes c.args.from) ≡ None = ap (entry_of made) (sym c.deref.ensures) ∙ sym c.in-None.ensures.entry in
    save_nowhere D.tells (laid d.from (streams_of d) image) made (string_bytes c.args.from) (string_bytes c.args.to) (query_in c.args.query) none
