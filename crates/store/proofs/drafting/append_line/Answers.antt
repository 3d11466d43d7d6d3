use Rattle.std.proofs.Common.{rules, ◌≡◌, Some, None, refl, sym, ap, ◌∙◌, map, string_bytes}
use Rattle.std.proofs.lemmas.Option.{IfSome_then}
use Rattle.std.proofs.lemmas.Result.{IfOk-weaker}
use Rattle.sector_dev.specs.Disk.{now, shown_image}
use Rattle.catalogue.specs.Edits.{entry_of}
use Rattle.catalogue.specs.Entries.{is_entry, plain_entry}
use Rattle.catalogue.specs.View.{catalogue_of}
use Rattle.catalogue.specs.laws.Changed.{found_passes}
use Rattle.tables.specs.declared.refusal.Refusal.TheVariants as refusals
use Rattle.store_runs.specs.Calls.{refused}
use Rattle.store_changes.specs.Draft.{laid, streams_of}
use Rattle.store_changes.specs.Source.{disk_laid}
use Rattle.store_changes.specs.Change.{change_of}
use Rattle.store_changes.specs.Tests.{decision_of}
use Rattle.store_changes.specs.laws.Lines.{drafted_readable, append_read}
use Rattle.store_changes.specs.laws.ReadTables.{reads_quiet}
use Rattle.store_changes.specs.laws.Sources.{laid_alike}
use Rattle.store.proofs.AtNames.{append_nowhere}
use Rattle.store.proofs.KnownWeights.{weighs_alike, named_after}
use Rattle.store.proofs.drafting.append_line.Goals as goal

-- ---- the table is on the device and in the draft

pub append_to_entry-change-requires-clause-readable : goal.append_to_entry-change-requires-clause-readable
append_to_entry-change-requires-clause-readable g c =
    drafted_readable (g.D.SectorDevice.size c.args.device.now) c.args.draft.now c.requires.draft c.requires.begins c.requires.placed _ (plain_entry c.in-Some.entry.now) (sym c.in-Some.ensures.entry)

pub append_to_entry-change-requires-clause-sound : goal.append_to_entry-change-requires-clause-sound
append_to_entry-change-requires-clause-sound g c = found_passes is_entry (catalogue_of c.args.draft.now.made) _ (plain_entry c.in-Some.entry.now) c.in-Some.ensures.kept.entries (sym c.in-Some.ensures.entry)

-- what is known of its weight there
pub append_to_entry-change-requires-clause-known : goal.append_to_entry-change-requires-clause-known
append_to_entry-change-requires-clause-known g c =
    let D = g.D.SectorDevice in
    let d = c.args.draft.now in
    let made = catalogue_of d.made in
    let e = plain_entry c.in-Some.entry.now in
    let story = D.story c.args.device.now in
    let shown = shown_image (now (map (disk_laid d.from (streams_of d)) story)) in
    let begun = c.requires.weighed in
    let over = laid d.from (streams_of d) begun.0 in
    let found : entry_of made (string_bytes c.args.name) ≡ Some e = ap (entry_of made) (sym c.deref.ensures) ∙ sym c.in-Some.ensures.entry in
    let sound = found_passes is_entry made _ e c.in-Some.ensures.kept.entries found in
    IfSome_then c.weight_of.result (c.weight_of.ensures D.tells begun.0 d begun.2)
    (λ weight tells. weighs_alike over shown D.tells e sound
    (λ told n within. sym (laid_alike d.from (streams_of d) story begun.0 (g.met.D.SectorDevice.begun c.args.device.now told) (begun.1 told) n)) weight (tells e (ap (entry_of made) c.deref-in-Some.ensures ∙ found)))

-- the device is the one that the source has read
pub returns-in-Ok-clause-reads : goal.returns-in-Ok-clause-reads
returns-in-Ok-clause-reads g c =
    let below = c.append_to_entry-change.ensures.goes_on.1 in
    let named = below.named in
    let same = below.same in
    let moments = below.moments in
    let count = c.append_to_entry-change.ensures.reads.count in
    search (rules, named, same, moments, count)

pub returns-in-Ok-clause-ok : goal.returns-in-Ok-clause-ok
returns-in-Ok-clause-ok g c =
    let made = catalogue_of c.args.draft.now.made in
    let found : entry_of made (string_bytes c.args.name) ≡ Some (plain_entry c.in-Some.entry.now) = ap (entry_of made) (sym c.deref.ensures) ∙ sym c.in-Some.ensures.entry in
    IfOk-weaker c.append_to_entry-change.result _ _ (λ change can. can made found) c.append_to_entry-change.ensures.ok

pub returns-in-Ok-clause-answers : goal.returns-in-Ok-clause-answers
returns-in-Ok-clause-answers g c = λ image shows.
    let D = g.D.SectorDevice in
    let d = c.args.draft.now in
    let made = catalogue_of d.made in
    let e = plain_entry c.in-Some.entry.now in
    let story = D.story c.args.device.now in
    let shown = shown_image (now (map (disk_laid d.from (streams_of d)) story)) in
    let found : entry_of made (string_bytes c.args.name) ≡ Some e = ap (entry_of made) (sym c.deref.ensures) ∙ sym c.in-Some.ensures.entry in
    append_read D.tells shown (laid d.from (streams_of d) image) made (string_bytes c.args.name) e found c.args.new (decision_of c.append_to_entry-change.result)
    (found_passes is_entry made _ e c.in-Some.ensures.kept.entries found)
    (λ told n within. laid_alike d.from (streams_of d) story image (g.met.D.SectorDevice.begun c.args.device.now told) (shows told) n)
    c.append_to_entry-change.ensures.answers

pub returns-in-Ok-clause-weighed : goal.returns-in-Ok-clause-weighed
returns-in-Ok-clause-weighed g c =
    let D = g.D.SectorDevice in
    let d = c.args.draft.now in
    let made = catalogue_of d.made in
    let e = plain_entry c.in-Some.entry.now in
    let story = D.story c.args.device.now in
    let shown = shown_image (now (map (disk_laid d.from (streams_of d)) story)) in
    let found : entry_of made (string_bytes c.args.name) ≡ Some e = ap (entry_of made) (sym c.deref.ensures) ∙ sym c.in-Some.ensures.entry in
    let sound = found_passes is_entry made _ e c.in-Some.ensures.kept.entries found in
    IfOk-weaker c.append_to_entry-change.result _ _
    (λ change after image shows.
    named_after shown (laid d.from (streams_of d) image) D.tells e sound
    (λ told n within. laid_alike d.from (streams_of d) story image (g.met.D.SectorDevice.begun c.args.device.now told) (shows told) n)
    made (string_bytes c.args.name) (string_bytes c.in-Ok.own) c.in-Ok.ensures.cases (change_of change) found c.append_to_entry-change.new.known.weight c.named_weight.result c.named_weight.ensures after)
    c.append_to_entry-change.ensures.known

pub returns-in-Ok-clause-not_halted : goal.returns-in-Ok-clause-not_halted
returns-in-Ok-clause-not_halted g c = c.append_to_entry-change.ensures.not_halted

-- ---- no table

pub returns-in-None-clause-reads : goal.returns-in-None-clause-reads
returns-in-None-clause-reads g c =
    let D = g.D.SectorDevice in reads_quiet D.size D.story D.failed D.tells (refused refusals.NoTable) c.args.device.now refl

pub returns-in-None-clause-answers : goal.returns-in-None-clause-answers
returns-in-None-clause-answers g c = λ image shows.
    let D = g.D.SectorDevice in
    let d = c.args.draft.now in
    let made = catalogue_of d.made in
    let none : entry_of made (string_bytes c.args.name) ≡ None = ap (entry_of made) (sym c.deref.ensures) ∙ sym c.in-None.ensures.entry in
    append_nowhere D.tells (laid d.from (streams_of d) image) made (string_bytes c.args.name) c.args.new none
