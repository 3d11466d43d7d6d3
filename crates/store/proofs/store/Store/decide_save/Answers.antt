use Rattle.std.specs.Prelude.{◌||◌}
use Rattle.std.proofs.Common.{◌≡◌, Bool, Some, None, refl, sym, ap, ◌∙◌, string_bytes}
use Rattle.sector_dev.specs.Disk.{now, shown_image}
use Rattle.segments.specs.laws.Usages.{or_false}
use Rattle.catalogue.specs.Edits.{entry_of}
use Rattle.catalogue.specs.Entries.{is_entry, plain_entry}
use Rattle.catalogue.specs.laws.Changed.{found_passes}
use Rattle.query.specs.View.{query_in}
use Rattle.tables.specs.declared.refusal.Refusal.TheVariants.{NoTable}
use Rattle.store_runs.specs.Calls.{is_device_reply, refused}
use Rattle.store.specs.Fits.{listed_in}
use Rattle.store_runs.specs.Reading.{ended}
use Rattle.store_changes.specs.Tests.{decision_of}
use Rattle.store_changes.specs.laws.ReadTables.{reads_quiet}
use Rattle.store_changes.specs.laws.Sources.{on_device_readable}
use Rattle.store.proofs.AtNames.{save_at, save_nowhere}
use Rattle.store.proofs.StillSound.{still_sound, entry_placed}
use Rattle.store.proofs.store.Store.decide_save.Goals as goal

pub save_from_entry-change-requires-clause-readable : goal.save_from_entry-change-requires-clause-readable
save_from_entry-change-requires-clause-readable g c =
    on_device_readable _ (plain_entry c.in-Some.entry.now).segments (entry_placed c.args.self.now _ (plain_entry c.in-Some.entry.now) (sym c.in-Some.ensures.entry))

pub save_from_entry-change-requires-clause-sound : goal.save_from_entry-change-requires-clause-sound
save_from_entry-change-requires-clause-sound g c = found_passes is_entry (listed_in c.args.self.now) _ (plain_entry c.in-Some.entry.now) c.in-Some.ensures.kept.entries (sym c.in-Some.ensures.entry)

pub returns-in-Some-clause-reads : goal.returns-in-Some-clause-reads
returns-in-Some-clause-reads g c =
    record { device = c.save_from_entry-change.ensures.reads; kept = refl; book = refl; halts = c.halts-self.ensures ∙ sym (ap (λ (b : Bool). b || is_device_reply (ended c.save_from_entry-change.result)) c.requires.on) }

pub returns-in-Some-clause-answers : goal.returns-in-Some-clause-answers
returns-in-Some-clause-answers g c =
    let D = g.D.SectorDevice in
    let store = c.args.self.now in
    let image = shown_image (now (D.story store.device)) in
    let found : entry_of (listed_in store) (string_bytes c.args.from) ≡ Some (plain_entry c.in-Some.entry.now) = ap (entry_of (listed_in store)) (sym c.deref.ensures) ∙ sym c.in-Some.ensures.entry in
    save_at D.tells image (listed_in store) (string_bytes c.args.from) (string_bytes c.args.to) (query_in c.args.query) (plain_entry c.in-Some.entry.now) (decision_of c.save_from_entry-change.result) found c.save_from_entry-change.ensures.answers

pub returns-clause-reads : goal.returns-clause-reads
returns-clause-reads g c =
    let D = g.D.SectorDevice in
    record { device = reads_quiet D.size D.story D.failed D.tells (refused NoTable) c.args.self.now.device refl; kept = refl; book = refl; halts = sym (or_false c.args.self.now.halted) }

pub returns-clause-answers : goal.returns-clause-answers
returns-clause-answers g c =
    let D = g.D.SectorDevice in
    let store = c.args.self.now in
    let image = shown_image (now (D.story store.device)) in
    let none : entry_of (listed_in store) (string_bytes c.args.from) ≡ None = ap (entry_of (listed_in store)) (sym c.deref.ensures) ∙ sym c.in-None.ensures.entry in
    save_nowhere D.tells image (listed_in store) (string_bytes c.args.from) (string_bytes c.args.to) (query_in c.args.query) none

-- ---- the device keeps its size

pub invariant_of-self : goal.invariant_of-self
invariant_of-self g c =
    assumption (still_sound c.args.self.now _ _ c.save_from_entry-change.ensures.reads.same refl)
