use Rattle.std.specs.Prelude.{◌||◌}
use Rattle.std.proofs.Common.{Bool, refl, sym, ap, ◌∙◌}
use Rattle.std.proofs.lemmas.Result.{IfOk-weaker, IfErr-weaker}
use Rattle.sector_dev.specs.Disk.{now, shown_image}
use Rattle.segments.specs.laws.Usages.{or_false}
use Rattle.catalogue.specs.Entries.{is_entry, plain_entry}
use Rattle.catalogue.specs.Edits.{entry_of}
use Rattle.catalogue.specs.laws.Changed.{found_passes}
use Rattle.tables.specs.declared.refusal.Refusal.TheVariants.{Halted, NoTable}
use Rattle.store_runs.specs.Calls.{is_device_reply, refused}
use Rattle.store.specs.Fits.{listed_in}
use Rattle.store_runs.specs.Reading.{ended}
use Rattle.store_changes.specs.laws.ReadTables.{reads_quiet}
use Rattle.store_changes.specs.laws.Sources.{on_device_readable}
use Rattle.store.proofs.Applied.{reads_nothing}
use Rattle.store.proofs.AtNames.{read_at, read_nowhere, read_halted, unread_at}
use Rattle.store.proofs.StillSound.{still_sound, entry_placed}
use Rattle.store.proofs.store.Store.weigh_named.Goals as goal

pub weigh_entry-weight-requires-clause-readable : goal.weigh_entry-weight-requires-clause-readable
weigh_entry-weight-requires-clause-readable g c =
    on_device_readable _ (plain_entry c.in-Some.entry.now).segments (entry_placed c.args.self.now _ (plain_entry c.in-Some.entry.now) (sym c.in-Some.ensures.entry))

pub weigh_entry-weight-requires-clause-sound : goal.weigh_entry-weight-requires-clause-sound
weigh_entry-weight-requires-clause-sound g c = found_passes is_entry (listed_in c.args.self.now) _ (plain_entry c.in-Some.entry.now) c.in-Some.ensures.kept.entries (sym c.in-Some.ensures.entry)

pub returns-then-self-clause-reads : goal.returns-then-self-clause-reads
returns-then-self-clause-reads g c = let D = g.D.SectorDevice in reads_nothing D.size D.story D.failed D.tells (refused Halted) c.args.self.now refl

pub returns-then-self-clause-told : goal.returns-then-self-clause-told
returns-then-self-clause-told g c =
    let D = g.D.SectorDevice in
    let store = c.args.self.now in
    let image = shown_image (now (D.story store.device)) in
    read_halted store.halted D.tells image (entry_of (listed_in store) c.args.name.now) c.if-self.true

pub returns-in-Some-clause-reads : goal.returns-in-Some-clause-reads
returns-in-Some-clause-reads g c =
    record { device = c.weigh_entry-weight.ensures.reads; kept = refl; book = refl; halts = c.halts-self.ensures ∙ sym (ap (λ (b : Bool). b || is_device_reply (ended c.weigh_entry-weight.result)) c.if-self.false) }

pub returns-in-Some-clause-found : goal.returns-in-Some-clause-found
returns-in-Some-clause-found g c =
    let D = g.D.SectorDevice in
    let store = c.args.self.now in
    let image = shown_image (now (D.story store.device)) in
    IfOk-weaker c.weigh_entry-weight.result _ _
    (λ weight is. (is.0, read_at store.halted D.tells image (entry_of (listed_in store) c.args.name.now) (plain_entry c.in-Some.entry.now) is.0 c.if-self.false (sym c.in-Some.ensures.entry) is.1, is.2))
    c.weigh_entry-weight.ensures.weight

pub returns-in-Some-clause-told : goal.returns-in-Some-clause-told
returns-in-Some-clause-told g c =
    let D = g.D.SectorDevice in
    let store = c.args.self.now in
    let image = shown_image (now (D.story store.device)) in
    IfErr-weaker c.weigh_entry-weight.result _ _
    (λ e is. unread_at store.halted D.tells image (entry_of (listed_in store) c.args.name.now) (plain_entry c.in-Some.entry.now) e c.if-self.false (sym c.in-Some.ensures.entry) is) c.weigh_entry-weight.ensures.unread

pub returns-in-None-clause-reads : goal.returns-in-None-clause-reads
returns-in-None-clause-reads g c =
    let D = g.D.SectorDevice in
    record { device = reads_quiet D.size D.story D.failed D.tells (refused NoTable) c.args.self.now.device refl; kept = refl; book = refl; halts = sym (or_false c.args.self.now.halted) }

pub returns-in-None-clause-told : goal.returns-in-None-clause-told
returns-in-None-clause-told g c =
    let D = g.D.SectorDevice in
    let store = c.args.self.now in
    let image = shown_image (now (D.story store.device)) in
    read_nowhere store.halted D.tells image (entry_of (listed_in store) c.args.name.now) c.if-self.false (sym c.in-None.ensures.entry)

-- ---- the device keeps its size

pub invariant_of-self : goal.invariant_of-self
invariant_of-self g c =
    assumption (still_sound c.args.self.now _ _ c.weigh_entry-weight.ensures.reads.same refl)
