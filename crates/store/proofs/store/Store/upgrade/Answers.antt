use Rattle.std.proofs.Common.{◌≡◌, Bool, Ok, Err, inl, inr, refl, ap, sym, ◌∙◌, subst}
use Rattle.std.proofs.lemmas.Bool.{true≢false, false_from_ne_true}
use Rattle.sector_dev.specs.Disk.{Disk, Story, now, shown_image}
use Rattle.sector_dev.specs.Time.{OnlyReads}
use Rattle.sector_dev.specs.laws.Time.{stays}
use Rattle.segments.specs.Usages.{IsUsedIn}
use Rattle.segments.specs.laws.Usages.{or_false}
use Rattle.catalogue.specs.Entries.{PlainCatalogue}
use Rattle.catalogue.specs.View.{catalogue_of}
use Rattle.commit.specs.declared.recovery.Opened.{Opened}
use Rattle.commit.specs.declared.sector.FormatVersion.TheVariants.{One, Two}
use Rattle.tables.specs.declared.refusal.Refusal.TheVariants as refusals
use Rattle.pages.specs.declared.stored.StoredCatalogue.{StoredCatalogue}
use Rattle.store_runs.specs.Calls.{done}
use Rattle.store_runs.specs.Changes.{digest, CanChange}
use Rattle.store_runs.specs.Deciding.{names_changed}
use Rattle.store_runs.specs.Held.{each_listed}
use Rattle.store.specs.Fits.{listed_in}
use Rattle.store_runs.specs.Digesting.{IsUpgrade}
use Rattle.store.specs.Upgrading.{RefusesUpgrade}
use Rattle.store.proofs.Asked.{is_running}
use Rattle.store.proofs.ReadsStore.{fits_reading}
use Rattle.store.proofs.Applied.{ends_after, kept_after, on_disk_after, carries_after, carried_after}
use Rattle.store.proofs.UpgradeGoes.{can_upgrade, upgrade_listed, upgraded_goes, unmade_goes, off_upgrade_goes, already_goes, stopped_goes}
use Rattle.store.proofs.EachTable.{each_read, upgrade_each}
use Rattle.store.proofs.store.Store.upgrade.Goals as goal

-- the catalogue of what was opened
abbrev listed_by : Opened StoredCatalogue → PlainCatalogue
listed_by o = catalogue_of o.catalogue.list

-- ---- what is asked of the change

pub carry_out-requires-clause-sound : goal.carry_out-requires-clause-sound
carry_out-requires-clause-sound g c =
    let D = g.D.SectorDevice in
    let s = c.args.self.now in
    let u : IsUpgrade D.tells (shown_image (now (D.story s.device))) (listed_in s) (names_changed (digest c.in-Ok.digests.items)) = (record { digests = c.in-Ok.digests.items; own = c.in-Ok.ensures.found; is = refl }) in
    subst (λ (opened : Opened StoredCatalogue). CanChange (catalogue_of opened.catalogue.list) (names_changed (digest c.in-Ok.digests.items))) (sym c.in-Ok.ensures.reads.kept)
    (can_upgrade D.tells (shown_image (now (D.story s.device))) (listed_in s) (names_changed (digest c.in-Ok.digests.items)) u)

pub carry_out-requires-clause-on : goal.carry_out-requires-clause-on
carry_out-requires-clause-on g c = c.in-Ok.ensures.reads.halts ∙ or_false c.args.self.now.halted ∙ c.if-self.false

-- ---- an upgrade that was made

pub returns-in-Ok-carry_out-clause-goes : goal.returns-in-Ok-carry_out-clause-goes
returns-in-Ok-carry_out-clause-goes g c = λ told base m fits.
    let D = g.D.SectorDevice in
    let old = c.args.self.now in
    let mid = c.find_digests.new.self in
    let reads = c.in-Ok.ensures.reads in
    let runs = is_running m.phase old.halted fits.phase c.if-self.false in
    let there = fits_reading D.size D.story D.failed base m D.tells told old mid fits done refl reads in
    let ends = c.in-Ok-carry_out.ensures in
    upgraded_goes D.size D.story D.failed base m D.tells told old mid c.carry_out.new.self fits runs there reads (names_changed (digest c.in-Ok.digests.items)) c.in-One.is (record { digests = c.in-Ok.digests.items; own = c.in-Ok.ensures.found; is = refl }) ends.size ends.book mid.exported (ends.carries told (there.sound runs).stands)
    ends.count ends.carried (false_from_ne_true c.carry_out.new.self.halted (λ is. cc (ends.halts.0 is))) (ends.done told (there.sound runs).stands)

pub returns-in-Ok-carry_out-clause-upgraded : goal.returns-in-Ok-carry_out-clause-upgraded
returns-in-Ok-carry_out-clause-upgraded g c =
    let D = g.D.SectorDevice in (
      c.in-One.is,
      (
        (names_changed (digest c.in-Ok.digests.items)),
        (record { digests = c.in-Ok.digests.items; own = c.in-Ok.ensures.found; is = refl }),
        ends_after D.size D.story D.failed D.tells c.args.self.now c.find_digests.new.self done c.in-Ok.ensures.reads (Ok (names_changed (digest c.in-Ok.digests.items))) (Ok tt) c.carry_out.new.self c.in-Ok-carry_out.ensures.carried,
      ),
    )

pub returns-in-Ok-carry_out-clause-already : goal.returns-in-Ok-carry_out-clause-already
returns-in-Ok-carry_out-clause-already g c = λ on two. let both : One ≡ Two = sym c.in-One.is ∙ two in cc both

pub returns-in-Ok-carry_out-clause-listed : goal.returns-in-Ok-carry_out-clause-listed
returns-in-Ok-carry_out-clause-listed g c =
    let D = g.D.SectorDevice in
    let old = c.args.self.now in
    let new = c.carry_out.new.self in
    upgrade_listed D.tells (shown_image (now (D.story old.device))) (listed_in old) (names_changed (digest c.in-Ok.digests.items))
    (record { digests = c.in-Ok.digests.items; own = c.in-Ok.ensures.found; is = refl }) (D.size old.device) (IsUsedIn old.opened.map.entries) old.opened.commit new.opened.commit (listed_in new)
    (ends_after D.size D.story D.failed D.tells old c.find_digests.new.self done c.in-Ok.ensures.reads (Ok (names_changed (digest c.in-Ok.digests.items))) (Ok tt) new c.in-Ok-carry_out.ensures.carried)

pub returns-in-Ok-clause-listed : goal.returns-in-Ok-clause-listed
returns-in-Ok-clause-listed g c = ap each_listed (c.in-Err-carry_out.ensures.kept.1 ∙ ap listed_by c.in-Ok.ensures.reads.kept)

pub returns-clause-listed : goal.returns-clause-listed
returns-clause-listed g c = ap (λ (o : Opened StoredCatalogue). each_listed (listed_by o)) c.in-Err.ensures.reads.kept

pub returns-in-Ok-carry_out-clause-halted : goal.returns-in-Ok-carry_out-clause-halted
returns-in-Ok-carry_out-clause-halted g c = (λ is. absurd (cc is), λ off. absurd (true≢false (sym off ∙ c.if-self.false)))

pub returns-in-Ok-carry_out-clause-same : goal.returns-in-Ok-carry_out-clause-same
returns-in-Ok-carry_out-clause-same g c = λ off. absurd (true≢false (sym off ∙ c.if-self.false))

pub returns-in-Ok-carry_out-clause-halts : goal.returns-in-Ok-carry_out-clause-halts
returns-in-Ok-carry_out-clause-halts g c = λ on. (λ is. absurd (let e = c.in-Ok-carry_out.ensures.halts.0 is in cc e), λ is. absurd (cc is))

pub returns-in-Ok-carry_out-clause-size : goal.returns-in-Ok-carry_out-clause-size
returns-in-Ok-carry_out-clause-size g c = c.in-Ok-carry_out.ensures.size ∙ c.in-Ok.ensures.reads.device.same

pub returns-in-Ok-carry_out-clause-count : goal.returns-in-Ok-carry_out-clause-count
returns-in-Ok-carry_out-clause-count g c = c.in-Ok-carry_out.ensures.count ∙ c.in-Ok.ensures.reads.device.count

pub returns-in-Ok-carry_out-clause-book : goal.returns-in-Ok-carry_out-clause-book
returns-in-Ok-carry_out-clause-book g c = c.in-Ok-carry_out.ensures.book ∙ c.in-Ok.ensures.reads.book

pub returns-in-Ok-carry_out-clause-writes : goal.returns-in-Ok-carry_out-clause-writes
returns-in-Ok-carry_out-clause-writes g c = λ told on.
    let D = g.D.SectorDevice in
    let old = c.args.self.now in
    let mid = c.find_digests.new.self in
    let reads = c.in-Ok.ensures.reads in
    inr (
      (names_changed (digest c.in-Ok.digests.items)),
      (record { digests = c.in-Ok.digests.items; own = c.in-Ok.ensures.found; is = refl }),
      carries_after D.size D.story D.failed D.tells old mid done reads told (names_changed (digest c.in-Ok.digests.items)) c.carry_out.new.self on
          (c.in-Ok-carry_out.ensures.carries told (on_disk_after D.size D.story D.failed D.tells old mid done reads told on)),
    )

pub returns-in-Ok-carry_out-clause-tables : goal.returns-in-Ok-carry_out-clause-tables
returns-in-Ok-carry_out-clause-tables g c = λ told on.
    let D = g.D.SectorDevice in
    let old = c.args.self.now in
    upgrade_each D.size D.story old c.carry_out.new.self on D.tells told (returns-in-Ok-carry_out-clause-writes g c told on)

pub returns-in-Ok-carry_out-clause-written : goal.returns-in-Ok-carry_out-clause-written
returns-in-Ok-carry_out-clause-written g c = λ is told on.
    let D = g.D.SectorDevice in
    let old = c.args.self.now in
    let mid = c.find_digests.new.self in
    let reads = c.in-Ok.ensures.reads in (
      (names_changed (digest c.in-Ok.digests.items)),
      (record { digests = c.in-Ok.digests.items; own = c.in-Ok.ensures.found; is = refl }),
      carried_after D.size D.story D.failed D.tells old mid done reads told (names_changed (digest c.in-Ok.digests.items)) c.carry_out.new.self
          (c.in-Ok-carry_out.ensures.done told (on_disk_after D.size D.story D.failed D.tells old mid done reads told on)),
    )

-- ---- one whose digests were taken, and that is refused

pub returns-in-Ok-clause-writes : goal.returns-in-Ok-clause-writes
returns-in-Ok-clause-writes g c = λ told on.
    let D = g.D.SectorDevice in
    let old = c.args.self.now in
    let mid = c.find_digests.new.self in
    let reads = c.in-Ok.ensures.reads in
    inr (
      (names_changed (digest c.in-Ok.digests.items)),
      (record { digests = c.in-Ok.digests.items; own = c.in-Ok.ensures.found; is = refl }),
      carries_after D.size D.story D.failed D.tells old mid done reads told (names_changed (digest c.in-Ok.digests.items)) c.carry_out.new.self on
          (c.in-Err-carry_out.ensures.carries told (on_disk_after D.size D.story D.failed D.tells old mid done reads told on)),
    )

pub returns-in-Ok-clause-tables : goal.returns-in-Ok-clause-tables
returns-in-Ok-clause-tables g c = λ told on.
    let D = g.D.SectorDevice in
    let old = c.args.self.now in
    upgrade_each D.size D.story old c.carry_out.new.self on D.tells told (returns-in-Ok-clause-writes g c told on)

pub returns-in-Ok-clause-refused : goal.returns-in-Ok-clause-refused
returns-in-Ok-clause-refused g c = λ told base m fits.
    let D = g.D.SectorDevice in
    let old = c.args.self.now in
    let mid = c.find_digests.new.self in
    let reads = c.in-Ok.ensures.reads in
    let runs = is_running m.phase old.halted fits.phase c.if-self.false in
    let there = fits_reading D.size D.story D.failed base m D.tells told old mid fits done refl reads in
    let ends = c.in-Err-carry_out.ensures in
    unmade_goes D.size D.story D.failed base m D.tells told old mid c.carry_out.new.self fits runs there reads (names_changed (digest c.in-Ok.digests.items)) c.in-One.is (record { digests = c.in-Ok.digests.items; own = c.in-Ok.ensures.found; is = refl }) ends.size ends.book mid.exported (ends.carries told (there.sound runs).stands)
    c.in-Err-carry_out.refusal ends.count ends.carried ends.halts ends.kept ends.quiet

pub returns-in-Ok-clause-told : goal.returns-in-Ok-clause-told
returns-in-Ok-clause-told g c =
    let D = g.D.SectorDevice in
    let old = c.args.self.now in
    let new = c.carry_out.new.self in
    let r = c.in-Err-carry_out.refusal in
    subst (λ (b : Bool). RefusesUpgrade D.size D.story D.tells b old r new) (sym c.if-self.false) (
      c.in-One.is,
      inr (record {
        change = (names_changed (digest c.in-Ok.digests.items));
        upgrade = (record { digests = c.in-Ok.digests.items; own = c.in-Ok.ensures.found; is = refl });
        ends = ends_after D.size D.story D.failed D.tells old c.find_digests.new.self done c.in-Ok.ensures.reads (Ok (names_changed (digest c.in-Ok.digests.items))) (Err r) new c.in-Err-carry_out.ensures.carried;
      }),
    )

pub returns-in-Ok-clause-already : goal.returns-in-Ok-clause-already
returns-in-Ok-clause-already g c = λ on two. let both : One ≡ Two = sym c.in-One.is ∙ two in cc both

pub returns-in-Ok-clause-kept : goal.returns-in-Ok-clause-kept
returns-in-Ok-clause-kept g c =
    let D = g.D.SectorDevice in
    kept_after D.size D.story D.failed D.tells c.args.self.now c.find_digests.new.self done c.in-Ok.ensures.reads c.carry_out.new.self c.in-Err-carry_out.ensures.kept

pub returns-in-Ok-clause-reads : goal.returns-in-Ok-clause-reads
returns-in-Ok-clause-reads g c = λ other told.
    let D = g.D.SectorDevice in
    subst (λ (s : Story). OnlyReads (D.story c.args.self.now.device) s) (sym (c.in-Err-carry_out.ensures.quiet other)) (c.in-Ok.ensures.reads.device.moments told)

-- ---- one whose tables are not all read

pub returns-clause-writes : goal.returns-clause-writes
returns-clause-writes g c = λ told on. inl (c.in-Err.ensures.reads.device.moments told)

pub returns-clause-tables : goal.returns-clause-tables
returns-clause-tables g c = λ told on.
    let D = g.D.SectorDevice in
    let old = c.args.self.now in
    upgrade_each D.size D.story old c.find_digests.new.self on D.tells told (returns-clause-writes g c told on)

pub returns-clause-refused : goal.returns-clause-refused
returns-clause-refused g c = λ told base m fits.
    let D = g.D.SectorDevice in
    let old = c.args.self.now in
    stopped_goes D.size D.story D.failed base m D.tells told old c.find_digests.new.self fits c.table_laws.ensures (is_running m.phase old.halted fits.phase c.if-self.false) c.in-Err.refusal c.in-Err.ensures.stops c.in-Err.ensures.reads

pub returns-clause-told : goal.returns-clause-told
returns-clause-told g c =
    let D = g.D.SectorDevice in
    subst (λ (b : Bool). RefusesUpgrade D.size D.story D.tells b c.args.self.now c.in-Err.refusal c.find_digests.new.self) (sym c.if-self.false) (c.in-One.is, inl c.in-Err.ensures.stops)

pub returns-clause-already : goal.returns-clause-already
returns-clause-already g c = λ on two. let both : One ≡ Two = sym c.in-One.is ∙ two in cc both

-- ---- a store of version 2

pub returns-in-Two-clause-writes : goal.returns-in-Two-clause-writes
returns-in-Two-clause-writes g c = λ told on.
    let story = g.D.SectorDevice.story c.args.self.now.device in inl (stays (λ (d : Disk). d ≡ now story) story)

pub returns-in-Two-clause-tables : goal.returns-in-Two-clause-tables
returns-in-Two-clause-tables g c = λ told on.
    let D = g.D.SectorDevice in
    let old = c.args.self.now in
    upgrade_each D.size D.story old c.args.self.now on D.tells told (returns-in-Two-clause-writes g c told on)

pub returns-in-Two-clause-written : goal.returns-in-Two-clause-written
returns-in-Two-clause-written g c = λ is. absurd (cc is)

pub returns-in-Two-clause-goes : goal.returns-in-Two-clause-goes
returns-in-Two-clause-goes g c = λ told base m fits.
    let D = g.D.SectorDevice in
    let old = c.args.self.now in
    already_goes D.size D.story D.failed base m D.tells told old old fits (is_running m.phase old.halted fits.phase c.if-self.false) c.in-Two.is

pub returns-in-Two-clause-upgraded : goal.returns-in-Two-clause-upgraded
returns-in-Two-clause-upgraded g c = (c.in-Two.is, refl)

pub returns-in-Two-clause-halted : goal.returns-in-Two-clause-halted
returns-in-Two-clause-halted g c = (λ is. absurd (cc is), λ off. absurd (true≢false (sym off ∙ c.if-self.false)))

pub returns-in-Two-clause-halts : goal.returns-in-Two-clause-halts
returns-in-Two-clause-halts g c = λ on. (λ is. absurd (true≢false (sym is ∙ on)), λ is. absurd (cc is))

-- ---- a store that is halted

pub returns-then-self-clause-writes : goal.returns-then-self-clause-writes
returns-then-self-clause-writes g c = λ told on.
    let story = g.D.SectorDevice.story c.args.self.now.device in inl (stays (λ (d : Disk). d ≡ now story) story)

pub returns-then-self-clause-tables : goal.returns-then-self-clause-tables
returns-then-self-clause-tables g c = λ told on.
    let D = g.D.SectorDevice in
    let story = D.story c.args.self.now.device in each_read D.size D.story c.args.self.now c.args.self.now on (stays (λ (d : Disk). d ≡ now story) story)

pub returns-then-self-clause-refused : goal.returns-then-self-clause-refused
returns-then-self-clause-refused g c = λ told base m fits.
    let D = g.D.SectorDevice in off_upgrade_goes D.size D.story D.failed base m D.tells told c.args.self.now c.args.self.now fits c.if-self.true

pub returns-then-self-clause-told : goal.returns-then-self-clause-told
returns-then-self-clause-told g c =
    let D = g.D.SectorDevice in
    subst (λ (b : Bool). RefusesUpgrade D.size D.story D.tells b c.args.self.now refusals.Halted c.args.self.now) (sym c.if-self.true) refl

pub returns-then-self-clause-kept : goal.returns-then-self-clause-kept
returns-then-self-clause-kept g c = (refl, refl, λ run. refl)

pub returns-then-self-clause-reads : goal.returns-then-self-clause-reads
returns-then-self-clause-reads g c = λ other told.
    let story = g.D.SectorDevice.story c.args.self.now.device in stays (λ (d : Disk). d ≡ now story) story

pub returns-then-self-clause-halted : goal.returns-then-self-clause-halted
returns-then-self-clause-halted g c = (λ is. c.if-self.true, λ off. refl)

pub returns-then-self-clause-same : goal.returns-then-self-clause-same
returns-then-self-clause-same g c = λ off. refl

pub returns-then-self-clause-halts : goal.returns-then-self-clause-halts
returns-then-self-clause-halts g c = λ on. absurd (true≢false (sym c.if-self.true ∙ on))

pub returns-then-self-clause-already : goal.returns-then-self-clause-already
returns-then-self-clause-already g c = λ on. absurd (true≢false (sym c.if-self.true ∙ on))
