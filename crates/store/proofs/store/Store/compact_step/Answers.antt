use Rattle.std.proofs.Common.{◌≡◌, Bool, Some, None, Ok, Err, inl, inr, refl, ap, sym, ◌∙◌, subst}
use Rattle.std.proofs.lemmas.Bool.{true≢false, false_from_ne_true}
use Rattle.sector_dev.specs.Disk.{Disk, Story, now, shown_image}
use Rattle.sector_dev.specs.Time.{OnlyReads}
use Rattle.sector_dev.specs.laws.Time.{stays}
use Rattle.segments.specs.Usages.{IsUsedIn}
use Rattle.segments.specs.laws.Usages.{or_false}
use Rattle.catalogue.specs.Entries.{PlainCatalogue}
use Rattle.catalogue.specs.View.{catalogue_of}
use Rattle.catalogue.specs.laws.Kept.{catalogue_is}
use Rattle.commit.specs.declared.recovery.Opened.{Opened}
use Rattle.tables.specs.declared.refusal.Refusal.TheVariants as refusals
use Rattle.pages.specs.declared.stored.StoredCatalogue.{StoredCatalogue}
use Rattle.store_runs.specs.Calls.{done}
use Rattle.store_changes.specs.Change.{change_of}
use Rattle.store_runs.specs.Changes.{CanChange}
use Rattle.store_runs.specs.Held.{each_listed}
use Rattle.store.specs.Fits.{listed_in}
use Rattle.store.specs.Compacting.{RefusesStep}
use Rattle.store.proofs.Asked.{is_running}
use Rattle.store.proofs.ReadsStore.{fits_reading}
use Rattle.store.proofs.Applied.{ends_after, on_disk_after, carries_after, carried_after}
use Rattle.store_changes.specs.laws.StepChanges.{can_step, carried_shrinks, carried_listed}
use Rattle.store.proofs.Stepped.{done_counts, never_nothing, nothing_read, made_goes, refused_goes, off_goes, none_goes, unread_goes}
use Rattle.store.proofs.EachTable.{each_read, step_each}
use Rattle.store.proofs.store.Store.compact_step.Goals as goal

-- the catalogue of what was opened
abbrev listed_by : Opened StoredCatalogue → PlainCatalogue
listed_by o = catalogue_of o.catalogue.list

-- ---- what is asked of the change

pub carry_out-requires-clause-sound : goal.carry_out-requires-clause-sound
carry_out-requires-clause-sound g c =
    let D = g.D.SectorDevice in
    let s = c.args.self.now in
    let step = c.in-Ok-Some.step in
    subst (λ (opened : Opened StoredCatalogue). CanChange (catalogue_of opened.catalogue.list) (change_of step.change)) (sym c.in-Ok-Some.ensures.reads.kept)
    (can_step (listed_in s) (catalogue_is (listed_in s) s.opened.catalogue.list.kept) D.tells (shown_image (now (D.story s.device))) c.pieces_are_tables.ensures.each (D.size s.device) (IsUsedIn s.opened.map.entries)
    step.done (change_of step.change) (rw c.in-Ok-Some.field-0-is at c.in-Ok-Some.ensures.found))

pub carry_out-requires-clause-on : goal.carry_out-requires-clause-on
carry_out-requires-clause-on g c = c.in-Ok-Some.ensures.reads.halts ∙ or_false c.args.self.now.halted ∙ c.if-self.false

-- ---- a step that was made

pub returns-in-Ok-clause-goes : goal.returns-in-Ok-clause-goes
returns-in-Ok-clause-goes g c = λ told base m fits.
    let D = g.D.SectorDevice in
    let old = c.args.self.now in
    let mid = c.find_step.new.self in
    let reads = c.in-Ok-Some.ensures.reads in
    let runs = is_running m.phase old.halted fits.phase c.if-self.false in
    let there = fits_reading D.size D.story D.failed base m D.tells told old mid fits done refl reads in
    let ends = c.in-Ok.ensures in
    made_goes D.size D.story D.failed base m D.tells told c.laws_below.ensures old mid c.carry_out.new.self fits runs there reads c.in-Ok-Some.step.done (change_of c.in-Ok-Some.step.change)
    (rw c.in-Ok-Some.field-0-is at c.in-Ok-Some.ensures.found) ends.size ends.book mid.exported (ends.carries told (there.sound runs).stands) ends.count ends.carried (false_from_ne_true c.carry_out.new.self.halted (λ is. cc (ends.halts.0 is)))
    (ends.done told (there.sound runs).stands)

pub returns-in-Ok-clause-step : goal.returns-in-Ok-clause-step
returns-in-Ok-clause-step g c =
    let D = g.D.SectorDevice in
    record {
      change = Some (change_of c.in-Ok-Some.step.change);
      step = rw c.in-Ok-Some.field-0-is at c.in-Ok-Some.ensures.found;
      ends = ends_after D.size D.story D.failed D.tells c.args.self.now c.find_step.new.self done c.in-Ok-Some.ensures.reads (Ok (change_of c.in-Ok-Some.step.change)) (Ok tt) c.carry_out.new.self c.in-Ok.ensures.carried;
    }

pub returns-in-Ok-clause-shrinks : goal.returns-in-Ok-clause-shrinks
returns-in-Ok-clause-shrinks g c = λ other.
    let D = g.D.SectorDevice in
    let old = c.args.self.now in
    let new = c.carry_out.new.self in
    carried_shrinks (listed_in old) (catalogue_is (listed_in old) old.opened.catalogue.list.kept) D.tells (shown_image (now (D.story old.device))) (D.size old.device) (IsUsedIn old.opened.map.entries) c.in-Ok-Some.step.done
    (change_of c.in-Ok-Some.step.change) (rw c.in-Ok-Some.field-0-is at c.in-Ok-Some.ensures.found) old.opened.commit new.opened.commit (listed_in new)
    (ends_after D.size D.story D.failed D.tells old c.find_step.new.self done c.in-Ok-Some.ensures.reads (Ok (change_of c.in-Ok-Some.step.change)) (Ok tt) new c.in-Ok.ensures.carried)

pub returns-in-Ok-clause-listed : goal.returns-in-Ok-clause-listed
returns-in-Ok-clause-listed g c =
    let D = g.D.SectorDevice in
    let old = c.args.self.now in
    let new = c.carry_out.new.self in
    carried_listed c.pieces_are_tables.ensures.whole (listed_in old) (catalogue_is (listed_in old) old.opened.catalogue.list.kept) D.tells (shown_image (now (D.story old.device))) (D.size old.device)
    (IsUsedIn old.opened.map.entries) c.in-Ok-Some.step.done (change_of c.in-Ok-Some.step.change) (rw c.in-Ok-Some.field-0-is at c.in-Ok-Some.ensures.found) old.opened.commit new.opened.commit (listed_in new)
    (ends_after D.size D.story D.failed D.tells old c.find_step.new.self done c.in-Ok-Some.ensures.reads (Ok (change_of c.in-Ok-Some.step.change)) (Ok tt) new c.in-Ok.ensures.carried)

pub returns-in-Ok-Some-clause-listed : goal.returns-in-Ok-Some-clause-listed
returns-in-Ok-Some-clause-listed g c = ap each_listed (c.in-Err-carry_out.ensures.kept.1 ∙ ap listed_by c.in-Ok-Some.ensures.reads.kept)

pub returns-in-Ok-None-clause-listed : goal.returns-in-Ok-None-clause-listed
returns-in-Ok-None-clause-listed g c = ap (λ (o : Opened StoredCatalogue). each_listed (listed_by o)) c.in-Ok-None.ensures.reads.kept

pub returns-clause-listed : goal.returns-clause-listed
returns-clause-listed g c = ap (λ (o : Opened StoredCatalogue). each_listed (listed_by o)) c.in-Err.ensures.reads.kept

pub returns-in-Ok-clause-halted : goal.returns-in-Ok-clause-halted
returns-in-Ok-clause-halted g c = (λ is. absurd (cc is), λ off. absurd (true≢false (sym off ∙ c.if-self.false)))

pub returns-in-Ok-clause-same : goal.returns-in-Ok-clause-same
returns-in-Ok-clause-same g c = λ off. absurd (true≢false (sym off ∙ c.if-self.false))

pub returns-in-Ok-clause-halts : goal.returns-in-Ok-clause-halts
returns-in-Ok-clause-halts g c = λ on. (λ is. absurd (let e = c.in-Ok.ensures.halts.0 is in cc e), λ is. absurd (cc is))

pub returns-in-Ok-clause-size : goal.returns-in-Ok-clause-size
returns-in-Ok-clause-size g c = c.in-Ok.ensures.size ∙ c.in-Ok-Some.ensures.reads.device.same

pub returns-in-Ok-clause-count : goal.returns-in-Ok-clause-count
returns-in-Ok-clause-count g c =
    let D = g.D.SectorDevice in
    done_counts c.in-Ok-Some.step.done (D.failed c.args.self.now.device) (D.failed c.carry_out.new.self.device) (c.in-Ok.ensures.count ∙ c.in-Ok-Some.ensures.reads.device.count)

pub returns-in-Ok-clause-book : goal.returns-in-Ok-clause-book
returns-in-Ok-clause-book g c = c.in-Ok.ensures.book ∙ c.in-Ok-Some.ensures.reads.book

pub returns-in-Ok-clause-still : goal.returns-in-Ok-clause-still
returns-in-Ok-clause-still g c = λ is.
    let D = g.D.SectorDevice in
    let old = c.args.self.now in
    absurd (never_nothing D.tells (shown_image (now (D.story old.device))) (D.size old.device) (IsUsedIn old.opened.map.entries) (listed_in old) c.in-Ok-Some.step.done (change_of c.in-Ok-Some.step.change)
    (rw c.in-Ok-Some.field-0-is at c.in-Ok-Some.ensures.found) (cc is))

pub returns-in-Ok-clause-writes : goal.returns-in-Ok-clause-writes
returns-in-Ok-clause-writes g c = λ told on.
    let D = g.D.SectorDevice in
    let old = c.args.self.now in
    let mid = c.find_step.new.self in
    let reads = c.in-Ok-Some.ensures.reads in
    let step = c.in-Ok-Some.step in
    inr (
      change_of step.change,
      (step.done, rw c.in-Ok-Some.field-0-is at c.in-Ok-Some.ensures.found),
      carries_after D.size D.story D.failed D.tells old mid done reads told (change_of step.change) c.carry_out.new.self on
          (c.in-Ok.ensures.carries told (on_disk_after D.size D.story D.failed D.tells old mid done reads told on)),
    )

pub returns-in-Ok-clause-tables : goal.returns-in-Ok-clause-tables
returns-in-Ok-clause-tables g c = λ told on.
    let D = g.D.SectorDevice in
    let old = c.args.self.now in
    step_each D.size D.story old c.carry_out.new.self on D.tells told c.laws_below.ensures (returns-in-Ok-clause-writes g c told on)

pub returns-in-Ok-clause-written : goal.returns-in-Ok-clause-written
returns-in-Ok-clause-written g c = λ other told on.
    let D = g.D.SectorDevice in
    let old = c.args.self.now in
    let mid = c.find_step.new.self in
    let reads = c.in-Ok-Some.ensures.reads in
    let step = c.in-Ok-Some.step in (
      change_of step.change,
      rw c.in-Ok-Some.field-0-is at c.in-Ok-Some.ensures.found,
      carried_after D.size D.story D.failed D.tells old mid done reads told (change_of step.change) c.carry_out.new.self
          (c.in-Ok.ensures.done told (on_disk_after D.size D.story D.failed D.tells old mid done reads told on)),
    )

-- ---- one that was refused

pub returns-in-Ok-Some-clause-writes : goal.returns-in-Ok-Some-clause-writes
returns-in-Ok-Some-clause-writes g c = λ told on.
    let D = g.D.SectorDevice in
    let old = c.args.self.now in
    let mid = c.find_step.new.self in
    let reads = c.in-Ok-Some.ensures.reads in
    let step = c.in-Ok-Some.step in
    inr (
      change_of step.change,
      (step.done, rw c.in-Ok-Some.field-0-is at c.in-Ok-Some.ensures.found),
      carries_after D.size D.story D.failed D.tells old mid done reads told (change_of step.change) c.carry_out.new.self on
          (c.in-Err-carry_out.ensures.carries told (on_disk_after D.size D.story D.failed D.tells old mid done reads told on)),
    )

pub returns-in-Ok-Some-clause-tables : goal.returns-in-Ok-Some-clause-tables
returns-in-Ok-Some-clause-tables g c = λ told on.
    let D = g.D.SectorDevice in
    let old = c.args.self.now in
    step_each D.size D.story old c.carry_out.new.self on D.tells told c.laws_below.ensures (returns-in-Ok-Some-clause-writes g c told on)

pub returns-clause-writes : goal.returns-clause-writes
returns-clause-writes g c = λ told on. inl (c.in-Err.ensures.reads.device.moments told)

pub returns-clause-tables : goal.returns-clause-tables
returns-clause-tables g c = λ told on.
    let D = g.D.SectorDevice in
    let old = c.args.self.now in
    step_each D.size D.story old c.find_step.new.self on D.tells told c.laws_below.ensures (returns-clause-writes g c told on)

pub returns-in-Ok-Some-clause-refused : goal.returns-in-Ok-Some-clause-refused
returns-in-Ok-Some-clause-refused g c = λ told base m fits.
    let D = g.D.SectorDevice in
    let old = c.args.self.now in
    let mid = c.find_step.new.self in
    let reads = c.in-Ok-Some.ensures.reads in
    let runs = is_running m.phase old.halted fits.phase c.if-self.false in
    let there = fits_reading D.size D.story D.failed base m D.tells told old mid fits done refl reads in
    let ends = c.in-Err-carry_out.ensures in
    refused_goes D.size D.story D.failed base m D.tells told c.laws_below.ensures old mid c.carry_out.new.self fits runs there reads c.in-Ok-Some.step.done (change_of c.in-Ok-Some.step.change)
    (rw c.in-Ok-Some.field-0-is at c.in-Ok-Some.ensures.found) ends.size ends.book mid.exported (ends.carries told (there.sound runs).stands) c.in-Err-carry_out.refusal ends.count ends.carried ends.halts ends.kept ends.quiet

pub returns-in-Ok-Some-clause-told : goal.returns-in-Ok-Some-clause-told
returns-in-Ok-Some-clause-told g c =
    let D = g.D.SectorDevice in
    let old = c.args.self.now in
    let new = c.carry_out.new.self in
    let r = c.in-Err-carry_out.refusal in
    let change = change_of c.in-Ok-Some.step.change in
    subst (λ (b : Bool). RefusesStep D.size D.story D.tells b old r new) (sym c.if-self.false)
    (inr (record {
      done = c.in-Ok-Some.step.done;
      change = change;
      step = rw c.in-Ok-Some.field-0-is at c.in-Ok-Some.ensures.found;
      ends = ends_after D.size D.story D.failed D.tells old c.find_step.new.self done c.in-Ok-Some.ensures.reads (Ok change) (Err r) new c.in-Err-carry_out.ensures.carried;
    }))

pub returns-in-Ok-Some-clause-reads : goal.returns-in-Ok-Some-clause-reads
returns-in-Ok-Some-clause-reads g c = λ other told.
    let D = g.D.SectorDevice in
    subst (λ (s : Story). OnlyReads (D.story c.args.self.now.device) s) (sym (c.in-Err-carry_out.ensures.quiet other)) (c.in-Ok-Some.ensures.reads.device.moments told)

pub returns-clause-refused : goal.returns-clause-refused
returns-clause-refused g c = λ told base m fits.
    let D = g.D.SectorDevice in
    let old = c.args.self.now in
    unread_goes D.size D.story D.failed base m D.tells told old c.find_step.new.self fits c.laws_below.ensures.tables (is_running m.phase old.halted fits.phase c.if-self.false) c.in-Err.refusal c.in-Err.ensures.unread c.in-Err.ensures.reads

-- ---- nothing to do

pub returns-in-Ok-None-clause-writes : goal.returns-in-Ok-None-clause-writes
returns-in-Ok-None-clause-writes g c = λ told on. inl (c.in-Ok-None.ensures.reads.device.moments told)

pub returns-in-Ok-None-clause-tables : goal.returns-in-Ok-None-clause-tables
returns-in-Ok-None-clause-tables g c = λ told on.
    let D = g.D.SectorDevice in
    let old = c.args.self.now in
    step_each D.size D.story old c.find_step.new.self on D.tells told c.laws_below.ensures (returns-in-Ok-None-clause-writes g c told on)

pub returns-in-Ok-None-clause-written : goal.returns-in-Ok-None-clause-written
returns-in-Ok-None-clause-written g c = λ other. absurd (other refl)

pub returns-in-Ok-None-clause-goes : goal.returns-in-Ok-None-clause-goes
returns-in-Ok-None-clause-goes g c = λ told base m fits.
    let D = g.D.SectorDevice in
    let old = c.args.self.now in
    none_goes D.size D.story D.failed base m D.tells told old c.find_step.new.self fits (is_running m.phase old.halted fits.phase c.if-self.false)
    (rw c.in-Ok-None.field-0-is at c.in-Ok-None.ensures.found) c.in-Ok-None.ensures.reads

pub returns-in-Ok-None-clause-step : goal.returns-in-Ok-None-clause-step
returns-in-Ok-None-clause-step g c = record { change = None; step = rw c.in-Ok-None.field-0-is at c.in-Ok-None.ensures.found; ends = c.in-Ok-None.ensures.reads.kept }

pub returns-in-Ok-None-clause-still : goal.returns-in-Ok-None-clause-still
returns-in-Ok-None-clause-still g c = λ is. nothing_read c.in-Ok-None.ensures.reads

pub returns-in-Ok-None-clause-shrinks : goal.returns-in-Ok-None-clause-shrinks
returns-in-Ok-None-clause-shrinks g c = λ other. absurd (other refl)

pub returns-in-Ok-None-clause-halted : goal.returns-in-Ok-None-clause-halted
returns-in-Ok-None-clause-halted g c = (λ is. absurd (cc is), λ off. absurd (true≢false (sym off ∙ c.if-self.false)))

pub returns-in-Ok-None-clause-same : goal.returns-in-Ok-None-clause-same
returns-in-Ok-None-clause-same g c = λ off. absurd (true≢false (sym off ∙ c.if-self.false))

pub returns-in-Ok-None-clause-halts : goal.returns-in-Ok-None-clause-halts
returns-in-Ok-None-clause-halts g c = λ on. (λ is. absurd (true≢false (sym is ∙ (c.in-Ok-None.ensures.reads.halts ∙ or_false c.args.self.now.halted ∙ on))), λ is. absurd (cc is))

pub returns-in-Ok-None-clause-size : goal.returns-in-Ok-None-clause-size
returns-in-Ok-None-clause-size g c = c.in-Ok-None.ensures.reads.device.same

pub returns-in-Ok-None-clause-count : goal.returns-in-Ok-None-clause-count
returns-in-Ok-None-clause-count g c = c.in-Ok-None.ensures.reads.device.count

pub returns-in-Ok-None-clause-book : goal.returns-in-Ok-None-clause-book
returns-in-Ok-None-clause-book g c = c.in-Ok-None.ensures.reads.book

-- ---- a store that is halted

pub returns-then-self-clause-writes : goal.returns-then-self-clause-writes
returns-then-self-clause-writes g c = λ told on.
    let story = g.D.SectorDevice.story c.args.self.now.device in inl (stays (λ (d : Disk). d ≡ now story) story)

pub returns-then-self-clause-tables : goal.returns-then-self-clause-tables
returns-then-self-clause-tables g c = λ told on.
    let D = g.D.SectorDevice in
    let story = D.story c.args.self.now.device in each_read D.size D.story c.args.self.now c.args.self.now on (stays (λ (d : Disk). d ≡ now story) story)

pub returns-then-self-clause-refused : goal.returns-then-self-clause-refused
returns-then-self-clause-refused g c = λ told base m fits.
    let D = g.D.SectorDevice in off_goes D.size D.story D.failed base m D.tells told c.args.self.now c.args.self.now fits c.if-self.true

pub returns-then-self-clause-told : goal.returns-then-self-clause-told
returns-then-self-clause-told g c =
    let D = g.D.SectorDevice in
    subst (λ (b : Bool). RefusesStep D.size D.story D.tells b c.args.self.now refusals.Halted c.args.self.now) (sym c.if-self.true) refl

pub returns-then-self-clause-kept : goal.returns-then-self-clause-kept
returns-then-self-clause-kept g c = (refl, refl, λ run. refl)

pub returns-then-self-clause-reads : goal.returns-then-self-clause-reads
returns-then-self-clause-reads g c = λ other told.
    let story = g.D.SectorDevice.story c.args.self.now.device in stays (λ (d : Disk). d ≡ now story) story

pub returns-then-self-clause-halted : goal.returns-then-self-clause-halted
returns-then-self-clause-halted g c = (λ is. c.if-self.true, λ off. refl)

pub returns-then-self-clause-same : goal.returns-then-self-clause-same
returns-then-self-clause-same g c = λ off. refl

pub returns-then-self-clause-halts : goal.returns-then-self-clause-halts
returns-then-self-clause-halts g c = λ on. absurd (true≢false (sym c.if-self.true ∙ on))
