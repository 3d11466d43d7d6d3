use Rattle.std.proofs.Common.{◌≡◌, ◌≢◌, Bool, true, false, Some, Result, Ok, Err, refl, sym, ap, ◌∙◌, subst}
use Rattle.std.specs.Prelude.{IfErr, OnOk, ℕ}
use Rattle.std.proofs.lemmas.Bool.{true≢false}
use Rattle.std.proofs.lemmas.Result.{IfErr-weaker, on_ok_weaker}
use Rattle.sector_dev.specs.Disk.{Disk, Story, now, shown_image}
use Rattle.sector_dev.specs.laws.Time.{stays}
use Rattle.sector_dev.specs.Time.{OnlyReads}
use Rattle.catalogue.specs.laws.Kept.{catalogue_is}
use Rattle.tables.specs.declared.refusal.Refusal.{Refusal}
use Rattle.tables.specs.declared.refusal.Refusal.TheVariants as refusals
use Rattle.tables.specs.View.{command_of}
use Rattle.tables.specs.Verdict.{verdict}
use Rattle.store_runs.specs.Calls.{done, refused, counted}
use Rattle.catalogue.specs.View.{catalogue_of}
use Rattle.commit.specs.declared.recovery.Opened.{Opened}
use Rattle.segments.specs.laws.Usages.{or_false}
use Rattle.pages.specs.declared.stored.StoredCatalogue.{StoredCatalogue}
use Rattle.store_changes.specs.Change.{change_of}
use Rattle.store_runs.specs.Changes.{CanChange}
use Rattle.store_runs.specs.Held.{tables_held}
use Rattle.store_runs.specs.Machine.{tables_now}
use Rattle.store.specs.Fits.{setting_of, listed_in}
use Rattle.store.specs.Applying.{IsKept}
use Rattle.store_runs.specs.Reading.{ended}
use Rattle.store_runs.specs.Deciding.{IsAnswered, reads_device}
use Rattle.store_changes.specs.laws.Decided.{is_change}
use Rattle.store.proofs.Asked.{is_running}
use Rattle.store.proofs.ReadsStore.{shown, fits_reading}
use Rattle.store.proofs.Applied.{single_command, change_verdict, refuses_first, refuses_halted, goes_after, tells_command, ends_after, kept_after, on_disk_after, decided_after, stood, writes_after, written_after, read_kept, read_halts}
use Rattle.store.proofs.Goings.{carried_goes, command_writes, command_written}
use Rattle.store.proofs.store.Store.apply.Goals as goal

-- where it was done
told_done : (A B : Type 0) (tells : Bool) (result : Result (Unit {0}) Refusal) → tells ≡ true → A → OnOk result (tells ≡ true → A → B) → OnOk result B
told_done A B tells (Ok unit) told on does = does told on
told_done A B tells (Err e) told on does = tt

pub returns-then-self-clause-goes : goal.returns-then-self-clause-goes
returns-then-self-clause-goes g c = λ told base m fits.
    let D = g.D.SectorDevice in refuses_halted D.size D.story D.failed base m (command_of c.args.command) c.args.self.now c.if-self.true fits

pub returns-in-Ok-clause-goes : goal.returns-in-Ok-clause-goes
returns-in-Ok-clause-goes g c = λ told base m fits.
    let D = g.D.SectorDevice in
    let old = c.args.self.now in
    let mid = c.decide.new.self in
    let cmd = command_of c.args.command in
    let runs = is_running m.phase old.halted fits.phase c.if-self.false in
    let sound = fits.sound runs in
    let t = tables_now (setting_of (D.size old.device) base) m in
    let held : tables_held (shown_image (now (D.story old.device))) (listed_in old) ≡ Some t =
    ap (λ i. tables_held i (listed_in old)) (shown D.size D.story D.failed base m D.tells told old mid fits runs) ∙ sound.tables in
    let image = shown_image (now (D.story old.device)) in
    let answers = subst (λ (b : Bool). IsAnswered b image (listed_in old) cmd (Ok (change_of c.in-Ok.change))) told c.in-Ok.ensures.answers in
    let decided = change_verdict t cmd (change_of c.in-Ok.change)
    (c.decisions_are_verdicts.ensures.answered image (listed_in old) t cmd (Ok (change_of c.in-Ok.change)) (single_command c.args.command) (catalogue_is (listed_in old) old.opened.catalogue.list.kept) held c.commands_bring_tables.ensures answers) in
    let there = fits_reading D.size D.story D.failed base m D.tells told old mid fits done refl c.in-Ok.ensures.reads in
    goes_after D.size D.story D.failed base m cmd D.tells told old mid c.carry_out-ended.new.self done (ended c.carry_out-ended.result) refl fits c.in-Ok.ensures.reads
    (tells_command (setting_of (D.size old.device) base) (now (D.story old.device)) c.carry_out-ended.result) (
    let ends = c.carry_out-ended.ensures in
    carried_goes D.size D.story D.failed base m mid c.carry_out-ended.new.self there runs ends.size ends.book mid.exported (change_of c.in-Ok.change) cmd decided.0
    (subst (λ (n : ℕ). verdict (tables_now (setting_of n base) m) cmd ≡ Ok decided.0) (sym c.in-Ok.ensures.reads.device.same) decided.1) decided.2
    (decided_after D.size D.story D.failed D.tells old mid done c.in-Ok.ensures.reads told cmd (change_of c.in-Ok.change)
    (is_change D.tells (shown_image (now (D.story old.device))) (listed_in old) cmd (change_of c.in-Ok.change) told c.in-Ok.ensures.answers))
    c.carry_out-ended.result ends.count ends.carried ends.halts ends.kept ends.quiet (ends.carries told (there.sound runs).stands) (told_done _ _ D.tells c.carry_out-ended.result told (there.sound runs).stands ends.done))

pub returns-in-Err-clause-goes : goal.returns-in-Err-clause-goes
returns-in-Err-clause-goes g c = λ told base m fits.
    let D = g.D.SectorDevice in
    let old = c.args.self.now in
    let mid = c.decide.new.self in
    let runs = is_running m.phase old.halted fits.phase c.if-self.false in
    let sound = fits.sound runs in
    let t = tables_now (setting_of (D.size old.device) base) m in
    let cmd = command_of c.args.command in
    let image = shown_image (now (D.story old.device)) in
    let held : tables_held image (listed_in old) ≡ Some t = ap (λ i. tables_held i (listed_in old)) (shown D.size D.story D.failed base m D.tells told old mid fits runs) ∙ sound.tables in
    let answers = subst (λ (b : Bool). IsAnswered b image (listed_in old) cmd (Err c.in-Err.refusal)) told c.in-Err.ensures.answers in
    refuses_first D.size D.story D.failed base m cmd D.tells told (single_command c.args.command) c.in-Err.refusal old mid c.if-self.false fits c.in-Err.ensures.reads
    (c.decisions_are_verdicts.ensures.answered image (listed_in old) t cmd (Err c.in-Err.refusal) (single_command c.args.command) (catalogue_is (listed_in old) old.opened.catalogue.list.kept) held c.commands_bring_tables.ensures answers)

pub returns-in-Ok-clause-applied : goal.returns-in-Ok-clause-applied
returns-in-Ok-clause-applied g c = λ on.
    let D = g.D.SectorDevice in
    record {
      decision = Ok (change_of c.in-Ok.change);
      decides = c.in-Ok.ensures.answers;
      ends = ends_after D.size D.story D.failed D.tells c.args.self.now c.decide.new.self done c.in-Ok.ensures.reads (Ok (change_of c.in-Ok.change)) c.carry_out-ended.result c.carry_out-ended.new.self c.carry_out-ended.ensures.carried;
    }

pub returns-in-Ok-clause-refused : goal.returns-in-Ok-clause-refused
returns-in-Ok-clause-refused g c =
    let D = g.D.SectorDevice in
    IfErr-weaker c.carry_out-ended.result (λ e. IsKept c.decide.new.self c.carry_out-ended.new.self) (λ e. IsKept c.args.self.now c.carry_out-ended.new.self)
    (λ e kept. kept_after D.size D.story D.failed D.tells c.args.self.now c.decide.new.self done c.in-Ok.ensures.reads c.carry_out-ended.new.self kept) c.carry_out-ended.ensures.kept

pub returns-in-Err-clause-refused : goal.returns-in-Err-clause-refused
returns-in-Err-clause-refused g c =
    let D = g.D.SectorDevice in read_kept D.size D.story D.failed D.tells c.args.self.now c.decide.new.self (refused c.in-Err.refusal) c.in-Err.ensures.reads

pub returns-in-Ok-clause-quiet : goal.returns-in-Ok-clause-quiet
returns-in-Ok-clause-quiet g c =
    let D = g.D.SectorDevice in
    IfErr-weaker c.carry_out-ended.result (λ e. e ≢ refusals.Device → D.story c.carry_out-ended.new.self.device ≡ D.story c.decide.new.self.device)
    (λ e. e ≢ refusals.Device → reads_device (command_of c.args.command) ≡ false → D.story c.carry_out-ended.new.self.device ≡ D.story c.args.self.now.device)
    (λ e quiet other plain. quiet other ∙ ap (λ s. D.story s.device) (c.in-Ok.ensures.still plain)) c.carry_out-ended.ensures.quiet

pub returns-in-Ok-clause-reads : goal.returns-in-Ok-clause-reads
returns-in-Ok-clause-reads g c =
    let D = g.D.SectorDevice in
    IfErr-weaker c.carry_out-ended.result (λ e. e ≢ refusals.Device → D.story c.carry_out-ended.new.self.device ≡ D.story c.decide.new.self.device)
    (λ e. e ≢ refusals.Device → D.tells ≡ true → OnlyReads (D.story c.args.self.now.device) (D.story c.carry_out-ended.new.self.device))
    (λ e quiet other told. subst (λ (s : Story). OnlyReads (D.story c.args.self.now.device) s) (sym (quiet other)) (c.in-Ok.ensures.reads.device.moments told)) c.carry_out-ended.ensures.quiet

pub returns-in-Err-clause-halts : goal.returns-in-Err-clause-halts
returns-in-Err-clause-halts g c = λ on.
    let D = g.D.SectorDevice in read_halts D.size D.story D.failed D.tells c.args.self.now c.decide.new.self c.in-Err.refusal on c.in-Err.ensures.reads

pub returns-in-Ok-clause-writes : goal.returns-in-Ok-clause-writes
returns-in-Ok-clause-writes g c = λ off told on.
    let D = g.D.SectorDevice in
    let old = c.args.self.now in
    let mid = c.decide.new.self in
    let cmd = command_of c.args.command in
    let reads = c.in-Ok.ensures.reads in
    let decided = is_change D.tells (shown_image (now (D.story old.device))) (listed_in old) cmd (change_of c.in-Ok.change) told c.in-Ok.ensures.answers in
    writes_after D.size D.story D.failed D.tells old mid done reads told cmd c.carry_out-ended.new.self on
    (command_writes D.size D.story mid c.carry_out-ended.new.self (change_of c.in-Ok.change) cmd
    (decided_after D.size D.story D.failed D.tells old mid done reads told cmd (change_of c.in-Ok.change) decided)
    (c.carry_out-ended.ensures.carries told (on_disk_after D.size D.story D.failed D.tells old mid done reads told on)))

pub returns-in-Ok-clause-written : goal.returns-in-Ok-clause-written
returns-in-Ok-clause-written g c =
    on_ok_weaker c.carry_out-ended.result
    (λ written told on.
    let D = g.D.SectorDevice in
    let old = c.args.self.now in
    let mid = c.decide.new.self in
    let cmd = command_of c.args.command in
    let reads = c.in-Ok.ensures.reads in
    let decided = is_change D.tells (shown_image (now (D.story old.device))) (listed_in old) cmd (change_of c.in-Ok.change) told c.in-Ok.ensures.answers in
    written_after D.size D.story D.failed D.tells old mid done reads told cmd c.carry_out-ended.new.self
    (command_written D.size D.story mid c.carry_out-ended.new.self (change_of c.in-Ok.change) cmd
    (decided_after D.size D.story D.failed D.tells old mid done reads told cmd (change_of c.in-Ok.change) decided)
    (written told (on_disk_after D.size D.story D.failed D.tells old mid done reads told on))))
    c.carry_out-ended.ensures.done

pub returns-in-Err-clause-writes : goal.returns-in-Err-clause-writes
returns-in-Err-clause-writes g c = λ off told on.
    let D = g.D.SectorDevice in stood D.size D.story D.failed D.tells c.args.self.now c.decide.new.self (refused c.in-Err.refusal) c.in-Err.ensures.reads told (command_of c.args.command) on

-- ---- a store that is halted

pub returns-then-self-clause-applied : goal.returns-then-self-clause-applied
returns-then-self-clause-applied g c = λ on. absurd (true≢false (sym c.if-self.true ∙ on))

pub returns-then-self-clause-refused : goal.returns-then-self-clause-refused
returns-then-self-clause-refused g c = (refl, refl, λ run. refl)

pub returns-then-self-clause-quiet : goal.returns-then-self-clause-quiet
returns-then-self-clause-quiet g c = λ other plain. refl

pub returns-then-self-clause-reads : goal.returns-then-self-clause-reads
returns-then-self-clause-reads g c = λ other told.
    let story = g.D.SectorDevice.story c.args.self.now.device in stays (λ (d : Disk). d ≡ now story) story

pub returns-then-self-clause-halted : goal.returns-then-self-clause-halted
returns-then-self-clause-halted g c = (λ is. c.if-self.true, λ off. refl)

pub returns-then-self-clause-still : goal.returns-then-self-clause-still
returns-then-self-clause-still g c = λ off. refl

pub returns-then-self-clause-halts : goal.returns-then-self-clause-halts
returns-then-self-clause-halts g c = λ on. absurd (true≢false (sym c.if-self.true ∙ on))

pub returns-then-self-clause-writes : goal.returns-then-self-clause-writes
returns-then-self-clause-writes g c = λ on. absurd (true≢false (sym c.if-self.true ∙ on))

-- ---- one that is not

never_halted : {T : Type 0} (r : Result T Refusal) → IfErr r (λ e. e ≢ refusals.Halted) → r ≢ Err refusals.Halted
never_halted (Ok x) other is = cc is
never_halted (Err e) other is = other (cc is)

pub returns-in-Ok-clause-halted : goal.returns-in-Ok-clause-halted
returns-in-Ok-clause-halted g c = (λ is. absurd (never_halted c.carry_out-ended.result c.carry_out-ended.ensures.not_halted is), λ off. absurd (true≢false (sym off ∙ c.if-self.false)))

pub returns-in-Ok-clause-still : goal.returns-in-Ok-clause-still
returns-in-Ok-clause-still g c = λ off. absurd (true≢false (sym off ∙ c.if-self.false))

pub returns-in-Ok-clause-halts : goal.returns-in-Ok-clause-halts
returns-in-Ok-clause-halts g c = λ on. c.carry_out-ended.ensures.halts

pub returns-in-Ok-clause-size : goal.returns-in-Ok-clause-size
returns-in-Ok-clause-size g c = c.carry_out-ended.ensures.size ∙ c.in-Ok.ensures.reads.device.same

pub returns-in-Ok-clause-count : goal.returns-in-Ok-clause-count
returns-in-Ok-clause-count g c = c.carry_out-ended.ensures.count ∙ ap (counted (ended c.carry_out-ended.result)) c.in-Ok.ensures.reads.device.count

pub returns-in-Err-clause-applied : goal.returns-in-Err-clause-applied
returns-in-Err-clause-applied g c = λ on. record { decision = Err c.in-Err.refusal; decides = c.in-Err.ensures.answers; ends = refl }

pub returns-in-Err-clause-quiet : goal.returns-in-Err-clause-quiet
returns-in-Err-clause-quiet g c = λ other plain. ap (λ s. g.D.SectorDevice.story s.device) (c.in-Err.ensures.still plain)

pub returns-in-Err-clause-reads : goal.returns-in-Err-clause-reads
returns-in-Err-clause-reads g c = λ other told. c.in-Err.ensures.reads.device.moments told

pub returns-in-Err-clause-halted : goal.returns-in-Err-clause-halted
returns-in-Err-clause-halted g c = (λ is. absurd (never_halted (Err c.in-Err.refusal) c.in-Err.ensures.not_halted is), λ off. absurd (true≢false (sym off ∙ c.if-self.false)))

pub returns-in-Err-clause-still : goal.returns-in-Err-clause-still
returns-in-Err-clause-still g c = λ off. absurd (true≢false (sym off ∙ c.if-self.false))

pub returns-in-Err-clause-size : goal.returns-in-Err-clause-size
returns-in-Err-clause-size g c = c.in-Err.ensures.reads.device.same

pub returns-in-Err-clause-count : goal.returns-in-Err-clause-count
returns-in-Err-clause-count g c = c.in-Err.ensures.reads.device.count

pub carry_out-ended-requires-clause-sound : goal.carry_out-ended-requires-clause-sound
carry_out-ended-requires-clause-sound g c =
    subst (λ (opened : Opened StoredCatalogue). CanChange (catalogue_of opened.catalogue.list) (change_of c.in-Ok.change)) (sym c.in-Ok.ensures.reads.kept) c.in-Ok.ensures.ok

pub carry_out-ended-requires-clause-on : goal.carry_out-ended-requires-clause-on
carry_out-ended-requires-clause-on g c = c.in-Ok.ensures.reads.halts ∙ or_false c.args.self.now.halted ∙ c.if-self.false

-- ---- exports

pub returns-then-self-clause-book : goal.returns-then-self-clause-book
returns-then-self-clause-book g c = refl

pub returns-in-Ok-clause-book : goal.returns-in-Ok-clause-book
returns-in-Ok-clause-book g c = c.carry_out-ended.ensures.book ∙ c.in-Ok.ensures.reads.book

pub returns-in-Err-clause-book : goal.returns-in-Err-clause-book
returns-in-Err-clause-book g c = c.in-Err.ensures.reads.book
