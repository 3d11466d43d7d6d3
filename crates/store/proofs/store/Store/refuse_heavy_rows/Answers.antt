use Rattle.std.proofs.Common.{◌≡◌, true, Some, Err, refl, sym, ap, ◌∙◌, subst, Bool}
use Rattle.std.proofs.lemmas.Bool.{true≢false}
use Rattle.sector_dev.specs.Disk.{Disk, now, shown_image}
use Rattle.sector_dev.specs.laws.Time.{stays}
use Rattle.catalogue.specs.laws.Kept.{catalogue_is}
use Rattle.tables.specs.Commands.{append_rows}
use Rattle.store_runs.specs.Calls.{refused}
use Rattle.store_runs.specs.Deciding.{IsAnswered}
use Rattle.store_runs.specs.Held.{tables_held}
use Rattle.store_runs.specs.Machine.{tables_now}
use Rattle.store.specs.Fits.{setting_of, listed_in}
use Rattle.store.proofs.Asked.{is_running}
use Rattle.store.proofs.ReadsStore.{shown}
use Rattle.store.proofs.Applied.{refuses_first, refuses_halted, stood, read_kept}
use Rattle.store.proofs.Heavy.{device_halts}
use Rattle.store.proofs.store.Store.refuse_heavy_rows.Goals as goal

-- ---- a store that is halted

pub returns-then-self-clause-goes : goal.returns-then-self-clause-goes
returns-then-self-clause-goes g c = λ told base m fits rows heavy.
    let D = g.D.SectorDevice in refuses_halted D.size D.story D.failed base m (append_rows c.args.name.now rows) c.args.self.now c.if-self.true fits

pub returns-then-self-clause-applied : goal.returns-then-self-clause-applied
returns-then-self-clause-applied g c = λ on. absurd (true≢false (sym c.if-self.true ∙ on))

pub returns-then-self-clause-kept : goal.returns-then-self-clause-kept
returns-then-self-clause-kept g c = (refl, refl, λ run. refl)

pub returns-then-self-clause-reads : goal.returns-then-self-clause-reads
returns-then-self-clause-reads g c = λ other told.
    let story = g.D.SectorDevice.story c.args.self.now.device in stays (λ (d : Disk). d ≡ now story) story

pub returns-then-self-clause-halted : goal.returns-then-self-clause-halted
returns-then-self-clause-halted g c = (λ is. c.if-self.true, λ off. refl)

pub returns-then-self-clause-still : goal.returns-then-self-clause-still
returns-then-self-clause-still g c = λ off. refl

pub returns-then-self-clause-halts : goal.returns-then-self-clause-halts
returns-then-self-clause-halts g c = λ on. absurd (true≢false (sym c.if-self.true ∙ on))

pub returns-then-self-clause-writes : goal.returns-then-self-clause-writes
returns-then-self-clause-writes g c = λ on. absurd (true≢false (sym c.if-self.true ∙ on))

-- ---- one that is not

pub returns-clause-goes : goal.returns-clause-goes
returns-clause-goes g c = λ told base m fits rows heavy.
    let D = g.D.SectorDevice in
    let old = c.args.self.now in
    let after = c.refusal_of_heavy_rows in
    let runs = is_running m.phase old.halted fits.phase c.if-self.false in
    let t = tables_now (setting_of (D.size old.device) base) m in
    let cmd = append_rows c.args.name.now rows in
    let image = shown_image (now (D.story old.device)) in
    let held : tables_held image (listed_in old) ≡ Some t = ap (λ i. tables_held i (listed_in old)) (shown D.size D.story D.failed base m D.tells told old after.new.self fits runs) ∙ (fits.sound runs).tables in
    let answers = subst (λ (b : Bool). IsAnswered b image (listed_in old) cmd (Err after.result)) told (after.ensures.answers rows heavy) in
    refuses_first D.size D.story D.failed base m cmd D.tells told tt after.result old after.new.self c.if-self.false fits after.ensures.reads
    (c.decisions_are_verdicts.ensures.answered image (listed_in old) t cmd (Err after.result) tt (catalogue_is (listed_in old) old.opened.catalogue.list.kept) held tt answers)

pub returns-clause-applied : goal.returns-clause-applied
returns-clause-applied g c = λ on rows heavy. record { decision = Err c.refusal_of_heavy_rows.result; decides = c.refusal_of_heavy_rows.ensures.answers rows heavy; ends = refl }

pub returns-clause-kept : goal.returns-clause-kept
returns-clause-kept g c =
    let D = g.D.SectorDevice in
    let after = c.refusal_of_heavy_rows in
    read_kept D.size D.story D.failed D.tells c.args.self.now after.new.self (refused after.result) after.ensures.reads

pub returns-clause-reads : goal.returns-clause-reads
returns-clause-reads g c = λ other told. c.refusal_of_heavy_rows.ensures.reads.device.moments told

pub returns-clause-halted : goal.returns-clause-halted
returns-clause-halted g c = (λ is. absurd (c.refusal_of_heavy_rows.ensures.not_halted is), λ off. absurd (true≢false (sym off ∙ c.if-self.false)))

pub returns-clause-still : goal.returns-clause-still
returns-clause-still g c = λ off. absurd (true≢false (sym off ∙ c.if-self.false))

pub returns-clause-halts : goal.returns-clause-halts
returns-clause-halts g c = λ on.
    let D = g.D.SectorDevice in
    let after = c.refusal_of_heavy_rows in
    device_halts D.size D.story D.failed D.tells c.args.self.now after.new.self after.result on after.ensures.reads

pub returns-clause-writes : goal.returns-clause-writes
returns-clause-writes g c = λ off told on rows.
    let D = g.D.SectorDevice in
    let after = c.refusal_of_heavy_rows in
    stood D.size D.story D.failed D.tells c.args.self.now after.new.self (refused after.result) after.ensures.reads told (append_rows c.args.name.now rows) on

pub returns-clause-size : goal.returns-clause-size
returns-clause-size g c = c.refusal_of_heavy_rows.ensures.reads.device.same

pub returns-clause-count : goal.returns-clause-count
returns-clause-count g c = c.refusal_of_heavy_rows.ensures.reads.device.count

pub returns-clause-book : goal.returns-clause-book
returns-clause-book g c = c.refusal_of_heavy_rows.ensures.reads.book
