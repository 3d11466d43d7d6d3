use Rattle.std.specs.Prelude.{◌||◌}
use Rattle.std.proofs.Common.{Bool, refl, sym, ap, ◌∙◌, subst}
use Rattle.std.proofs.lemmas.Result.{IfOk-weaker, IfErr-weaker}
use Rattle.sector_dev.specs.Disk.{now, shown_image}
use Rattle.tables.specs.declared.refusal.Refusal.TheVariants.{Halted}
use Rattle.store.specs.Agreeing.{SaysAgreement, RefusesAgreement}
use Rattle.store_runs.specs.Calls.{is_device_reply, refused}
use Rattle.store_runs.specs.Reading.{ended}
use Rattle.store.proofs.Applied.{reads_nothing}
use Rattle.store.proofs.StillSound.{still_sound}
use Rattle.store.proofs.store.Store.commits_agree.Goals as goal

pub returns-then-self-clause-reads : goal.returns-then-self-clause-reads
returns-then-self-clause-reads g c = let D = g.D.SectorDevice in reads_nothing D.size D.story D.failed D.tells (refused Halted) c.args.self.now refl

pub returns-clause-found : goal.returns-clause-found
returns-clause-found g c =
    let D = g.D.SectorDevice in
    let s = c.args.self.now in
    IfOk-weaker c.agreement_on-said.result _ _ (λ said is. subst (λ (h : Bool). SaysAgreement h D.tells (shown_image (now (D.story s.device))) said) (sym c.if-self.false) is) c.agreement_on-said.ensures.found

pub returns-clause-told : goal.returns-clause-told
returns-clause-told g c =
    IfErr-weaker c.agreement_on-said.result _ _ (λ e is. subst (RefusesAgreement c.args.self.now.halted) (sym is) c.if-self.false) c.agreement_on-said.ensures.fails

pub returns-clause-reads : goal.returns-clause-reads
returns-clause-reads g c =
    record { device = c.agreement_on-said.ensures.reads; kept = refl; book = refl; halts = c.halts-self.ensures ∙ sym (ap (λ (b : Bool). b || is_device_reply (ended c.agreement_on-said.result)) c.if-self.false) }

-- ---- the device keeps its size

pub invariant_of-self : goal.invariant_of-self
invariant_of-self g c =
    assumption (still_sound c.args.self.now _ _ c.agreement_on-said.ensures.reads.same refl)
