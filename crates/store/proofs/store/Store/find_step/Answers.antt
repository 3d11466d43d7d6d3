use Rattle.std.specs.Prelude.{◌||◌}
use Rattle.std.proofs.Common.{◌≡◌, Bool, true, ℕ, refl, sym, ap, ◌∙◌, subst}
use Rattle.std.proofs.lemmas.Result.{IfOk-weaker, IfErr-weaker}
use Rattle.sector_dev.specs.Disk.{now, shown_image}
use Rattle.segments.specs.Usages.{IsUsedIn}
use Rattle.catalogue.specs.Entries.{PlainCatalogue, runs_of}
use Rattle.commit.specs.Standing.{all_on_device}
use Rattle.store_runs.specs.Calls.{is_device_reply}
use Rattle.store.specs.Fits.{listed_in}
use Rattle.store_runs.specs.Reading.{ended}
use Rattle.store_runs.specs.Compacting.{UnreadsStep}
use Rattle.store_changes.specs.Finding.{FindsStep}
use Rattle.store.proofs.StillSound.{still_sound, all_placed}
use Rattle.store.proofs.store.Store.find_step.Goals as goal

pub decide_step-step-requires-clause-placed : goal.decide_step-step-requires-clause-placed
decide_step-step-requires-clause-placed g c =
    let s = c.args.self.now in
    subst (λ (x : PlainCatalogue). all_on_device (g.D.SectorDevice.size s.device) (runs_of x) ≡ true) (sym c.entries-entries.ensures.entries) (all_placed s)

pub returns-clause-reads : goal.returns-clause-reads
returns-clause-reads g c =
    record { device = c.decide_step-step.ensures.reads; kept = refl; book = refl; halts = c.halts-self.ensures ∙ sym (ap (λ (b : Bool). b || is_device_reply (ended c.decide_step-step.result)) c.requires.on) }

pub returns-clause-found : goal.returns-clause-found
returns-clause-found g c =
    let D = g.D.SectorDevice in
    let s = c.args.self.now in
    let image = shown_image (now (D.story s.device)) in
    IfOk-weaker c.decide_step-step.result _ _
    (λ step finds. subst (λ (n : ℕ). FindsStep D.tells image n (IsUsedIn s.opened.map.entries) (listed_in s) step) s.same
    (subst (λ (x : PlainCatalogue). FindsStep D.tells image s.opened.map.size (IsUsedIn s.opened.map.entries) x step) c.entries-entries.ensures.entries finds)) c.decide_step-step.ensures.found

pub returns-clause-unread : goal.returns-clause-unread
returns-clause-unread g c =
    let D = g.D.SectorDevice in
    let s = c.args.self.now in
    IfErr-weaker c.decide_step-step.result _ _ (λ e is. subst (λ (x : PlainCatalogue). UnreadsStep D.tells (shown_image (now (D.story s.device))) x e) c.entries-entries.ensures.entries is) c.decide_step-step.ensures.unread

-- ---- the device keeps its size

pub invariant_of-self : goal.invariant_of-self
invariant_of-self g c =
    assumption (still_sound c.args.self.now _ _ c.decide_step-step.ensures.reads.same refl)
