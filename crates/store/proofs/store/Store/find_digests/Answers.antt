use Rattle.std.specs.Prelude.{◌||◌}
use Rattle.std.proofs.Common.{◌≡◌, Bool, true, refl, sym, ap, ◌∙◌, subst}
use Rattle.std.proofs.lemmas.Result.{IfOk-weaker, IfErr-weaker}
use Rattle.sector_dev.specs.Disk.{now, shown_image}
use Rattle.catalogue.specs.Entries.{PlainCatalogue, runs_of}
use Rattle.commit.specs.Standing.{all_on_device}
use Rattle.store_runs.specs.Calls.{is_device_reply}
use Rattle.store_runs.specs.Reading.{ended}
use Rattle.store_runs.specs.Digesting.{AllDigested, StopsReading}
use Rattle.store.proofs.StillSound.{still_sound, all_placed}
use Rattle.store.proofs.store.Store.find_digests.Goals as goal

pub all_digests-digests-requires-clause-placed : goal.all_digests-digests-requires-clause-placed
all_digests-digests-requires-clause-placed g c =
    let s = c.args.self.now in
    subst (λ (x : PlainCatalogue). all_on_device (g.D.SectorDevice.size s.device) (runs_of x) ≡ true) (sym c.entries-entries.ensures.entries) (all_placed s)

pub returns-clause-reads : goal.returns-clause-reads
returns-clause-reads g c =
    record { device = c.all_digests-digests.ensures.reads; kept = refl; book = refl; halts = c.halts-self.ensures ∙ sym (ap (λ (b : Bool). b || is_device_reply (ended c.all_digests-digests.result)) c.requires.on) }

pub returns-clause-found : goal.returns-clause-found
returns-clause-found g c =
    let D = g.D.SectorDevice in
    let s = c.args.self.now in
    let image = shown_image (now (D.story s.device)) in
    IfOk-weaker c.all_digests-digests.result _ _
    (λ digests are. subst (λ (x : PlainCatalogue). AllDigested D.tells image x digests.items) c.entries-entries.ensures.entries are) c.all_digests-digests.ensures.found

pub returns-clause-stops : goal.returns-clause-stops
returns-clause-stops g c =
    let D = g.D.SectorDevice in
    let s = c.args.self.now in
    IfErr-weaker c.all_digests-digests.result _ _ (λ e stops. subst (λ (x : PlainCatalogue). StopsReading D.tells (shown_image (now (D.story s.device))) x e) c.entries-entries.ensures.entries stops) c.all_digests-digests.ensures.stops

-- ---- the device keeps its size

pub invariant_of-self : goal.invariant_of-self
invariant_of-self g c =
    assumption (still_sound c.args.self.now _ _ c.all_digests-digests.ensures.reads.same refl)
