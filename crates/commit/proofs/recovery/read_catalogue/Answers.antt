use Rattle.std.proofs.Common.{◌∙◌, ℕ, ap, subst}
use Rattle.std.proofs.lemmas.Result.{err_from_is_err_and}
use Rattle.sector_dev.specs.Disk.{now, shown_image}
use Rattle.sector_dev.specs.laws.Time.{read_on, now_read}
use Rattle.commit.specs.Opening.{CountsOpen}
use Rattle.commit.specs.Standing.{is_size}
use Rattle.commit.proofs.Told.{within, named_then, named_nowhere, ok_same, err_same, extent_placed, if_ok}
use Rattle.commit.proofs.recovery.read_catalogue.Goals as goal

pub returns-clause-moments : goal.returns-clause-moments
returns-clause-moments g c = λ told. read_on _ _ _ (c.read_text.ensures.moments told) (c.read.ensures.moments told)

pub returns-clause-found : goal.returns-clause-found
returns-clause-found g c =
    let D = g.D.SectorDevice in
    ok_same _ _ _ _
    (λ told. named_then g.C.ReadCatalogue.reading (D.size c.args.device.now) _ (now (D.story c.args.device.now)) _ c.args.commit c.in_ok-text.text.items _ c.read_text.ensures.size (now_read _ _ (c.read_text.ensures.moments told)) c.deref.ensures.value (c.in_ok-text.ensures.found told))
    c.read.ensures.found

pub returns-clause-damaged : goal.returns-clause-damaged
returns-clause-damaged g c =
    let D = g.D.SectorDevice in
    err_same _ _ _
    (λ told. named_then g.C.ReadCatalogue.reading (D.size c.args.device.now) _ (now (D.story c.args.device.now)) _ c.args.commit c.in_ok-text.text.items _ c.read_text.ensures.size (now_read _ _ (c.read_text.ensures.moments told)) c.deref.ensures.value (c.in_ok-text.ensures.found told))
    c.read.ensures.damaged

pub returns-in_err-text-clause-damaged : goal.returns-in_err-text-clause-damaged
returns-in_err-text-clause-damaged g c =
    let D = g.D.SectorDevice in
    let p = err_from_is_err_and c.from_residual.result c.from_residual.ensures.1 in
    rw (p.1, p.2)
    (λ told. named_nowhere g.C.ReadCatalogue.reading (D.size c.args.device.now) (shown_image (now (D.story c.args.device.now))) c.args.commit c.in_err-text.field-0.0 (c.in_err-text.ensures.damaged told))

-- ---- the device, whatever it tells

pub read_text-requires : goal.read_text-requires
read_text-requires g c = (within (g.D.SectorDevice.size c.args.device.now) c.requires).1

pub read-requires : goal.read-requires
read-requires g c = ap is_size c.read_text.ensures.size ∙ c.requires

pub returns-in_err-text-clause-count : goal.returns-in_err-text-clause-count
returns-in_err-text-clause-count g c = let p = err_from_is_err_and c.from_residual.result c.from_residual.ensures.1 in rw (p.1, p.2) c.in_err-text.ensures.count

pub returns-in_err-text-clause-a_store : goal.returns-in_err-text-clause-a_store
returns-in_err-text-clause-a_store g c = let p = err_from_is_err_and c.from_residual.result c.from_residual.ensures.1 in rw (p.1, p.2) c.in_err-text.ensures.a_store

pub returns-clause-size : goal.returns-clause-size
returns-clause-size g c = c.read.ensures.size ∙ c.read_text.ensures.size

pub returns-clause-count : goal.returns-clause-count
returns-clause-count g c =
    let D = g.D.SectorDevice in subst (λ (n : ℕ). CountsOpen n (D.failed c.read.new.device) c.read.result) c.in_ok-text.ensures.count c.read.ensures.count

pub returns-clause-device : goal.returns-clause-device
returns-clause-device g c = if_ok c.read.result c.in_ok-text.ensures.device

pub returns-clause-placed : goal.returns-clause-placed
returns-clause-placed g c = if_ok c.read.result (extent_placed (g.D.SectorDevice.size c.args.device.now) c.args.commit.catalogue c.in_ok-text.ensures.extent)
