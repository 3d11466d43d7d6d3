use Rattle.std.proofs.Common.{◌≡◌, ◌∙◌, ap, sym, subst, ℕ, true, IfErr, arith}
use Rattle.std.proofs.lemmas.Result.{err_from_is_err_and}
use Rattle.sector_dev.specs.Disk.{now, shown_image}
use Rattle.sector_dev.specs.laws.Time.{read_on, now_read}
use Rattle.commit.specs.declared.reading.OpenError.{OpenError}
use Rattle.commit.specs.Opening.{standing_shown, TellsStanding}
use Rattle.commit.specs.Standing.{is_size, is_on_device, runs_fault}
use Rattle.commit.specs.laws.Frame.{stands_nowhere, stands_as, stands_misnamed, stands_unfit}
use Rattle.commit.proofs.Told.{within, same_named, told_of, told_by, failed_count, recounted, uncounted}
use Rattle.commit.proofs.recovery.read_store.Goals as goal

pub returns-in_default-clause-refused : goal.returns-in_default-clause-refused
returns-in_default-clause-refused g c = λ told. stands_nowhere g.C.ReadCatalogue.reading (g.D.SectorDevice.size c.args.device.now) (shown_image (now (g.D.SectorDevice.story c.args.device.now))) c.requires (c.in_ok-commit.ensures.found told ∙ c.in_default.is)

pub returns-in_err-catalogue-clause-moments : goal.returns-in_err-catalogue-clause-moments
returns-in_err-catalogue-clause-moments g c = λ told. read_on _ _ _ (c.read_ruling.ensures.moments told) (c.read_catalogue.ensures.moments told)

pub returns-in_err-catalogue-clause-refused : goal.returns-in_err-catalogue-clause-refused
returns-in_err-catalogue-clause-refused g c =
    let D = g.D.SectorDevice in
    let reading = g.C.ReadCatalogue.reading in
    let p = err_from_is_err_and c.from_residual-in_err-catalogue.result c.from_residual-in_err-catalogue.ensures.1 in
    subst (λ (r : _). IfErr r (λ e. D.tells ≡ true → TellsStanding e (standing_shown reading (D.size c.args.device.now) (D.story c.args.device.now)))) (sym p.1)
    (subst (λ (e : OpenError). D.tells ≡ true → TellsStanding e (standing_shown reading (D.size c.args.device.now) (D.story c.args.device.now))) (sym p.2)
    (λ told.
    told_of c.in_err-catalogue.field-0.0 _ _ c.in_err-catalogue.ensures.a_store
    (λ cause is.
    stands_misnamed reading (D.size c.args.device.now) (shown_image (now (D.story c.args.device.now))) c.in-Some.commit cause c.requires (c.in_ok-commit.ensures.found told ∙ c.in-Some.is)
    (same_named reading (D.size c.args.device.now) _ (now (D.story c.args.device.now)) _ c.in-Some.commit c.read_ruling.ensures.size (now_read _ _ (c.read_ruling.ensures.moments told)) ∙ is))
    (c.in_err-catalogue.ensures.damaged told)))

pub returns-in_err-map-clause-moments : goal.returns-in_err-map-clause-moments
returns-in_err-map-clause-moments g c = λ told. read_on _ _ _ (c.read_ruling.ensures.moments told) (c.read_catalogue.ensures.moments told)

pub returns-in_err-map-clause-refused : goal.returns-in_err-map-clause-refused
returns-in_err-map-clause-refused g c =
    let D = g.D.SectorDevice in
    let R = g.C.ReadCatalogue in
    let size = D.size c.args.device.now in
    let runs = R.reading.runs (R.plain_of c.in_ok-catalogue.catalogue) in
    let p = err_from_is_err_and c.from_residual-in_err-map.result c.from_residual-in_err-map.ensures.1 in
    let sectors : c.sectors.result ≡ size = c.sectors.ensures ∙ c.read_catalogue.ensures.size ∙ c.read_ruling.ensures.size in
    subst (λ (r : _). IfErr r (λ e. D.tells ≡ true → TellsStanding e (standing_shown R.reading size (D.story c.args.device.now)))) (sym p.1)
    (subst (λ (e : OpenError). D.tells ≡ true → TellsStanding e (standing_shown R.reading size (D.story c.args.device.now))) (sym p.2)
    (λ told.
    told_by c.in_err-map.field-0.0 (runs_fault c.sectors.result c.in-Some.commit.catalogue.run runs) _ c.in_err-map.ensures.errors.0
    (λ cause is.
    stands_unfit R.reading size (shown_image (now (D.story c.args.device.now))) c.in-Some.commit (R.plain_of c.in_ok-catalogue.catalogue) cause c.requires (c.in_ok-commit.ensures.found told ∙ c.in-Some.is)
    (same_named R.reading size _ (now (D.story c.args.device.now)) _ c.in-Some.commit c.read_ruling.ensures.size (now_read _ _ (c.read_ruling.ensures.moments told)) ∙ c.in_ok-catalogue.ensures.found told)
    (ap (λ (n : ℕ). runs_fault n c.in-Some.commit.catalogue.run runs) (sym sectors) ∙ is))
    c.in_err-map.ensures.damaged))

pub returns-clause-moments : goal.returns-clause-moments
returns-clause-moments g c = λ told. read_on _ _ _ (c.read_ruling.ensures.moments told) (c.read_catalogue.ensures.moments told)

pub returns-clause-found : goal.returns-clause-found
returns-clause-found g c = λ told.
    let D = g.D.SectorDevice in
    let R = g.C.ReadCatalogue in
    let size = D.size c.args.device.now in
    let runs = R.reading.runs (R.plain_of c.in_ok-catalogue.catalogue) in
    let sectors : c.sectors.result ≡ size = c.sectors.ensures ∙ c.read_catalogue.ensures.size ∙ c.read_ruling.ensures.size in
    stands_as R.reading size (shown_image (now (D.story c.args.device.now))) c.in-Some.commit (R.plain_of c.in_ok-catalogue.catalogue) c.requires (c.in_ok-commit.ensures.found told ∙ c.in-Some.is)
    (same_named R.reading size _ (now (D.story c.args.device.now)) _ c.in-Some.commit c.read_ruling.ensures.size (now_read _ _ (c.read_ruling.ensures.moments told)) ∙ c.in_ok-catalogue.ensures.found told)
    (ap (λ (n : ℕ). runs_fault n c.in-Some.commit.catalogue.run runs) (sym sectors) ∙ c.in_ok-map.ensures.fit)

-- ---- what is asked of the calls

pub read_ruling-requires : goal.read_ruling-requires
read_ruling-requires g c = omega (arith, (within (g.D.SectorDevice.size c.args.device.now) c.requires).0)

pub read_catalogue-requires : goal.read_catalogue-requires
read_catalogue-requires g c = ap is_size c.read_ruling.ensures.size ∙ c.requires

pub map_of-requires : goal.map_of-requires
map_of-requires g c =
    ap (λ (n : ℕ). is_on_device n c.in-Some.commit.catalogue.run) (c.sectors.ensures ∙ c.read_catalogue.ensures.size) ∙ c.in_ok-catalogue.ensures.placed

-- ---- the device, whatever it tells

pub returns-in_err-commit-clause-count : goal.returns-in_err-commit-clause-count
returns-in_err-commit-clause-count g c =
    let p = err_from_is_err_and c.from_residual.result c.from_residual.ensures.1 in
    rw (p.1, p.2) (failed_count c.in_err-commit.field-0.0 _ _ c.in_err-commit.ensures.error c.in_err-commit.ensures.count)

pub returns-in_default-clause-count : goal.returns-in_default-clause-count
returns-in_default-clause-count g c = c.in_ok-commit.ensures.count

pub returns-in_err-catalogue-clause-size : goal.returns-in_err-catalogue-clause-size
returns-in_err-catalogue-clause-size g c = c.read_catalogue.ensures.size ∙ c.read_ruling.ensures.size

pub returns-in_err-catalogue-clause-count : goal.returns-in_err-catalogue-clause-count
returns-in_err-catalogue-clause-count g c =
    let p = err_from_is_err_and c.from_residual-in_err-catalogue.result c.from_residual-in_err-catalogue.ensures.1 in
    rw (p.1, p.2) (recounted c.in_err-catalogue.field-0.0 _ _ _ c.in_ok-commit.ensures.count c.in_err-catalogue.ensures.count)

pub returns-in_err-map-clause-size : goal.returns-in_err-map-clause-size
returns-in_err-map-clause-size g c = c.read_catalogue.ensures.size ∙ c.read_ruling.ensures.size

pub returns-in_err-map-clause-count : goal.returns-in_err-map-clause-count
returns-in_err-map-clause-count g c =
    let p = err_from_is_err_and c.from_residual-in_err-map.result c.from_residual-in_err-map.ensures.1 in
    rw (p.1, p.2) (uncounted c.in_err-map.field-0.0 _ _ c.in_err-map.ensures.errors.1 (c.in_ok-catalogue.ensures.count ∙ c.in_ok-commit.ensures.count))

pub returns-clause-size : goal.returns-clause-size
returns-clause-size g c = c.read_catalogue.ensures.size ∙ c.read_ruling.ensures.size

pub returns-clause-count : goal.returns-clause-count
returns-clause-count g c = c.in_ok-catalogue.ensures.count ∙ c.in_ok-commit.ensures.count

pub returns-clause-device : goal.returns-clause-device
returns-clause-device g c = c.in_ok-catalogue.ensures.device ∙ c.read_ruling.ensures.size

pub returns-clause-placed : goal.returns-clause-placed
returns-clause-placed g c = ap (λ (n : ℕ). is_on_device n c.in-Some.commit.catalogue.run) (sym c.read_ruling.ensures.size) ∙ c.in_ok-catalogue.ensures.placed

pub returns-clause-fit : goal.returns-clause-fit
returns-clause-fit g c =
    let R = g.C.ReadCatalogue in
    ap (λ (n : ℕ). runs_fault n c.in-Some.commit.catalogue.run (R.reading.runs (R.plain_of c.in_ok-catalogue.catalogue))) (sym (c.sectors.ensures ∙ c.read_catalogue.ensures.size ∙ c.read_ruling.ensures.size)) ∙ c.in_ok-map.ensures.fit

pub returns-clause-map_size : goal.returns-clause-map_size
returns-clause-map_size g c = c.in_ok-map.ensures.size ∙ c.sectors.ensures ∙ c.read_catalogue.ensures.size ∙ c.read_ruling.ensures.size

pub returns-clause-uses : goal.returns-clause-uses
returns-clause-uses g c = c.in_ok-map.ensures.uses

pub returns-clause-form : goal.returns-clause-form
returns-clause-form g c = c.in_ok-catalogue.ensures.form
