use Rattle.std.proofs.Common.{◌≡◌, ◌∷◌, [], List, ℕ, true, subst, append-nil, arith}
use Rattle.std.specs.Result.{OnOk, OnErr}
use Rattle.std.proofs.lemmas.Result.{on_ok_weaker}
use Rattle.sector_dev.specs.Rows.{GrowsBy, FailsAmong}
use Rattle.segments.specs.Writing.{run_for, run_writes}
use Rattle.segments.specs.laws.ReadBack.{read_back}
use Rattle.segments.proofs.Touched.{moments_of, run_in, run_holds, leaves_others}
use Rattle.segments.proofs.writing.write_run.Goals as goal

pub returns-clause-moments : goal.returns-clause-moments
returns-clause-moments g c =
    let D = g.D.SectorDevice in
    let a = D.story c.args.device.now in
    let b = D.story c.write_parts.new.device in
    let bytes = c.args.bytes.now in
    moments_of c.write_parts.result (run_for c.args.start bytes ∷ []) (run_writes c.args.start bytes) a b (run_in (run_for c.args.start bytes) [] bytes (omega arith))
    (subst (λ (l : List ℕ). OnOk c.write_parts.result (D.tells ≡ true → GrowsBy (run_writes c.args.start l) a b)) (append-nil bytes) c.write_parts.ensures.order)
    (subst (λ (l : List ℕ). OnErr c.write_parts.result (D.tells ≡ true → FailsAmong (run_writes c.args.start l) a b)) (append-nil bytes) c.write_parts.ensures.cut_short)

pub returns-clause-others : goal.returns-clause-others
returns-clause-others g c = λ told. leaves_others (run_for c.args.start c.args.bytes.now ∷ []) _ _ (returns-clause-moments g c told)

pub returns-clause-holds : goal.returns-clause-holds
returns-clause-holds g c =
    let D = g.D.SectorDevice in
    let a = D.story c.args.device.now in
    let b = D.story c.write_parts.new.device in
    on_ok_weaker c.write_parts.result (λ done told. run_holds c.args.start c.args.bytes.now a b (subst (λ (l : List ℕ). GrowsBy (run_writes c.args.start l) a b) (append-nil c.args.bytes.now) (done told))) c.write_parts.ensures.order

pub returns-clause-reads : goal.returns-clause-reads
returns-clause-reads g c = on_ok_weaker c.write_parts.result (λ holds told. read_back _ c.args.start c.args.bytes.now (holds told)) (returns-clause-holds g c)
