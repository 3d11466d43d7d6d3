use Rattle.std.proofs.Common.{Bool, Err, subst}
use Rattle.sector_dev.specs.Disk.{Counts}
use Rattle.sector_dev.specs.declared.device.DevError.{DevError}
use Rattle.store.proofs.agreeing.agreement_on.Goals as goal

pub returns-in-Ok-clause-reads : goal.returns-in-Ok-clause-reads
returns-in-Ok-clause-reads g c = record { same = c.in-Ok.ensures.size; moments = c.in-Ok.ensures.moments; count = c.in-Ok.ensures.count }

pub returns-in-Err-clause-reads : goal.returns-in-Err-clause-reads
returns-in-Err-clause-reads g c =
    let D = g.D.SectorDevice in
    record {
      same = c.in-Err.ensures.size;
      moments = c.in-Err.ensures.moments;
      count = subst (λ (e : DevError). Counts {T = Bool} (D.failed c.args.device.now) (D.failed c.commits_agree.new.device) (Err e)) c.in-Err.ensures.error c.in-Err.ensures.count;
    }
