use Rattle.store.proofs.Began.{fresh_fits, zeros_fit, resumed_fits, formatting_fits, doubting_fits}
use Rattle.store.proofs.beginning.devices_fit.Goals as goal

pub returns : goal.returns
returns g c =
    let D = g.D.SectorDevice in
    record {
      new = fresh_fits D.size D.story c.args.device.now;
      zeros = zeros_fit D.size D.story c.args.device.now;
      stopped = λ t. resumed_fits D.size D.story c.args.device.now t;
      formatting = formatting_fits D.size D.story c.args.device.now;
      doubting = λ t cmd. doubting_fits D.size D.story c.args.device.now t cmd;
    }
