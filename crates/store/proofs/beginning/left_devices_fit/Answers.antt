use Rattle.std.proofs.Common.{refl}
use Rattle.store.proofs.Began.{left_goes_on, left_begins_anew}
use Rattle.store.proofs.beginning.left_devices_fit.Goals as goal

pub returns : goal.returns
returns g c =
    let D = g.D.SectorDevice in
    record {
      goes_on = λ base m fits left. record { phase = refl; fits = left_goes_on D.size D.story base m c.args.before.now c.args.device.now fits left };
      begins_anew = λ base m fits left. left_begins_anew D.size D.story base m c.args.before.now c.args.device.now fits left;
    }
