use Rattle.std.proofs.Common.{◌≡◌}
use Rattle.arrowstore.proofs.formatting_devices.clear_front.Given as goal

abbrev pub invariant-loop-n : goal.invariant-loop-n
invariant-loop-n g l = g.D.SectorDevice.size l.device ≡ g.D.SectorDevice.size l.fn.device
