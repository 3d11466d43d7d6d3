use Rattle.std.proofs.Common.{◌≡◌}
use Rattle.bench.proofs.file_device.write_all.Given as goal

abbrev pub invariant-loop-n : goal.invariant-loop-n
invariant-loop-n g l = g.D.SectorDevice.size l.device ≡ l.n-end
