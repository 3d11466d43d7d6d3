use Rattle.std.proofs.Common.{◌≡◌, ◌*◌, ◌≤◌, length}
use Rattle.bench.proofs.file_device.write_rows.Given as goal

abbrev pub invariant-loop-i : goal.invariant-loop-i
invariant-loop-i g l = (32 * l.i-end ≤ g.D.SectorDevice.size l.device) × (length l.row ≡ 32)
