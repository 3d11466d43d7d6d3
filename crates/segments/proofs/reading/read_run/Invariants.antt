use Rattle.std.proofs.Common.{◌≡◌, ◌≤◌, ◌+◌, ◌*◌, true, Some, length, vec_len, vec_capacity}
use Rattle.sector_dev.specs.Disk.{now, shown_image}
use Rattle.sector_dev.specs.Time.{OnlyReads}
use Rattle.segments.specs.Sectors.{joined}
use Rattle.segments.proofs.reading.read_run.Given as goal

abbrev pub invariant-loop-i : goal.invariant-loop-i
invariant-loop-i g l = let D = g.D.SectorDevice in record {
  size : D.size l.device ≡ D.size l.fn.device;
  failed : D.failed l.device ≡ D.failed l.fn.device;
  moments : D.tells ≡ true → OnlyReads (D.story l.fn.device) (D.story l.device);
  begun : D.tells ≡ true → length (D.story l.device) ≤ length (D.story l.fn.device) + 2 * l.i;
  len : vec_len l.bytes ≡ 512 * l.i;
  room : l.count * 512 ≤ vec_capacity l.bytes;
  found : D.tells ≡ true → joined (shown_image (now (D.story l.fn.device))) l.start l.i ≡ Some l.bytes.items;
}
