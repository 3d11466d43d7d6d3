use Rattle.std.proofs.Common.{◌≡◌, ◌+◌, ◌/◌, length, take, true}
use Rattle.sector_dev.specs.Rows.{GrowsBy}
use Rattle.segments.specs.Pieces.{bytes_of_parts}
use Rattle.segments.specs.Writing.{run_writes}
use Rattle.segments.specs.inner.Tails.{tail_bytes, whole_bytes, rest_bytes}
use Rattle.segments.proofs.writing.write_parts.Given as goal

abbrev pub invariant-loop-part : goal.invariant-loop-part
invariant-loop-part g l =
    let D = g.D.SectorDevice in
    let so_far = bytes_of_parts (take l.part-index l.parts) in
    record {
      size : D.size l.device ≡ D.size l.fn.device;
      failed : D.failed l.device ≡ D.failed l.fn.device;
      start : l.tail.start ≡ l.start + length so_far / 512;
      rest : tail_bytes l.tail ≡ rest_bytes so_far;
      order : D.tells ≡ true → GrowsBy (run_writes l.start (whole_bytes so_far)) (D.story l.fn.device) (D.story l.device);
    }
