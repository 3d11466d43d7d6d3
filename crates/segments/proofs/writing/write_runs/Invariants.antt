use Rattle.std.proofs.Common.{◌≡◌, take, true}
use Rattle.sector_dev.specs.Rows.{GrowsBy}
use Rattle.segments.specs.Pieces.{plain_pieces}
use Rattle.segments.specs.Writing.{piece_writes}
use Rattle.segments.proofs.writing.write_runs.Given as goal

abbrev pub invariant-loop-piece : goal.invariant-loop-piece
invariant-loop-piece g l = let D = g.D.SectorDevice in record {
  size : D.size l.device ≡ D.size l.fn.device;
  failed : D.failed l.device ≡ D.failed l.fn.device;
  order : D.tells ≡ true → GrowsBy (piece_writes (take l.piece-index (plain_pieces l.pieces))) (D.story l.fn.device) (D.story l.device);
}
