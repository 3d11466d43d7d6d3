use Rattle.std.proofs.Common.{◌≡◌, length, refl, arith}
use Rattle.sector_dev.proofs.FileInMemory.{row_set}
use Rattle.sector_dev.proofs.model_file.calls.set_row.Goals as goal

pub loop-i-init : goal.loop-i-init
loop-i-init c = record {
  len = refl;
  there = λ n le lt. absurd (omega (arith, le, lt));
  others = λ n out. refl;
}

pub returns : goal.returns
returns c = row_set c.args.start c.loop-i.i c.args.contents.now c.args.stored.now c.loop-i.stored (let done : c.loop-i.i ≡ length c.args.contents.now = omega arith in done) c.loop-i.invariant.len c.loop-i.invariant.there c.loop-i.invariant.others
