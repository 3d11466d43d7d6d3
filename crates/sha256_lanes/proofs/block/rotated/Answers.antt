use Rattle.std.proofs.Common.{ℕ, ◌<◌, ◌^◌, arith, w32}
use Rattle.std.proofs.lemmas.Simd.{Each1-get_or, below_from_Fits}
use Rattle.sha256_lanes.proofs.LaneLemmas.{shifts_rotate}
use Rattle.sha256_lanes.proofs.block.rotated.Goals as goal

pub returns-clause-value : goal.returns-clause-value
returns-clause-value c = shifts_rotate c.args.k c.requires.low c.requires.high c.args.x c.fits-x.0

pub returns-clause-fits : goal.returns-clause-fits
returns-clause-fits c = λ j low.
    let long = c.fits-x.0 in
    Each1-get_or (λ (n : ℕ). n < 2 ^ 32) c.args.x j 0 (omega (arith, long, low)) (below_from_Fits w32 c.args.x c.fits-x.1)
