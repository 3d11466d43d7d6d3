use Rattle.std.proofs.Common.{◌≡◌, refl, arith}
use Rattle.arrays.specs.inner.Counted.{capped}
use Rattle.arrays.proofs.Rests.{is_left}
use Rattle.arrays.proofs.rest.Rest.below.Goals as goal

pub returns : goal.returns
returns c =
    let few : c.args.buffers ≡ capped c.args.buffers = omega arith in
    is_left c.args.self _ 1 c.args.buffers 0 refl refl refl (c.after.ensures.nodes 1 refl) (c.after-2.ensures.buffers c.args.buffers few) refl
