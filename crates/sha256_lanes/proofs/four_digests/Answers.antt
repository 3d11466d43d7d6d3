use Rattle.std.proofs.Common.{refl}
use Rattle.sha256_lanes.proofs.four_digests.Goals as goal

pub returns : goal.returns
returns c = rw (c.digest-one.ensures, c.digest-two.ensures, c.digest-three.ensures, c.digest-four.ensures) refl
