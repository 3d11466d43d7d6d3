use Rattle.std.proofs.Common.{refl}
use Rattle.arrays.proofs.Rests.{is_left}
use Rattle.arrays.proofs.rest.Rest.after.Goals as goal

pub returns : goal.returns
returns c = λ n b d nodes buffers dictionaries.
    is_left c.args.self _ n b d refl refl refl (c.after.ensures.nodes n nodes) (c.after-2.ensures.buffers b buffers) (c.parts_after.ensures d dictionaries)
