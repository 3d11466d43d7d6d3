use Rattle.std.proofs.Common.{refl}
use Rattle.sha256_lanes.proofs.LaneLemmas.{four_same}
use Rattle.sha256_lanes.proofs.block.round.Goals as goal

pub returns : goal.returns
returns c j low =
    rw (
      c.add-new_a.ensures j low,
      c.add-new_e.ensures j low,
      c.add-temp1.ensures j low,
      c.add-temp2.ensures j low,
      c.add-with_constant.ensures j low,
      four_same c.args.k j low,
      c.add-with_choice.ensures j low,
      c.add-with_sigma.ensures j low,
      c.big_sigma1.ensures j low,
      c.ch.ensures j low,
      c.big_sigma0.ensures j low,
      c.maj.ensures j low,
    ) refl
