use Rattle.std.proofs.Common.{refl, sym, arith}
use Rattle.sha2.proofs.Schedule256.{rounds_first}
use Rattle.sha256_lanes.specs.inner.Lanes.{lane, words_of}
use Rattle.sha256_lanes.proofs.LaneLemmas.{word_of_lane}
use Rattle.sha256_lanes.proofs.block.first_step.Goals as goal

pub returns : goal.returns
returns c = λ b h j low window held.
    rounds_first b h (words_of j c.args.w.now) (lane j c.args.v) c.args.t _ _ _ c.requires window held refl
    (sym (word_of_lane c.args.w.now j c.args.t (omega arith))) (c.round.ensures j low)
