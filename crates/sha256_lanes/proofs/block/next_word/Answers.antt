use Rattle.std.proofs.Common.{◌≡◌, ◌+◌, ◌%◌, arith, refl}
use Rattle.sha256_lanes.proofs.LaneLemmas.{word_of_lane}
use Rattle.sha256_lanes.proofs.block.next_word.Goals as goal

pub returns : goal.returns
returns c =
    let at : c.args.place % 16 ≡ c.args.place = omega arith in
    let w = c.args.w.now in
    record {
      value = λ j low.
          rw (
            c.add-word.ensures j low,
            c.add-with_first.ensures j low,
            c.add-with_ninth.ensures j low,
            c.small_sigma1-recent.ensures j low,
            c.small_sigma0.ensures j low,
            word_of_lane w j ((c.args.place + 14) % 16) (omega arith),
            word_of_lane w j ((c.args.place + 9) % 16) (omega arith),
            word_of_lane w j ((c.args.place + 1) % 16) (omega arith),
            at,
            word_of_lane w j c.args.place (omega arith),
          ) refl;
      window = refl;
    }
