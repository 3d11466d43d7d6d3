use Rattle.std.proofs.Common.{◌≡◌, ◌+◌, ◌-◌, ◌*◌, ◌∙◌, arith}
use Rattle.sha256_lanes.proofs.Blocks.{whole_block}
use Rattle.sha256_lanes.proofs.padding.put_block.Goals as goal

pub returns-then-n-message : goal.returns-then-n-message
returns-then-n-message c = λ low.
    let n = c.args.n in
    let width : 64 * n + 64 - 64 * n ≡ 64 = omega arith in
    let place : 64 * n ≡ n * 64 = omega arith in
    c.copy_from_slice.ensures.after ∙ rw (width, place) (whole_block c.args.message.now n c.if-n-message.true)
