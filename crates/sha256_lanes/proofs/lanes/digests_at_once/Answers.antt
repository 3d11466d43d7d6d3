use Rattle.std.proofs.Common.{refl, sym, ◌∙◌, arith}
use Rattle.sha256_lanes.proofs.Blocks.{hashed_first, hashed_next}
use Rattle.sha256_lanes.proofs.lanes.digests_at_once.Goals as goal

pub turns-init : goal.turns-init
turns-init c =
    let state = c.initial_state-state.ensures in
    record {
      first = hashed_first c.args.first.now _ _ (state 0 (omega arith));
      second = hashed_first c.args.second.now _ _ (state 1 (omega arith));
      third = hashed_first c.args.third.now _ _ (state 2 (omega arith));
      fourth = hashed_first c.args.fourth.now _ _ (state 3 (omega arith));
    }

pub turns-preserved : goal.turns-preserved
turns-preserved c =
    let held = c.turns.invariant in
    record {
      first = hashed_next c.args.first.now _ _ _ _ _ c.turns.n held.first c.put_block.ensures (c.compress.ensures 0 (omega arith))
          (λ e. c.keep_digest.ensures.last (e ∙ sym c.block_count-first_count.ensures.value)) (λ e. c.keep_digest.ensures.others (λ f. e (f ∙ c.block_count-first_count.ensures.value)));
      second = hashed_next c.args.second.now _ _ _ _ _ c.turns.n held.second c.put_block-in-turns.ensures (c.compress.ensures 1 (omega arith))
          (λ e. c.keep_digest-in-turns.ensures.last (e ∙ sym c.block_count-second_count.ensures.value)) (λ e. c.keep_digest-in-turns.ensures.others (λ f. e (f ∙ c.block_count-second_count.ensures.value)));
      third = hashed_next c.args.third.now _ _ _ _ _ c.turns.n held.third c.put_block-in-turns-2.ensures (c.compress.ensures 2 (omega arith))
          (λ e. c.keep_digest-in-turns-2.ensures.last (e ∙ sym c.block_count-third_count.ensures.value)) (λ e. c.keep_digest-in-turns-2.ensures.others (λ f. e (f ∙ c.block_count-third_count.ensures.value)));
      fourth = hashed_next c.args.fourth.now _ _ _ _ _ c.turns.n held.fourth c.put_block-in-turns-3.ensures (c.compress.ensures 3 (omega arith))
          (λ e. c.keep_digest-in-turns-3.ensures.last (e ∙ sym c.block_count-fourth_count.ensures.value)) (λ e. c.keep_digest-in-turns-3.ensures.others (λ f. e (f ∙ c.block_count-fourth_count.ensures.value)));
    }

pub returns : goal.returns
returns c =
    let held = c.turns.invariant in
    let first = held.first.1 (omega (arith, c.block_count-first_count.ensures.value, c.larger.ensures.first, c.larger-most.ensures.first)) in
    let second = held.second.1 (omega (arith, c.block_count-second_count.ensures.value, c.larger.ensures.second, c.larger-most.ensures.first)) in
    let third = held.third.1 (omega (arith, c.block_count-third_count.ensures.value, c.larger-2.ensures.first, c.larger-most.ensures.second)) in
    let fourth = held.fourth.1 (omega (arith, c.block_count-fourth_count.ensures.value, c.larger-2.ensures.second, c.larger-most.ensures.second)) in
    rw (first, second, third, fourth) refl
