use Rattle.std.proofs.Common.{arith}
use Rattle.array_build.proofs.Words.{set_before, unset_after}
use Rattle.array_build.proofs.unset_slots.count_set_in_word.Goals as goal

pub returns-clause-alike : goal.returns-clause-alike
returns-clause-alike c = λ j few lt.
    set_before c.args.bits.now c.args.from c.next_bits.result (omega arith) (λ i small. c.next_bits.ensures.bits i small (omega (arith, c.requires, small))) j few lt

pub returns-clause-longest : goal.returns-clause-longest
returns-clause-longest c = λ few.
    unset_after c.args.bits.now c.args.from c.next_bits.result (omega arith) (λ i small. c.next_bits.ensures.bits i small (omega (arith, c.requires, small))) few
