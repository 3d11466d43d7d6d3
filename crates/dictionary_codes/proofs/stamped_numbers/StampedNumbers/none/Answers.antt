use Rattle.std.proofs.Common.{arith}
use Rattle.dictionary_codes.proofs.Places.{none_placed}
use Rattle.dictionary_codes.proofs.stamped_numbers.StampedNumbers.none.Goals as goal

pub invariant_of-result : goal.invariant_of-result
invariant_of-result c = record { room = omega arith; below = λ n. omega (arith, c.in_ok-numbers.ensures n) }

pub returns : goal.returns
returns c = λ n. none_placed 4194304 c.in_ok-numbers.numbers.items n (λ m. omega (arith, c.in_ok-numbers.ensures m))
