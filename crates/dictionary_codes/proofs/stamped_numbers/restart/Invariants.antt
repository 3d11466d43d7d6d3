use Rattle.dictionary_codes.proofs.Stamped.{IsFrontBelow}
use Rattle.dictionary_codes.proofs.stamped_numbers.restart.Given as goal

-- what was written anew so far
abbrev pub invariant-loop-i : goal.invariant-loop-i
invariant-loop-i l = IsFrontBelow 8388608 l.numbers l.i
