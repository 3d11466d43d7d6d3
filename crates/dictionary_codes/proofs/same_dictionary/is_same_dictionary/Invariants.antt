use Rattle.std.proofs.Common.{◌≡◌, map, take}
use Rattle.columns.specs.View.{array_in, no_dictionary}
use Rattle.dictionary_codes.proofs.same_dictionary.is_same_dictionary.Given as goal

abbrev pub invariant-loop-i : goal.invariant-loop-i
invariant-loop-i l =
    map (array_in l.bytes.others.now no_dictionary) (take l.i l.others.arrays.now) ≡ map (array_in l.bytes.own.now no_dictionary) (take l.i l.own.arrays.now)
