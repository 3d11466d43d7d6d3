use Rattle.std.proofs.Common.{◌≡◌, ℕ, ◌++◌, take, drop}
use Rattle.dictionary.specs.Kept.{number_in}
use Rattle.dictionary.specs.inner.Numbers.{with_number}
use Rattle.dictionary.proofs.current.place_of.Given as goal

abbrev pub invariant-loop-i : goal.invariant-loop-i
invariant-loop-i l = record {
  same : number_in l.id l.numbers ≡ number_in l.id (drop l.i l.numbers);
  kept : (n : ℕ) → with_number l.id n l.numbers ≡ take l.i l.numbers ++ with_number l.id n (drop l.i l.numbers);
}
