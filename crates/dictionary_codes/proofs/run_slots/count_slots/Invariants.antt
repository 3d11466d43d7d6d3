use Rattle.std.proofs.Common.{◌≡◌, ◌+◌, length, drop}
use Rattle.dictionary_codes.specs.Masks.{runs_bits}
use Rattle.dictionary_codes.proofs.run_slots.count_slots.Given as goal

abbrev pub invariant-loop-run : goal.invariant-loop-run
invariant-loop-run l = l.count + length (runs_bits (drop l.run-index l.runs)) ≡ length (runs_bits l.runs)
