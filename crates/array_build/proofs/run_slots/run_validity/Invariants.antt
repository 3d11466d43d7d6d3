use Rattle.std.proofs.Common.{◌≡◌, ◌++◌, true, drop}
use Rattle.std.specs.List.{list_all}
use Rattle.dictionary_codes.specs.Masks.{runs_bits}
use Rattle.columns.specs.Runs.{has_validity}
use Rattle.array_build.proofs.run_slots.run_validity.Given as goal

abbrev pub invariant-loop-run : goal.invariant-loop-run
invariant-loop-run l = record {
  left : list_all has_validity (drop l.run-index l.runs) ≡ true;
  bits : l.bits ++ runs_bits (drop l.run-index l.runs) ≡ runs_bits l.runs;
}
