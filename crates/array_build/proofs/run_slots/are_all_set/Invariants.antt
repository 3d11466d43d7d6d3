use Rattle.std.specs.Prelude.{◌&&◌}
use Rattle.std.specs.List.{list_all}
use Rattle.std.proofs.Common.{◌≡◌, drop}
use Rattle.array_build.proofs.run_slots.are_all_set.Given as goal

abbrev pub invariant-loop-bit : goal.invariant-loop-bit
invariant-loop-bit l = (l.all && list_all (λ b. b) (drop l.bit-index l.bits)) ≡ list_all (λ b. b) l.bits
