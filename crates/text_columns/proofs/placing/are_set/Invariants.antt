use Rattle.std.proofs.Common.{◌≡◌, drop}
use Rattle.std.specs.List.{list_all}
use Rattle.text_columns.proofs.placing.are_set.Given as goal

abbrev pub invariant-loop-bit : goal.invariant-loop-bit
invariant-loop-bit l = list_all (λ bit. bit) (drop l.bit-index l.bits) ≡ list_all (λ bit. bit) l.bits
