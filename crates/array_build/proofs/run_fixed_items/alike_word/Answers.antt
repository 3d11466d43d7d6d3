use Rattle.std.specs.Prelude.{replicate}
use Rattle.std.specs.Simd.Lanes.{mask_l}
use Rattle.std.proofs.Common.{◌∙◌, Bool, ap, arith, sym}
use Rattle.array_build.proofs.RepeatedWords.{all_set, all_unset, power}
use Rattle.array_build.proofs.run_fixed_items.alike_word.Goals as goal

pub returns-then-set : goal.returns-then-set
returns-then-set c = omega (arith, power c.args.size (omega (arith, c.requires)), all_set c.args.size) ∙ ap (λ (b : Bool). mask_l (replicate c.args.size b)) (sym c.if-set.true)

pub returns-else-set : goal.returns-else-set
returns-else-set c = sym (all_unset c.args.size) ∙ ap (λ (b : Bool). mask_l (replicate c.args.size b)) (sym c.if-set.false)
