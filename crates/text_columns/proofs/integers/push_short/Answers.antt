use Rattle.std.proofs.Common.{refl, rules}
use Rattle.std.proofs.lemmas.Int.{to_z-of_z}
use mir.Syntax.{w64}
use mir.Val.{of_z, SFits, to_z}
use Rattle.cells.specs.Typed.{typed_integer}
use Rattle.text_columns.proofs.IntegerBytes.{spelled_appended}
use Rattle.text_columns.proofs.integers.push_short.Goals as goal

pub returns-then-branch : goal.returns-then-branch
returns-then-branch c =
    let fits : SFits w64 c.args.short.number = search rules in
    λ text is. (
      refl,
      spelled_appended c.args.integer text (typed_integer text) c.args.short.number c.args.values.now.items c.push_small.new.values.items is (λ width signed few. refl)
          (to_z w64 (of_z w64 c.args.short.number)) (to_z-of_z w64 c.args.short.number fits) (c.in_ok-push_small.ensures c.if-branch.true),
    )
