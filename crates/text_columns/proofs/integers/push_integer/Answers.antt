use Rattle.std.proofs.Common.{refl, rules}
use Rattle.std.proofs.lemmas.Int.{to_z-of_z}
use mir.Syntax.{w128}
use mir.Val.{of_z, SFits, to_z}
use Rattle.text_columns.proofs.IntegerBytes.{spelled_appended}
use Rattle.text_columns.proofs.integers.push_integer.Goals as goal

pub returns-then-branch : goal.returns-then-branch
returns-then-branch c =
    let fits : SFits w128 c.in-Some.number = search rules in (
      refl,
      spelled_appended c.args.integer c.args.text.now c.spelled_integer.result c.in-Some.number c.args.values.now.items c.push_number.new.values.items c.in-Some.is c.spelled_integer.ensures
          (to_z w128 (of_z w128 c.in-Some.number)) (to_z-of_z w128 c.in-Some.number fits) (c.in_ok-push_number.ensures c.if-branch.true),
    )
