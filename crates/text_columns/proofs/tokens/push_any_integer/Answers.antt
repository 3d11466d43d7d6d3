use Rattle.std.proofs.Common.{rules}
use Rattle.std.proofs.lemmas.Int.{to_z-of_z}
use mir.Syntax.{w128}
use mir.Val.{of_z, SFits, to_z}
use Rattle.text_columns.proofs.TokenCells.{number_appended}
use Rattle.text_columns.proofs.tokens.push_any_integer.Goals as goal

pub returns-in-Some : goal.returns-in-Some
returns-in-Some c =
    let fits : SFits w128 c.in-Some.number = search rules in
    number_appended c.args.integer c.args.text.now c.in-Some.number (to_z w128 (of_z w128 c.in-Some.number)) c.args.values.now.items c.push_number.new.values.items c.push_number.result
    c.in-Some.ensures (to_z-of_z w128 c.in-Some.number fits) c.push_number.ensures
