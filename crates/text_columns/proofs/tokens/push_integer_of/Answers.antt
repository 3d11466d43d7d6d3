use Rattle.std.proofs.Common.{rules}
use Rattle.std.proofs.lemmas.Int.{to_z-of_z}
use mir.Syntax.{w64}
use mir.Val.{of_z, SFits, to_z}
use Rattle.text_columns.proofs.TokenCells.{number_appended}
use Rattle.text_columns.proofs.tokens.push_integer_of.Goals as goal

pub returns-in-Some : goal.returns-in-Some
returns-in-Some c =
    let fits : SFits w64 c.in-Some.number = search rules in
    number_appended c.args.integer c.args.text.now c.in-Some.number (to_z w64 (of_z w64 c.in-Some.number)) c.args.values.now.items c.push_small.new.values.items c.push_small.result (rw c.as_bytes.ensures.value at c.in-Some.ensures) (to_z-of_z w64 c.in-Some.number fits)
    c.push_small.ensures
