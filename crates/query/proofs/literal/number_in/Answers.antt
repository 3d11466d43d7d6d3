use Rattle.std.proofs.Common.{◌≡◌, true, sym, ap, refl, rules, ◌∙◌}
use Rattle.std.proofs.lemmas.Bool.{eqb-false}
use Rattle.std.proofs.lemmas.Int.{to_z-of_z}
use mir.Syntax.{w128}
use mir.Val.{SFits}
use Rattle.std.specs.Prelude.{Some}
use Rattle.cells.specs.Cell.{number}
use Rattle.query.specs.Literal.{is_of_64_bits, number_in}
use Rattle.query.proofs.Numbers.{literal_read, number_read}
use Rattle.query.proofs.literal.number_in.Goals as goal

pub returns-in-Err : goal.returns-in-Err
returns-in-Err c =
    let other = eqb-false _ _ (sym c.begins_with_plus.ensures ∙ c.if-begins_with_plus.false) in
    sym (number_read _ c.parse.result c.parse.ensures.value.0 other ∙ ap literal_read c.in-Err.is)

pub returns-then-is_of_64_bits : goal.returns-then-is_of_64_bits
returns-then-is_of_64_bits c =
    let other = eqb-false _ _ (sym c.begins_with_plus.ensures ∙ c.if-begins_with_plus.false) in
    let fits : SFits w128 c.in-Ok.number = search rules in
    let same = to_z-of_z w128 c.in-Ok.number fits in
    let small : is_of_64_bits c.in-Ok.number ≡ true = rw same at (sym c.is_of_64_bits.ensures ∙ c.if-is_of_64_bits.true) in
    let given : number_in c.args.text.now ≡ Some (number c.in-Ok.number) = number_read _ c.parse.result c.parse.ensures.value.0 other ∙ (ap literal_read c.in-Ok.is ∙ rw small refl) in
    rw same (sym given)
