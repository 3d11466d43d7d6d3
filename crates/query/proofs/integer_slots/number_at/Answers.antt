use mir.Val.{SFits}
use Rattle.std.specs.Int.{w128}
use Rattle.std.specs.Prelude.{pos}
use Rattle.std.proofs.Common.{◌∙◌, ◌/◌, Bool, sym, ap, rules}
use Rattle.std.proofs.lemmas.Int.{to_z-of_z}
use Rattle.byteorder.specs.Endian.{twos_complement}
use Rattle.arrow_schema.specs.View.{bits_of}
use Rattle.cells.specs.Integers.{integer_of}
use Rattle.columns.specs.CellAt.{number_at}
use Rattle.query.proofs.integer_slots.number_at.Goals as goal

pub returns-then-integer : goal.returns-then-integer
returns-then-integer c =
    let number = c.signed_number.result in
    let fits : SFits w128 number = search rules in
    let width = bits_of c.args.integer.width / 8 in
    let values = c.args.values.now in
    to_z-of_z w128 number fits ∙ c.signed_number.ensures
    ∙ ap (twos_complement width) c.unsigned_at-number.ensures
    ∙ sym (ap (λ (b : Bool). integer_of width b (number_at width values c.args.i)) c.if-integer.true)

pub returns-else-integer : goal.returns-else-integer
returns-else-integer c =
    let number = c.from.result in
    let fits : SFits w128 number = search rules in
    let width = bits_of c.args.integer.width / 8 in
    let values = c.args.values.now in
    to_z-of_z w128 number fits ∙ c.from.ensures
    ∙ ap pos c.unsigned_at-number.ensures
    ∙ sym (ap (λ (b : Bool). integer_of width b (number_at width values c.args.i)) c.if-integer.false)
