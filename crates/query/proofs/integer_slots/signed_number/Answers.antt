use mir.Val.{SFits}
use Rattle.std.specs.Int.{w128}
use Rattle.std.proofs.Common.{◌∙◌, rules}
use Rattle.std.proofs.lemmas.Int.{to_z-of_z}
use Rattle.query.proofs.OrderAnswers.{folded_is}
use Rattle.query.proofs.integer_slots.signed_number.Goals as goal

pub returns : goal.returns
returns c =
    let number = c.folded.result in
    let fits : SFits w128 number = search rules in
    to_z-of_z w128 number fits ∙ c.folded.ensures ∙ folded_is c.args.width c.least_negative.result c.args.number c.least_negative.ensures.value
