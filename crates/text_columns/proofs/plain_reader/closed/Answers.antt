use Rattle.std.proofs.Common.{◌<◌, ◌∙◌, arith, length}
use Rattle.std.proofs.lemmas.Option.{IfSome_then}
use Rattle.text_columns.proofs.LineSteps.{closes_array, closes_object}
use Rattle.text_columns.proofs.plain_reader.closed.Goals as goal

pub returns-clause-array : goal.returns-clause-array
returns-clause-array c =
    let within : c.args.from < length c.args.line.now = omega (arith, c.requires, c.if-from-line.false) in
    IfSome_then c.after_value.result c.after_value.ensures (λ s f e. closes_array c.args.line.now c.args.from s within (c.if-line-from.false ∙ e) f)

pub returns-clause-object : goal.returns-clause-object
returns-clause-object c =
    let within : c.args.from < length c.args.line.now = omega (arith, c.requires, c.if-from-line.false) in
    IfSome_then c.after_value.result c.after_value.ensures (λ s f e. closes_object c.args.line.now c.args.from s within (c.if-line-from.false ∙ e) f)

pub returns-clause-within : goal.returns-clause-within
returns-clause-within c = IfSome_then c.after_value.result c.after_value.ensures (λ s f. f.within)
