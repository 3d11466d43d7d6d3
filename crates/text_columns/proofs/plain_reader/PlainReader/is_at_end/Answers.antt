use Rattle.std.proofs.Common.{◌≡◌, true, ◌∙◌, arith, sym}
use Rattle.std.proofs.lemmas.Bool.{eqb-true}
use Rattle.json.specs.Lex.{may_close}
use Rattle.text_columns.specs.inner.Stands.{place_of}
use Rattle.text_columns.proofs.LineSteps.{at_last}
use Rattle.text_columns.proofs.plain_reader.PlainReader.is_at_end.Goals as goal

pub returns : goal.returns
returns c = λ yes.
    let a = c.self.inside in
    let may : may_close (place_of a.place) ≡ true = sym c.may_close.ensures ∙ c.if-not-may_close.false in
    let last = eqb-true _ _ yes in
    sym c.self.view_is ∙ at_last (place_of a.place) a.line.now a.at (omega (arith, last)) may
