use Rattle.std.proofs.Common.{◌≡◌, true, ◌∙◌, sym}
use Rattle.json.specs.Lex.{may_begin}
use Rattle.text_columns.specs.inner.Stands.{place_of}
use Rattle.text_columns.proofs.plain_reader.PlainReader.next.Goals as goal

pub returns : goal.returns
returns c =
    let a = c.self.inside in
    let may : may_begin (place_of a.place) ≡ true = sym c.may_begin.ensures ∙ c.if-not-may_begin.false in
    record { value = sym c.self.view_is ∙ c.in_ok-step.ensures.first (place_of a.place) may }
