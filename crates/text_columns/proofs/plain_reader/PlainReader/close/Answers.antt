use Rattle.std.proofs.Common.{◌≡◌, true, ◌∙◌, sym}
use Rattle.json.specs.Lex.{may_close}
use Rattle.text_columns.specs.inner.Stands.{place_of}
use Rattle.text_columns.proofs.plain_reader.PlainReader.close.Goals as goal

pub returns-clause-closes : goal.returns-clause-closes
returns-clause-closes c = λ yes.
    let a = c.self.inside in
    let may : may_close (place_of a.place) ≡ true = sym c.may_close.ensures ∙ c.if-not-may_close.false in
    let found = c.in-Some.ensures in (
      λ e. sym c.self.view_is ∙ (rw c.as_bytes.ensures.value at found.array e).first (place_of a.place) may,
      λ e. sym c.self.view_is ∙ (rw c.as_bytes.ensures.value at found.object e).first (place_of a.place) may,
    )

pub invariant_of-self : goal.invariant_of-self
invariant_of-self c = rw c.as_bytes.ensures.value at c.in-Some.ensures.within
