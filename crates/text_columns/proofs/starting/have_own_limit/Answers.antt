use Rattle.std.proofs.Common.{◌≡◌, ◌∙◌, ◌+◌, ◌++◌, List, ◌∷◌, [], ap, map, subst, sym, take}
use Rattle.std.proofs.lemmas.List.{map-append, take_all, take_more}
use Rattle.arrow_schema.specs.View.{column_of}
use Rattle.arrow_schema.specs.declared.types.Field.{Field}
use Rattle.arrow_schema.specs.laws.Parts.{index_of_field}
use Rattle.cells.specs.Dictionary.{has_limit}
use Rattle.text_columns.specs.inner.Kept.{AreUnlimited}
use Rattle.text_columns.proofs.Starts.{unlimited_more, unlimited_none}
use Rattle.text_columns.proofs.starting.have_own_limit.Goals as goal

pub loop-field-init : goal.loop-field-init
loop-field-init c = unlimited_none

pub loop-field-preserved : goal.loop-field-preserved
loop-field-preserved c =
    let f = c.field-item.result in
    let i = c.loop-field.field-index in
    let before = take i c.args.fields.now in
    let more : take (i + 1) c.args.fields.now ≡ before ++ f ∷ [] = take_more c.args.fields.now i f c.loop-field-test.true ∙ ap (λ (x : Field). before ++ x ∷ []) (sym c.field-item.is) in
    rw (more, map-append column_of before (f ∷ [])) (unlimited_more (map column_of before) (column_of f) (ap has_limit (index_of_field f) ∙ sym c.has_limit.ensures ∙ c.if-has_limit.false) c.loop-field.invariant)

pub returns : goal.returns
returns c = λ no.
    let all = take_all c.loop-field.field-index c.args.fields.now c.loop-field-test.false in
    subst (λ (fs : List Field). AreUnlimited (map column_of fs)) all c.loop-field.invariant
