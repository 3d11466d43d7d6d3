use Rattle.std.proofs.Common.{◌∙◌, map, ℕ, List, Bor, Vec}
use Rattle.std.proofs.lemmas.Result.{err_from_is_err_and}
use Rattle.std.proofs.lemmas.List.{map_push}
use Rattle.std.specs.Global.{Global}
use Rattle.arrow_schema.specs.declared.types.Field.{Field}
use Rattle.arrow_schema.specs.View.{column_of}
use Rattle.field_texts.proofs.Parsing.{next_text, text_fails, texts_done}
use Rattle.field_texts.proofs.parse.build_texts.Goals as goal

pub returns-in_err-field : goal.returns-in_err-field
returns-in_err-field c =
    let p = err_from_is_err_and c.from_residual.result c.from_residual.ensures.1 in
    rw (p.1, p.2) (text_fails {X = Field × Bor (List ℕ)} {Y = Vec Field Global} (λ p. (column_of p.0, p.1.now)) (λ v. map column_of v.items) _ c.args.texts.now c.loop-text.text-index _ (map column_of c.loop-text.fields.items) _ c.loop-text-test.true c.in_err-field.ensures c.loop-text.invariant)

pub loop-text-preserved : goal.loop-text-preserved
loop-text-preserved c =
    rw (c.in_ok-push.ensures.items, map_push column_of c.loop-text.fields.items c.in_ok-field.field)
    (next_text c.args.texts.now c.loop-text.text-index _ (map column_of c.loop-text.fields.items) (column_of c.in_ok-field.field) _ c.loop-text-test.true c.in_ok-field.ensures) ∙ c.loop-text.invariant

pub returns : goal.returns
returns c = texts_done c.args.texts.now c.loop-text.text-index (map column_of c.loop-text.fields.items) _ c.loop-text-test.false c.loop-text.invariant
