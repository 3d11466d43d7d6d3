use Rattle.std.proofs.Common.{◌≡◌, ◌<◌, ◌≤◌, ◌∙◌, List, length, ap, sym, arith}
use Rattle.std.proofs.lemmas.List.{drop_all}
use Rattle.facts.specs.laws.Lists.{drop-item}
use Rattle.arrow_schema.specs.declared.types.Field.{Field}
use Rattle.arrow_schema.specs.Column.{and_column}
use Rattle.arrow_schema.specs.View.{column_of}
use Rattle.columns.specs.View.{fields_of}
use Rattle.ipc_encode.specs.inner.Encoding.{encoding, encodings}
use Rattle.ipc_encode.proofs.same_encoding.+encoding.Goals as goal

pub have_same_encodings-loop-i-preserved : goal.have_same_encodings-loop-i-preserved
unfolding encodings
have_same_encodings-loop-i-preserved t c =
    let i = c.loop-i.i in
    let same : encoding (column_of c.index-fields-i.result) ≡ encoding (column_of c.index-others-i.result) = c.has_same_encoding.ensures c.if-not-has_same_encoding.false in
    let within : i < length c.args.others.now = omega arith in
    λ rest. c.loop-i.invariant (
    ap (λ (fs : List Field). encodings (fields_of fs)) (drop-item c.args.fields.now i c.index-fields-i.result c.loop-i-test.true c.index-fields-i.is)
    ∙ (λ j. and_column (same j) (rest j))
    ∙ sym (ap (λ (fs : List Field). encodings (fields_of fs)) (drop-item c.args.others.now i c.index-others-i.result within c.index-others-i.is))
    )

pub have_same_encodings-returns : goal.have_same_encodings-returns
have_same_encodings-returns t c = λ _.
    let past : length c.args.others.now ≤ c.loop-i.i = omega arith in
    c.loop-i.invariant (ap (λ (fs : List Field). encodings (fields_of fs)) (drop_all c.loop-i.i c.args.fields.now c.loop-i-test.false ∙ sym (drop_all c.loop-i.i c.args.others.now past)))
