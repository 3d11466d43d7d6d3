use Rattle.std.proofs.Common.{◌≡◌, ◌∙◌, ◌+◌, sym, ap, [], ◌∷◌, map, drop, true, false, arith}
use Rattle.std.specs.Prelude.{Some}
use Rattle.std.proofs.lemmas.List.{drop_all, drop_more}
use Rattle.facts.specs.laws.Lists.{drop-item}
use Rattle.csv.specs.Records.{fields_of}
use Rattle.arrow_schema.specs.View.{column_of}
use Rattle.text_import.specs.Flat.{field_cell}
use Rattle.text_import.specs.ValuePart.{is_refused}
use Rattle.text_import.proofs.PartLemmas.{field_named, field_passed, no_field}
use Rattle.text_import.proofs.part.refused_field.Goals as goal
use Rattle.text_import.specs.FieldForm.{field_form}

pub loop-i-preserved : goal.loop-i-preserved
loop-i-preserved c =
    let i = c.loop-i.i in
    let f = c.index-fields-i.result in
    let t = c.record_field-text.result.now in
    let item = drop-item c.args.fields.now i f c.loop-i-test.true c.index-fields-i.is in
    let text : drop i (fields_of c.args.row.now) ≡ t ∷ drop (i + 1) (fields_of c.args.row.now) = rw c.record_field-text.ensures (drop_more (fields_of c.args.row.now) i [] (omega arith)) in
    let kept = rw (item, text) at c.loop-i.invariant in
    let cell : is_refused (field_cell (field_form c.args.form.now) (column_of f) t) ≡ false = sym (c.in_ok-is_refused.ensures (field_cell (field_form c.args.form.now) (column_of f) t) c.field_cell.ensures) ∙ c.if-branch.false in
    sym (field_passed (field_form c.args.form.now) i (column_of f) (map column_of (drop (i + 1) c.args.fields.now)) t (drop (i + 1) (fields_of c.args.row.now)) cell) ∙ kept

pub returns-then-branch : goal.returns-then-branch
returns-then-branch c =
    let i = c.loop-i.i in
    let f = c.index-fields-i.result in
    let t = c.record_field-text.result.now in
    let item = drop-item c.args.fields.now i f c.loop-i-test.true c.index-fields-i.is in
    let text : drop i (fields_of c.args.row.now) ≡ t ∷ drop (i + 1) (fields_of c.args.row.now) = rw c.record_field-text.ensures (drop_more (fields_of c.args.row.now) i [] (omega arith)) in
    let kept = rw (item, text) at c.loop-i.invariant in
    let cell : is_refused (field_cell (field_form c.args.form.now) (column_of f) t) ≡ true = sym (c.in_ok-is_refused.ensures (field_cell (field_form c.args.form.now) (column_of f) t) c.field_cell.ensures) ∙ c.if-branch.true in
    ap Some c.in_ok-field_part.ensures
    ∙ sym (field_named (field_form c.args.form.now) i (column_of f) (map column_of (drop (i + 1) c.args.fields.now)) t (drop (i + 1) (fields_of c.args.row.now)) cell)
    ∙ kept

pub returns : goal.returns
returns c =
    let none : drop c.loop-i.i c.args.fields.now ≡ [] = drop_all c.loop-i.i c.args.fields.now (omega arith) in
    sym (no_field (field_form c.args.form.now) c.loop-i.i (drop c.loop-i.i (fields_of c.args.row.now))) ∙ rw none at c.loop-i.invariant
