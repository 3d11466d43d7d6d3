use Rattle.std.proofs.Common.{◌≡◌, ◌∙◌, ◌+◌, sym, ap, [], map, drop, arith}
use Rattle.std.specs.Prelude.{Some}
use Rattle.std.proofs.lemmas.List.{drop_all}
use Rattle.facts.specs.laws.Lists.{drop-item}
use Rattle.arrow_schema.specs.View.{column_of}
use Rattle.text_import.proofs.PartLemmas.{column_nested, column_flat, none_nested}
use Rattle.text_import.proofs.part.nested_part.Goals as goal

pub returns-then-is_nested : goal.returns-then-is_nested
returns-then-is_nested c =
    let i = c.loop-field.field-index in
    let f = c.field-item.result in
    let item = drop-item c.args.fields.now i f c.loop-field-test.true c.field-item.is in
    ap Some c.in_ok-nested_column.ensures
    ∙ sym (column_nested (column_of f) (map column_of (drop (i + 1) c.args.fields.now)) (sym c.is_nested.ensures ∙ c.if-is_nested.true))
    ∙ rw item at c.loop-field.invariant

pub loop-field-preserved : goal.loop-field-preserved
loop-field-preserved c =
    let i = c.loop-field.field-index in
    let f = c.field-item.result in
    let item = drop-item c.args.fields.now i f c.loop-field-test.true c.field-item.is in
    sym (column_flat (column_of f) (map column_of (drop (i + 1) c.args.fields.now)) (sym c.is_nested.ensures ∙ c.if-is_nested.false)) ∙ rw item at c.loop-field.invariant

pub returns : goal.returns
returns c =
    let none : drop c.loop-field.field-index c.args.fields.now ≡ [] = drop_all c.loop-field.field-index c.args.fields.now (omega arith) in
    sym none_nested ∙ rw none at c.loop-field.invariant
