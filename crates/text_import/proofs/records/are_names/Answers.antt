use Rattle.std.proofs.Common.{◌≡◌, ◌∙◌, ◌+◌, suc, sym, ap, [], map, drop, true, false, arith}
use Rattle.std.proofs.lemmas.List.{drop_all, length-map}
use Rattle.facts.specs.laws.Lists.{drop-item}
use Rattle.csv.specs.Records.{fields_of}
use Rattle.arrow_schema.specs.View.{column_of}
use Rattle.text_import.specs.Records.{are_names}
use Rattle.text_import.proofs.RecordLemmas.{name_here, names_of_other_length, all_names}
use Rattle.text_import.proofs.records.are_names.Goals as goal

pub returns-then-len-fields : goal.returns-then-len-fields
returns-then-len-fields c =
    sym (names_of_other_length (fields_of c.args.row.now) (map column_of c.args.fields.now) (λ e. c.if-len-fields.true (c.len.ensures ∙ e ∙ length-map c.args.fields.now column_of)))

pub returns-then-not-is_field : goal.returns-then-not-is_field
returns-then-not-is_field c =
    let f = c.index-fields-i.result in
    let i = c.loop-i.i in
    let item = drop-item c.args.fields.now i f c.loop-i-test.true c.index-fields-i.is in
    let kept = rw item at c.loop-i.invariant in
    sym (name_here (fields_of c.args.row.now) i (column_of f) (map column_of (drop (i + 1) c.args.fields.now)) false (sym c.is_field.ensures ∙ c.if-not-is_field.true)) ∙ kept

pub loop-i-preserved : goal.loop-i-preserved
loop-i-preserved c =
    let f = c.index-fields-i.result in
    let i = c.loop-i.i in
    let item = drop-item c.args.fields.now i f c.loop-i-test.true c.index-fields-i.is in
    let kept = rw item at c.loop-i.invariant in
    let one : i + 1 ≡ suc i = omega arith in
    ap (λ k. are_names (drop k (fields_of c.args.row.now)) (map column_of (drop (i + 1) c.args.fields.now))) one
    ∙ sym (name_here (fields_of c.args.row.now) i (column_of f) (map column_of (drop (i + 1) c.args.fields.now)) true (sym c.is_field.ensures ∙ c.if-not-is_field.false))
    ∙ kept

pub returns : goal.returns
returns c =
    let a : drop c.loop-i.i c.args.fields.now ≡ [] = drop_all c.loop-i.i c.args.fields.now (omega arith) in
    let b : drop c.loop-i.i (fields_of c.args.row.now) ≡ [] = drop_all c.loop-i.i (fields_of c.args.row.now) (omega arith) in
    sym all_names ∙ rw (a, b) at c.loop-i.invariant
