use Rattle.std.proofs.Common.{◌≡◌, ◌∙◌, ◌+◌, suc, sym, ap, [], map, drop, true, false, arith}
use Rattle.std.specs.Prelude.{Some, bytes_eq}
use Rattle.std.proofs.lemmas.List.{drop_all}
use Rattle.facts.specs.laws.Lists.{drop-item}
use Rattle.csv.specs.Records.{fields_of}
use Rattle.arrow_schema.specs.Parts.{name_of_column}
use Rattle.arrow_schema.specs.View.{column_of}
use Rattle.text_import.specs.Part.{other_name}
use Rattle.text_import.proofs.PartLemmas.{name_differs, name_agrees, no_name, no_column_left}
use Rattle.text_import.proofs.part.other_name.Goals as goal

pub returns-in-None : goal.returns-in-None
returns-in-None c =
    sym (no_name (fields_of c.args.header.now) c.loop-i.i (map column_of (drop c.loop-i.i c.args.fields.now)) (sym c.in-None.ensures.value)) ∙ c.loop-i.invariant

pub returns-then-not-is_name_of : goal.returns-then-not-is_name_of
returns-then-not-is_name_of c =
    let i = c.loop-i.i in
    let f = c.index-fields-i.result in
    let t = c.in-Some.name.now in
    let item = drop-item c.args.fields.now i f c.loop-i-test.true c.index-fields-i.is in
    let kept = rw item at c.loop-i.invariant in
    let other : bytes_eq t (name_of_column (column_of f)) ≡ false = sym c.is_name_of.ensures ∙ c.if-not-is_name_of.true in
    ap Some c.in_ok-name_part-in-Some.ensures
    ∙ sym (name_differs (fields_of c.args.header.now) i (column_of f) (map column_of (drop (i + 1) c.args.fields.now)) t (sym c.in-Some.ensures.value) other)
    ∙ kept

pub loop-i-preserved : goal.loop-i-preserved
loop-i-preserved c =
    let i = c.loop-i.i in
    let f = c.index-fields-i.result in
    let t = c.in-Some.name.now in
    let item = drop-item c.args.fields.now i f c.loop-i-test.true c.index-fields-i.is in
    let kept = rw item at c.loop-i.invariant in
    let one : i + 1 ≡ suc i = omega arith in
    let same : bytes_eq t (name_of_column (column_of f)) ≡ true = sym c.is_name_of.ensures ∙ c.if-not-is_name_of.false in
    ap (λ k. other_name (drop k (fields_of c.args.header.now)) (map column_of (drop (i + 1) c.args.fields.now))) one
    ∙ sym (name_agrees (fields_of c.args.header.now) i (column_of f) (map column_of (drop (i + 1) c.args.fields.now)) t (sym c.in-Some.ensures.value) same)
    ∙ kept

pub returns : goal.returns
returns c =
    let none : drop c.loop-i.i c.args.fields.now ≡ [] = drop_all c.loop-i.i c.args.fields.now (omega arith) in
    sym (no_column_left (drop c.loop-i.i (fields_of c.args.header.now))) ∙ rw none at c.loop-i.invariant
