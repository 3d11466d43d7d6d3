use Rattle.std.proofs.Common.{◌≡◌, ◌∙◌, ◌+◌, sym, [], ◌∷◌, ◌++◌, map, drop, true, false, refl, append_assoc, append-nil, arith}
use Rattle.std.proofs.lemmas.Bool.{not-false, not-true, false≢true}
use Rattle.std.proofs.lemmas.List.{drop_all}
use Rattle.facts.specs.laws.Lists.{drop-item}
use Rattle.facts.specs.Texts.{text_list}
use Rattle.arrow_schema.specs.Column.{columns_of}
use Rattle.arrow_schema.specs.View.{column_of}
use Rattle.arrow_schema.specs.Parts.{name_of_column}
use Rattle.text_import.specs.Objects.{names_of, has_name}
use Rattle.text_import.proofs.ObjectLemmas.{repeats_at, repeats_more}
use Rattle.text_import.proofs.objects.add_names.Goals as goal

pub returns-then-not-branch : goal.returns-then-not-branch
returns-then-not-branch c =
    let i = c.loop-field.field-index in
    let f = c.field-item.result in
    let item = drop-item c.args.fields.now i f c.loop-field-test.true c.field-item.is in
    let all = rw item at c.loop-field.invariant.gathered in
    let seen : has_name (text_list c.loop-field.names.keys) (name_of_column (column_of f)) ≡ true =
    not-false _ (rw c.name_of.ensures at (sym c.in_ok-add_name.ensures.added ∙ c.if-not-branch.true)) in
    record {
      repeated = λ _. rw (← all) (repeats_at (text_list c.loop-field.names.keys) (names_of (columns_of (map column_of (drop (i + 1) c.args.fields.now)))) (name_of_column (column_of f)) seen);
      added = λ e. absurd (false≢true e);
    }

pub loop-field-preserved : goal.loop-field-preserved
loop-field-preserved c =
    let i = c.loop-field.field-index in
    let f = c.field-item.result in
    let old = text_list c.loop-field.names.keys in
    let rest = names_of (columns_of (map column_of (drop (i + 1) c.args.fields.now))) in
    let item = drop-item c.args.fields.now i f c.loop-field-test.true c.field-item.is in
    let all = rw item at c.loop-field.invariant.gathered in
    let fresh : has_name old (name_of_column (column_of f)) ≡ false =
    not-true _ (rw c.name_of.ensures at (sym c.in_ok-add_name.ensures.added ∙ c.if-not-branch.false)) in
    let names : text_list c.add_name.new.names.keys ≡ old ++ name_of_column (column_of f) ∷ [] = rw c.name_of.ensures at (c.in_ok-add_name.ensures.names c.if-not-branch.false) in
    record {
      gathered = rw names (append_assoc old (name_of_column (column_of f) ∷ []) rest ∙ all);
      distinct = λ before. rw names (repeats_more old (name_of_column (column_of f)) ∙ rw (fresh, c.loop-field.invariant.distinct before) refl);
    }

pub returns : goal.returns
returns c =
    let none : drop c.loop-field.field-index c.args.fields.now ≡ [] = drop_all c.loop-field.field-index c.args.fields.now (omega arith) in
    record {
      repeated = λ e. absurd (false≢true (sym e));
      added = λ _ before. (sym (append-nil (text_list c.loop-field.names.keys)) ∙ rw none at c.loop-field.invariant.gathered, c.loop-field.invariant.distinct before);
    }
