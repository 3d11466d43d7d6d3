use Rattle.std.specs.Prelude.{string_bytes}
use Rattle.std.proofs.Common.{◌≡◌, ◌∙◌, ℕ, List, false, map, refl, subst}
use Rattle.std.proofs.lemmas.List.{take_all}
use Rattle.arrow_schema.specs.Column.{columns_of}
use Rattle.arrow_schema.specs.View.{column_of}
use Rattle.arrow_schema.specs.declared.types.Field.{Field}
use Rattle.text_import.specs.Objects.{names_of, repeats}
use Rattle.text_columns.specs.inner.Kept.{key_list}
use Rattle.text_import.proofs.ObjectLemmas.{repeats_more}
use Rattle.text_columns.proofs.LineRows.{name_added}
use Rattle.text_columns.proofs.members.names_of.Goals as goal

pub loop-field-preserved : goal.loop-field-preserved
loop-field-preserved c =
    let old = key_list c.loop-field.names.keys in
    let added = rw c.as_bytes.ensures.value at (c.in_ok-add_key.ensures.keys c.if-not-branch.false) in
    let fresh = rw c.as_bytes.ensures.value at (c.in_ok-add_key.ensures.fresh c.if-not-branch.false) in
    record {
      named = name_added c.args.fields.now c.loop-field.field-index c.field-item.result old (key_list c.add_key.new.keys.keys) c.loop-field-test.true c.field-item.is c.loop-field.invariant.named added;
      distinct = rw added (repeats_more old (string_bytes c.field-item.result.name) ∙ rw (fresh, c.loop-field.invariant.distinct) refl);
    }

pub returns : goal.returns
returns c =
    let all = take_all c.loop-field.field-index c.args.fields.now c.loop-field-test.false in
    let named = subst (λ (fs : List Field). key_list c.loop-field.names.keys ≡ names_of (columns_of (map column_of fs))) all c.loop-field.invariant.named in
    (named, subst (λ (names : List (List ℕ)). repeats names ≡ false) named c.loop-field.invariant.distinct)
