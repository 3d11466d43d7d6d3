use Rattle.std.proofs.Common.{◌≡◌, ◌∙◌, ◌++◌, List, ℕ, map, sym, ap, string_bytes, append_assoc, rules}
use Rattle.std.proofs.lemmas.Result.{on_ok_weaker}
use Rattle.std.specs.Prelude.{codes}
use Rattle.facts.specs.laws.Lists.{drop-item}
use Rattle.arrow_schema.specs.declared.types.Field.{the_lemmas}
use Rattle.arrow_schema.specs.Column.{Kind, columns_of, timestamps, fixed_binaries, lists, large_lists, fixed_lists, structs}
use Rattle.arrow_schema.specs.View.{time_kind, kind_of, column_of, index_of}
use Rattle.field_texts.specs.Keywords.{number_text}
use Rattle.field_texts.specs.FieldText.{dictionary_text, type_text, field_text, item_text, fields_text, more_text}
use Rattle.field_texts.specs.inner.Printed.{front_text, rest_text, bare_text, style_of}
use Rattle.field_texts.proofs.Printing.{pushed_last, two_before, three_behind, type_in_parts}
use Rattle.field_texts.proofs.print.+print.Goals as goal

pub push_fields-loop-field-preserved : goal.push_fields-loop-field-preserved
unfolding more_text
push_fields-loop-field-preserved t c =
    let i = c.loop-field.field-index in
    let others = c.in-Some.others.now in
    let f = c.field-item.result in
    let left = rw (drop-item others i f c.loop-field-test.true c.field-item.is) at c.loop-field.invariant in
    two_before (string_bytes c.loop-field.text) (string_bytes c.push_str.new.self) (string_bytes c.push_field-in-loop-field.new.text) (codes ",") (field_text (style_of c.args.form) (column_of f)) _
    c.in_ok-push_str.ensures.bytes c.in_ok-push_field-2.ensures
    ∙ left

pub push_list_item-returns : goal.push_list_item-returns
push_list_item-returns t c =
    pushed_last c.push_str.result (string_bytes c.push_item.new.text) _ (codes ">") _ c.push_str.ensures.bytes (
    ap (λ (xs : List ℕ). xs ++ codes ">") c.in_ok-push_item.ensures
    ∙ append_assoc (string_bytes c.args.text.now) (item_text (style_of c.args.form) (column_of c.args.item.now)) (codes ">")
    )

pub push_with_dictionary-returns-in_ok-push_type-in-Some : goal.push_with_dictionary-returns-in_ok-push_type-in-Some
push_with_dictionary-returns-in_ok-push_type-in-Some t c =
    rw c.in-Some.is (
    pushed_last c.push_str.result _ _ (codes ">") _ c.push_str.ensures.bytes
    (two_before (string_bytes c.args.text.now) _ _ (dictionary_text (index_of c.in-Some.dictionary)) (type_text (style_of c.args.form) (kind_of c.args.field.now.data_type)) (codes ">") c.in_ok-push_dictionary-in-Some.ensures c.in_ok-push_type-in-Some.ensures)
    )

pub push_type-returns : goal.push_type-returns
push_type-returns t c =
    let old = string_bytes c.args.text.now in
    let kind = kind_of c.args.data_type.now in
    let style = style_of c.args.form in
    let named : string_bytes c.push_str.new.self ≡ old ++ front_text kind = rw (c.text.ensures, c.keyword_of.ensures) at c.in_ok-push_str.ensures.bytes in
    on_ok_weaker c.push_rest.result
    (λ e. e ∙ ap (λ (xs : List ℕ). xs ++ rest_text style kind) named ∙ append_assoc old (front_text kind) (rest_text style kind) ∙ ap (λ (xs : List ℕ). old ++ xs) (type_in_parts style kind)) c.push_rest.ensures

pub push_rest-returns-in-Timestamp : goal.push_rest-returns-in-Timestamp
push_rest-returns-in-Timestamp t c =
    let kind : kind_of c.args.data_type.now ≡ timestamps (time_kind c.in-Timestamp.field-0) (string_bytes c.in-Timestamp.timezone) = rw c.in-Timestamp.is (search (rules, the_lemmas)) in
    on_ok_weaker c.push_timezone.result (λ e. e ∙ ap (λ (k : Kind). string_bytes c.args.text.now ++ rest_text (style_of c.args.form) k) (sym kind)) (rw c.as_str.ensures.value at c.push_timezone.ensures)

pub push_rest-returns-in_ok-push_number-in-FixedSizeBinary : goal.push_rest-returns-in_ok-push_number-in-FixedSizeBinary
push_rest-returns-in_ok-push_number-in-FixedSizeBinary t c =
    let old = string_bytes c.args.text.now in
    let width = c.in-FixedSizeBinary.width in
    let kind : kind_of c.args.data_type.now ≡ fixed_binaries width = rw c.in-FixedSizeBinary.is (search (rules, the_lemmas)) in
    pushed_last c.push_str.result (string_bytes c.push_number.new.text) _ (codes ")") _ c.push_str.ensures.bytes (
    ap (λ (xs : List ℕ). xs ++ codes ")") c.in_ok-push_number-in-FixedSizeBinary.ensures
    ∙ append_assoc old (number_text width) (codes ")")
    ∙ ap (λ (k : Kind). old ++ rest_text (style_of c.args.form) k) (sym kind)
    )

pub push_rest-returns-in-List : goal.push_rest-returns-in-List
push_rest-returns-in-List t c =
    let kind : kind_of c.args.data_type.now ≡ lists (column_of c.in-List.item.value) = rw c.in-List.is (search (rules, the_lemmas)) in
    on_ok_weaker c.push_list_item.result (λ e. e ∙ ap (λ (k : Kind). string_bytes c.args.text.now ++ rest_text (style_of c.args.form) k) (sym kind)) (rw c.deref.ensures at c.push_list_item.ensures)

pub push_rest-returns-in-LargeList : goal.push_rest-returns-in-LargeList
push_rest-returns-in-LargeList t c =
    let kind : kind_of c.args.data_type.now ≡ large_lists (column_of c.in-LargeList.item.value) = rw c.in-LargeList.is (search (rules, the_lemmas)) in
    on_ok_weaker c.push_list_item-in-LargeList.result (λ e. e ∙ ap (λ (k : Kind). string_bytes c.args.text.now ++ rest_text (style_of c.args.form) k) (sym kind)) (rw c.deref-in-LargeList.ensures at c.push_list_item-in-LargeList.ensures)

pub push_rest-returns-in_ok-push_item-in-FixedSizeList : goal.push_rest-returns-in_ok-push_item-in-FixedSizeList
push_rest-returns-in_ok-push_item-in-FixedSizeList t c =
    let old = string_bytes c.args.text.now in
    let size = c.in-FixedSizeList.size in
    let item = column_of c.in-FixedSizeList.item.value in
    let kind : kind_of c.args.data_type.now ≡ fixed_lists size item = rw c.in-FixedSizeList.is (search (rules, the_lemmas)) in
    let written = three_behind old (string_bytes c.push_number-in-FixedSizeList.new.text) (string_bytes c.push_str-in-FixedSizeList.new.self) (string_bytes c.push_item.new.text) (number_text size) (codes ",") (item_text (style_of c.args.form) item)
    c.in_ok-push_number-in-FixedSizeList.ensures c.in_ok-push_str-in-FixedSizeList.ensures.bytes
    (rw c.deref-in-FixedSizeList.ensures at c.in_ok-push_item-in-FixedSizeList.ensures) in
    pushed_last c.push_str-in-FixedSizeList-2.result (string_bytes c.push_item.new.text) _ (codes ")") _ c.push_str-in-FixedSizeList-2.ensures.bytes (
    ap (λ (xs : List ℕ). xs ++ codes ")") written
    ∙ append_assoc old (number_text size ++ codes "," ++ item_text (style_of c.args.form) item) (codes ")")
    ∙ ap (λ (k : Kind). old ++ rest_text (style_of c.args.form) k) (sym kind)
    )

pub push_rest-returns-in_ok-push_fields-in-Struct : goal.push_rest-returns-in_ok-push_fields-in-Struct
push_rest-returns-in_ok-push_fields-in-Struct t c =
    let old = string_bytes c.args.text.now in
    let fields = columns_of (map column_of c.in-Struct.fields.items) in
    let kind : kind_of c.args.data_type.now ≡ structs fields = rw c.in-Struct.is (search (rules, the_lemmas)) in
    let written : string_bytes c.push_fields.new.text ≡ old ++ fields_text (style_of c.args.form) fields = rw c.deref-in-Struct.ensures.value at c.in_ok-push_fields-in-Struct.ensures in
    pushed_last c.push_str-in-Struct.result (string_bytes c.push_fields.new.text) _ (codes ">") _ c.push_str-in-Struct.ensures.bytes (
    ap (λ (xs : List ℕ). xs ++ codes ">") written
    ∙ append_assoc old (fields_text (style_of c.args.form) fields) (codes ">")
    ∙ ap (λ (k : Kind). old ++ rest_text (style_of c.args.form) k) (sym kind)
    )
