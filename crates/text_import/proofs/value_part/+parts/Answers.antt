use Rattle.std.proofs.Common.{◌≡◌, ◌∙◌, ◌+◌, ◌++◌, ℕ, List, sym, ap, [], map, drop, arith, rules}
use Rattle.std.specs.Prelude.{Some, None, option_map}
use Rattle.std.proofs.lemmas.List.{drop_all}
use Rattle.facts.specs.laws.Lists.{drop-item}
use Rattle.serde_json.specs.View.{view, items_view, members_view}
use Rattle.arrow_schema.specs.declared.types.Field.{the_lemmas as field_lemmas}
use Rattle.arrow_schema.specs.Column.{fixed_lists, columns_of}
use Rattle.arrow_schema.specs.Parts.{name_of_column, kind_of_column}
use Rattle.arrow_schema.specs.View.{column_of, kind_of}
use Rattle.text_import.specs.Objects.{column_count}
use Rattle.text_import.specs.ValuePart.{value_part_of, dot, below, items_part, cell_part, kind_part, part_by_place}
use Rattle.text_import.specs.inner.Names.{member_part_of}
use Rattle.text_import.proofs.ObjectLemmas.{column_count_is}
use Rattle.text_import.proofs.ValuePartLemmas.{sized_no, sized_yes, place_named, place_passed, no_place, name_named, name_passed, no_name}
use Rattle.text_import.proofs.value_part.+parts.Goals as goal

pub kind_part-returns-in-FixedSizeList : goal.kind_part-returns-in-FixedSizeList
unfolding kind_part
kind_part-returns-in-FixedSizeList t c =
    let own : kind_of_column (column_of c.args.field.now) ≡ kind_of c.args.field.now.data_type = search (rules, field_lemmas) in
    let kind : kind_of_column (column_of c.args.field.now) ≡ fixed_lists c.in-FixedSizeList.size (column_of c.in-FixedSizeList.item.value) = own ∙ rw c.in-FixedSizeList.is (search (rules, field_lemmas)) in
    rw kind (rw c.deref-in-FixedSizeList.ensures at c.fixed_list_part.ensures)

pub placed_part-returns : goal.placed_part-returns
placed_part-returns t c =
    let columns = columns_of (map column_of c.args.fields.now) in
    rw (sized_yes (column_count columns) (part_by_place c.args.date_form dot 0 columns) c.args.values.now (c.if-values-fields.false ∙ sym (column_count_is c.args.fields.now))) c.part_by_place.ensures

pub sized_part-returns-then-values-wanted : goal.sized_part-returns-then-values-wanted
sized_part-returns-then-values-wanted t c =
    ap Some c.itself.ensures ∙ sym (sized_no c.args.size (items_part 0 (cell_part c.args.date_form (column_of c.args.item.now))) c.args.values.now c.if-values-wanted.true)

pub sized_part-returns : goal.sized_part-returns
sized_part-returns t c = rw (sized_yes c.args.size (items_part 0 (cell_part c.args.date_form (column_of c.args.item.now))) c.args.values.now c.if-values-wanted.false) c.items_part.ensures

pub part_by_place-returns-in-Some : goal.part_by_place-returns-in-Some
part_by_place-returns-in-Some t c =
    let i = c.loop-i.i in
    let f = c.index-fields-i.result in
    let v = c.index-values-i.result in
    let item = drop-item c.args.fields.now i f c.loop-i-test.true c.index-fields-i.is in
    let value = drop-item c.args.values.now i v (omega arith) c.index-values-i.is in
    let kept = rw (item, value) at c.loop-i.invariant in
    let part = value_part_of c.in-Some.part in
    let found : cell_part c.args.date_form (column_of f) (view v) ≡ Some part = sym c.in_ok-part.ensures ∙ ap (option_map value_part_of) c.in-Some.is in
    let path : value_part_of c.in_ok-below_name.field-0 ≡ below (c.args.before.now ++ name_of_column (column_of f)) i part
    = c.in_ok-below_name.ensures ∙ ap (λ (n : List ℕ). below (c.args.before.now ++ n) i part) c.name_of.ensures in
    ap Some path
    ∙ sym (place_named c.args.date_form c.args.before.now i (column_of f) (columns_of (map column_of (drop (i + 1) c.args.fields.now))) v (drop (i + 1) c.args.values.now) part found)
    ∙ kept

pub part_by_place-loop-i-preserved : goal.part_by_place-loop-i-preserved
part_by_place-loop-i-preserved t c =
    let i = c.loop-i.i in
    let f = c.index-fields-i.result in
    let v = c.index-values-i.result in
    let item = drop-item c.args.fields.now i f c.loop-i-test.true c.index-fields-i.is in
    let value = drop-item c.args.values.now i v (omega arith) c.index-values-i.is in
    let kept = rw (item, value) at c.loop-i.invariant in
    let none : cell_part c.args.date_form (column_of f) (view v) ≡ None = sym c.in_ok-part.ensures ∙ ap (option_map value_part_of) c.in_default.is in
    sym (place_passed c.args.date_form c.args.before.now i (column_of f) (columns_of (map column_of (drop (i + 1) c.args.fields.now))) v (drop (i + 1) c.args.values.now) none) ∙ kept

pub part_by_place-returns : goal.part_by_place-returns
part_by_place-returns t c =
    let none : drop c.loop-i.i c.args.fields.now ≡ [] = drop_all c.loop-i.i c.args.fields.now (omega arith) in
    sym (no_place c.args.date_form c.args.before.now c.loop-i.i (items_view (drop c.loop-i.i c.args.values.now))) ∙ rw none at c.loop-i.invariant

pub part_by_name-returns-in-Some : goal.part_by_name-returns-in-Some
part_by_name-returns-in-Some t c =
    let i = c.loop-i.i in
    let f = c.index-fields-i.result in
    let ms = members_view c.args.members.now.entries in
    let item = drop-item c.args.fields.now i f c.loop-i-test.true c.index-fields-i.is in
    let kept = rw item at c.loop-i.invariant in
    let part = value_part_of c.in-Some.part in
    let found : member_part_of c.args.date_form (column_of f) ms ≡ Some part = sym c.in_ok-part.ensures ∙ ap (option_map value_part_of) c.in-Some.is in
    let path : value_part_of c.in_ok-below_name.field-0 ≡ below (c.args.before.now ++ name_of_column (column_of f)) i part
    = c.in_ok-below_name.ensures ∙ ap (λ (n : List ℕ). below (c.args.before.now ++ n) i part) c.name_of.ensures in
    ap Some path ∙ sym (name_named c.args.date_form c.args.before.now i (column_of f) (columns_of (map column_of (drop (i + 1) c.args.fields.now))) ms part found) ∙ kept

pub part_by_name-loop-i-preserved : goal.part_by_name-loop-i-preserved
part_by_name-loop-i-preserved t c =
    let i = c.loop-i.i in
    let f = c.index-fields-i.result in
    let ms = members_view c.args.members.now.entries in
    let item = drop-item c.args.fields.now i f c.loop-i-test.true c.index-fields-i.is in
    let kept = rw item at c.loop-i.invariant in
    let none : member_part_of c.args.date_form (column_of f) ms ≡ None = sym c.in_ok-part.ensures ∙ ap (option_map value_part_of) c.in_default.is in
    sym (name_passed c.args.date_form c.args.before.now i (column_of f) (columns_of (map column_of (drop (i + 1) c.args.fields.now))) ms none) ∙ kept

pub part_by_name-returns : goal.part_by_name-returns
part_by_name-returns t c =
    let none : drop c.loop-i.i c.args.fields.now ≡ [] = drop_all c.loop-i.i c.args.fields.now (omega arith) in
    sym (no_name c.args.date_form c.args.before.now c.loop-i.i (members_view c.args.members.now.entries)) ∙ rw none at c.loop-i.invariant
