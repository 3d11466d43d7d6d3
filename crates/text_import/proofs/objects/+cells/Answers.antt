use Rattle.std.specs.Prelude.{Result}
use Rattle.std.proofs.Common.{◌≡◌, ◌∙◌, ◌+◌, sym, ap, [], ◌∷◌, map, drop, arith, rules}
use Rattle.std.proofs.lemmas.List.{drop_all, map-append}
use Rattle.std.proofs.lemmas.Result.{err_from_is_err_and}
use Rattle.facts.specs.laws.Lists.{drop-item}
use Rattle.serde_json.specs.Data.{Members, array, object}
use Rattle.serde_json.specs.View.{view, items_view, members_view}
use Rattle.serde_json.specs.declared.value.Value.{the_lemmas as json_lemmas}
use Rattle.arrow_schema.specs.Column.{columns_of}
use Rattle.arrow_schema.specs.View.{column_of}
use Rattle.cells.specs.View.{cell}
use Rattle.text_import.specs.Objects.{cell_in, each_item, cells_by_place, cells_by_name, named_parts, names_of}
use Rattle.text_import.specs.Refusals.{and_then, refusal_of}
use Rattle.text_import.specs.declared.refusal.Refusal.{Refusal}
use Rattle.text_import.specs.inner.Names.{member_of, tested}
use Rattle.text_import.specs.laws.Behind.{told}
use Rattle.text_import.proofs.ObjectLemmas.{sized_no, sized_yes, named_first, item_more, item_refused, place_more, place_refused, places_end, name_more, name_refused, names_end}
use Rattle.text_import.proofs.RowLemmas.{cells_behind_end}
use Rattle.text_import.proofs.objects.+cells.Goals as goal

pub each_item-loop-value-preserved : goal.each_item-loop-value-preserved
each_item-loop-value-preserved t c =
    let i = c.loop-value.value-index in
    let item = drop-item c.args.values.now i c.value-item.result c.loop-value-test.true c.value-item.is in
    let kept = rw item at c.loop-value.invariant.cells in
    let more =
    item_more (cell_in c.args.date_form (column_of c.args.item.now)) (map cell c.loop-value.cells.items) c.value-item.result (drop (i + 1) c.args.values.now) (cell c.in_ok-cell_in.field-0) c.in_ok-cell_in.ensures in
    record {
      cells = rw (c.push_reserved.ensures.items, map-append cell c.loop-value.cells.items (c.in_ok-cell_in.field-0 ∷ [])) (sym more ∙ kept);
      len = omega (arith, c.push_reserved.ensures.len, c.loop-value.invariant.len);
      room = omega (arith, c.push_reserved.ensures.capacity, c.loop-value.invariant.room);
    }

pub each_item-returns : goal.each_item-returns
each_item-returns t c =
    let none : drop c.loop-value.value-index c.args.values.now ≡ [] = drop_all c.loop-value.value-index c.args.values.now (omega arith) in
    sym (rw none at c.loop-value.invariant.cells) ∙ cells_behind_end (map cell c.loop-value.cells.items)

pub cells_by_place-loop-i-preserved : goal.cells_by_place-loop-i-preserved
cells_by_place-loop-i-preserved t c =
    let i = c.loop-i.i in
    let f = c.index-fields-i.result in
    let item = drop-item c.args.fields.now i f c.loop-i-test.true c.index-fields-i.is in
    let value = drop-item c.args.values.now i c.index-values-i.result (omega arith) c.index-values-i.is in
    let kept = rw (item, value) at c.loop-i.invariant.cells in
    let more =
    place_more c.args.date_form
    (map cell c.loop-i.cells.items)
    (column_of f)
    (columns_of (map column_of (drop (i + 1) c.args.fields.now)))
    c.index-values-i.result
    (drop (i + 1) c.args.values.now)
    (cell c.in_ok-cell_in.field-0)
    c.in_ok-cell_in.ensures in
    record {
      cells = rw (c.push_reserved.ensures.items, map-append cell c.loop-i.cells.items (c.in_ok-cell_in.field-0 ∷ [])) (sym more ∙ kept);
      len = omega (arith, c.push_reserved.ensures.len, c.loop-i.invariant.len);
      room = omega (arith, c.push_reserved.ensures.capacity, c.loop-i.invariant.room);
    }

pub cells_by_place-returns : goal.cells_by_place-returns
cells_by_place-returns t c =
    let none : drop c.loop-i.i c.args.fields.now ≡ [] = drop_all c.loop-i.i c.args.fields.now (omega arith) in
    sym (rw none at c.loop-i.invariant.cells) ∙ places_end c.args.date_form (map cell c.loop-i.cells.items) (items_view (drop c.loop-i.i c.args.values.now))

pub cells_by_name-loop-field-preserved : goal.cells_by_name-loop-field-preserved
cells_by_name-loop-field-preserved t c =
    let i = c.loop-field.field-index in
    let item = drop-item c.args.fields.now i c.field-item.result c.loop-field-test.true c.field-item.is in
    let kept = rw item at c.loop-field.invariant.cells in
    let more =
    name_more c.args.date_form
    (map cell c.loop-field.cells.items)
    (column_of c.field-item.result)
    (columns_of (map column_of (drop (i + 1) c.args.fields.now)))
    (members_view c.args.members.now.entries)
    (cell c.in_ok-member_in.field-0)
    c.in_ok-member_in.ensures in
    record {
      cells = rw (c.push_reserved.ensures.items, map-append cell c.loop-field.cells.items (c.in_ok-member_in.field-0 ∷ [])) (sym more ∙ kept);
      len = omega (arith, c.push_reserved.ensures.len, c.loop-field.invariant.len);
      room = omega (arith, c.push_reserved.ensures.capacity, c.loop-field.invariant.room);
    }

pub cells_by_name-returns : goal.cells_by_name-returns
cells_by_name-returns t c =
    let none : drop c.loop-field.field-index c.args.fields.now ≡ [] = drop_all c.loop-field.field-index c.args.fields.now (omega arith) in
    sym (rw none at c.loop-field.invariant.cells) ∙ names_end c.args.date_form (map cell c.loop-field.cells.items) (members_view c.args.members.now.entries)

pub sized_items-returns-then-values-size : goal.sized_items-returns-then-values-size
sized_items-returns-then-values-size t c = sized_no c.args.size (each_item (cell_in c.args.date_form (column_of c.args.item.now))) c.args.values.now c.if-values-size.true

pub sized_items-returns : goal.sized_items-returns
sized_items-returns t c = rw (sized_yes c.args.size (each_item (cell_in c.args.date_form (column_of c.args.item.now))) c.args.values.now c.if-values-size.false) c.each_item.ensures

pub cells_in-returns-in-Array : goal.cells_in-returns-in-Array
cells_in-returns-in-Array t c =
    let whole : view c.args.value.now ≡ array (items_view c.in-Array.values.items) = rw c.in-Array.is (search (rules, json_lemmas)) in
    rw whole (rw c.deref.ensures.value at c.sized_cells.ensures)

pub cells_in-returns-in_ok-test_names-in-Object : goal.cells_in-returns-in_ok-test_names-in-Object
cells_in-returns-in_ok-test_names-in-Object t c =
    let columns = columns_of (map column_of c.args.fields.now) in
    let members = members_view c.in-Object.members.entries in
    let whole : view c.args.value.now ≡ object members = rw c.in-Object.is (search (rules, json_lemmas)) in
    let f = cells_by_name c.args.date_form columns in
    let first : named_parts (names_of columns) f members ≡ f members = named_first (names_of columns) f members ∙ ap (λ (r : Result Members Refusal). and_then r f) c.in_ok-test_names-in-Object.ensures in
    rw whole (rw first c.cells_by_name.ensures)

pub cells_in-returns-in_err-test_names-in-Object : goal.cells_in-returns-in_err-test_names-in-Object
cells_in-returns-in_err-test_names-in-Object t c =
    let columns = columns_of (map column_of c.args.fields.now) in
    let members = members_view c.in-Object.members.entries in
    let whole : view c.args.value.now ≡ object members = rw c.in-Object.is (search (rules, json_lemmas)) in
    let f = cells_by_name c.args.date_form columns in
    let p = err_from_is_err_and c.from_residual.result c.from_residual.ensures.1 in
    rw (p.1, p.2) (rw whole (
    told
    (refusal_of c.in_err-test_names-in-Object.field-0.0)
    (tested (names_of columns) members)
    (named_parts (names_of columns) f members)
    c.in_err-test_names-in-Object.ensures
    (λ r e. named_first (names_of columns) f members ∙ ap (λ (x : Result Members Refusal). and_then x f) e)
    ))

pub each_item-returns-in_err-cell_in : goal.each_item-returns-in_err-cell_in
each_item-returns-in_err-cell_in t c =
    let f = cell_in c.args.date_form (column_of c.args.item.now) in
    let i = c.loop-value.value-index in
    let item = drop-item c.args.values.now i c.value-item.result c.loop-value-test.true c.value-item.is in
    let kept = rw item at c.loop-value.invariant.cells in
    let p = err_from_is_err_and c.from_residual-in_err-cell_in.result c.from_residual-in_err-cell_in.ensures.1 in
    rw (p.1, p.2) (
    told
    (refusal_of c.in_err-cell_in.field-0.0)
    (f (view c.value-item.result))
    (each_item f (items_view c.args.values.now))
    c.in_err-cell_in.ensures
    (λ r e. sym kept ∙ item_refused f (map cell c.loop-value.cells.items) c.value-item.result (drop (i + 1) c.args.values.now) r e)
    )

pub cells_by_place-returns-in_err-cell_in : goal.cells_by_place-returns-in_err-cell_in
cells_by_place-returns-in_err-cell_in t c =
    let i = c.loop-i.i in
    let f = c.index-fields-i.result in
    let item = drop-item c.args.fields.now i f c.loop-i-test.true c.index-fields-i.is in
    let value = drop-item c.args.values.now i c.index-values-i.result (omega arith) c.index-values-i.is in
    let kept = rw (item, value) at c.loop-i.invariant.cells in
    let p = err_from_is_err_and c.from_residual-in_err-cell_in.result c.from_residual-in_err-cell_in.ensures.1 in
    rw (p.1, p.2) (
    told
    (refusal_of c.in_err-cell_in.field-0.0)
    (cell_in c.args.date_form (column_of f) (view c.index-values-i.result))
    (cells_by_place c.args.date_form (columns_of (map column_of c.args.fields.now)) (items_view c.args.values.now))
    c.in_err-cell_in.ensures
    (λ r e. sym kept
    ∙ place_refused c.args.date_form
    (map cell c.loop-i.cells.items)
    (column_of f)
    (columns_of (map column_of (drop (i + 1) c.args.fields.now)))
    c.index-values-i.result
    (drop (i + 1) c.args.values.now)
    r
    e)
    )

pub cells_by_name-returns-in_err-member_in : goal.cells_by_name-returns-in_err-member_in
cells_by_name-returns-in_err-member_in t c =
    let i = c.loop-field.field-index in
    let f = c.field-item.result in
    let ms = members_view c.args.members.now.entries in
    let item = drop-item c.args.fields.now i f c.loop-field-test.true c.field-item.is in
    let kept = rw item at c.loop-field.invariant.cells in
    let p = err_from_is_err_and c.from_residual-in_err-member_in.result c.from_residual-in_err-member_in.ensures.1 in
    rw (p.1, p.2) (
    told
    (refusal_of c.in_err-member_in.field-0.0)
    (member_of c.args.date_form (column_of f) ms)
    (cells_by_name c.args.date_form (columns_of (map column_of c.args.fields.now)) ms)
    c.in_err-member_in.ensures
    (λ r e. sym kept ∙ name_refused c.args.date_form (map cell c.loop-field.cells.items) (column_of f) (columns_of (map column_of (drop (i + 1) c.args.fields.now))) ms r e)
    )

pub list_in-returns-in-Array : goal.list_in-returns-in-Array
list_in-returns-in-Array t c =
    let whole : view c.args.value.now ≡ array (items_view c.in-Array.values.items) = rw c.in-Array.is (search (rules, json_lemmas)) in
    rw whole (c.list_cell.ensures _ (rw c.deref.ensures.value at c.each_item.ensures))

pub fixed_list_in-returns-in-Array : goal.fixed_list_in-returns-in-Array
fixed_list_in-returns-in-Array t c =
    let whole : view c.args.value.now ≡ array (items_view c.in-Array.values.items) = rw c.in-Array.is (search (rules, json_lemmas)) in
    rw whole (c.list_cell.ensures _ (rw c.deref.ensures.value at c.sized_items.ensures))
