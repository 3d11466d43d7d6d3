use mir.Val.{SFits}
use Rattle.std.specs.Prelude.{OnOk, Some, None, option_map, slice_get}
use Rattle.std.specs.Int.{w128}
use Rattle.std.proofs.Common.{◌≡◌, ◌∙◌, ◌++◌, ◌+◌, List, ◌∷◌, drop, map, sym, ap, subst, arith, rules}
use Rattle.std.proofs.lemmas.Int.{to_z-of_z}
use Rattle.std.proofs.lemmas.List.{drop_all}
use Rattle.facts.specs.laws.Lists.{drop-item}
use Rattle.arrow_schema.specs.View.{kind_of, column_of}
use Rattle.arrow_schema.specs.declared.types.Field.{Field}
use Rattle.cells.specs.Cell.{Cell, null, boolean, number, text, bytes, cells_of}
use Rattle.columns.specs.Borrowed.{borrowed_cell, borrowed_cells}
use Rattle.columns.specs.View.{fields_of}
use Rattle.query.specs.Line.{json_of, json_of_others}
use Rattle.query.specs.Shown.{dated_value, dated_cells}
use Rattle.query.specs.inner.SlotLines.{rest_of_shape}
use Rattle.query.proofs.Pushed.{between}
use Rattle.query.proofs.ShownCells.{unchanged, dated_null, dated_boolean, dated_text, dated_bytes, dated_number, list_dated, list_plain, struct_dated, struct_plain, dated_field}
use Rattle.query.proofs.ShownRows.{drop_there, drop_none, nodes_there, part_next, parts_done, fields_done, two_more}
use Rattle.query.proofs.shown.+dated.Goals as goal

pub push_dated-returns-in-Null : goal.push_dated-returns-in-Null
push_dated-returns-in-Null t c =
    let k = kind_of c.args.data_type.now in
    let P : Cell → Type 0 = λ x. OnOk c.push_value.result (c.push_value.new.out.items ≡ c.args.out.now.items ++ json_of x) in
    subst P (sym (unchanged k (borrowed_cell c.args.value) null (ap borrowed_cell c.in-Null.is) (dated_null k))) c.push_value.ensures

pub push_dated-returns-in-Bool : goal.push_dated-returns-in-Bool
push_dated-returns-in-Bool t c =
    let k = kind_of c.args.data_type.now in
    let P : Cell → Type 0 = λ x. OnOk c.push_value-in-Bool.result (c.push_value-in-Bool.new.out.items ≡ c.args.out.now.items ++ json_of x) in
    subst P (sym (unchanged k (borrowed_cell c.args.value) (boolean c.in-Bool.field-0) (ap borrowed_cell c.in-Bool.is) (dated_boolean k c.in-Bool.field-0))) c.push_value-in-Bool.ensures

pub push_dated-returns-in-Int : goal.push_dated-returns-in-Int
push_dated-returns-in-Int t c =
    let k = kind_of c.args.data_type.now in
    let n = c.in-Int.number in
    let fits : SFits w128 n = search rules in
    let P : Cell → Type 0 = λ x. OnOk c.push_number_or_date.result (c.push_number_or_date.new.out.items ≡ c.args.out.now.items ++ json_of x) in
    let is : dated_value k (borrowed_cell c.args.value) ≡ dated_value k (number n) = ap (λ v. dated_value k (borrowed_cell v)) c.in-Int.is in
    subst P (sym (is ∙ dated_number k n)) (rw (to_z-of_z w128 n fits) at c.push_number_or_date.ensures)

pub push_dated-returns-in-Text : goal.push_dated-returns-in-Text
push_dated-returns-in-Text t c =
    let k = kind_of c.args.data_type.now in
    let own = c.in-Text.field-0.now in
    let P : Cell → Type 0 = λ x. OnOk c.push_value-in-Text.result (c.push_value-in-Text.new.out.items ≡ c.args.out.now.items ++ json_of x) in
    subst P (sym (unchanged k (borrowed_cell c.args.value) (text own) (ap borrowed_cell c.in-Text.is) (dated_text k own))) c.push_value-in-Text.ensures

pub push_dated-returns-in-Bytes : goal.push_dated-returns-in-Bytes
push_dated-returns-in-Bytes t c =
    let k = kind_of c.args.data_type.now in
    let own = c.in-Bytes.field-0.now in
    let P : Cell → Type 0 = λ x. OnOk c.push_value-in-Bytes.result (c.push_value-in-Bytes.new.out.items ≡ c.args.out.now.items ++ json_of x) in
    subst P (sym (unchanged k (borrowed_cell c.args.value) (bytes own) (ap borrowed_cell c.in-Bytes.is) (dated_bytes k own))) c.push_value-in-Bytes.ensures

pub push_dated_items-returns : goal.push_dated_items-returns
unfolding json_of
push_dated_items-returns t c = between c.push_bytes-2.result 91 93 _ _ _ _ _ c.in_ok-push_bytes.ensures c.in_ok-push_each_item.ensures c.push_bytes-2.ensures

pub push_dated_list-returns-in-Some : goal.push_dated_list-returns-in-Some
push_dated_list-returns-in-Some t c =
    let k = kind_of c.args.data_type.now in
    let cs = cells_of (borrowed_cells c.args.values) in
    let here = sym (ap (option_map (λ f. column_of f.now)) c.in-Some.is) ∙ c.item_of.ensures in
    let P : Cell → Type 0 = λ x. OnOk c.push_dated_items.result (c.push_dated_items.new.out.items ≡ c.args.out.now.items ++ json_of x) in
    subst P (sym (list_dated k cs (column_of c.in-Some.item.now) here)) c.push_dated_items.ensures

pub push_dated_list-returns-in-None : goal.push_dated_list-returns-in-None
unfolding json_of
push_dated_list-returns-in-None t c =
    let k = kind_of c.args.data_type.now in
    let cs = cells_of (borrowed_cells c.args.values) in
    let here = sym (ap (option_map (λ f. column_of f.now)) c.in-None.is) ∙ c.item_of.ensures in
    let P : Cell → Type 0 = λ x. OnOk c.push_array.result (c.push_array.new.out.items ≡ c.args.out.now.items ++ json_of x) in
    subst P (sym (list_plain k cs here)) c.push_array.ensures

pub push_dated_struct-returns-in-Some : goal.push_dated_struct-returns-in-Some
unfolding json_of
push_dated_struct-returns-in-Some t c =
    let k = kind_of c.args.data_type.now in
    let cs = cells_of (borrowed_cells c.args.values) in
    let here = sym (ap (option_map (λ fs. fields_of fs.now)) c.in-Some.is) ∙ c.parts_of.ensures in
    let P : Cell → Type 0 = λ x. OnOk c.push_dated_row.result (c.push_dated_row.new.out.items ≡ c.args.out.now.items ++ json_of x) in
    subst P (sym (struct_dated k cs (fields_of c.in-Some.fields.now) here)) c.push_dated_row.ensures

pub push_dated_struct-returns-in-None : goal.push_dated_struct-returns-in-None
unfolding json_of
push_dated_struct-returns-in-None t c =
    let k = kind_of c.args.data_type.now in
    let cs = cells_of (borrowed_cells c.args.values) in
    let here = sym (ap (option_map (λ fs. fields_of fs.now)) c.in-None.is) ∙ c.parts_of.ensures in
    let P : Cell → Type 0 = λ x. OnOk c.push_array.result (c.push_array.new.out.items ≡ c.args.out.now.items ++ json_of x) in
    subst P (sym (struct_plain k cs here)) c.push_array.ensures

pub push_dated_field-returns : goal.push_dated_field-returns
push_dated_field-returns t c =
    let P : Cell → Type 0 = λ x. OnOk c.push_dated.result (c.push_dated.new.out.items ≡ c.args.out.now.items ++ json_of x) in
    subst P (sym (dated_field c.args.field.now (borrowed_cell c.args.value))) c.push_dated.ensures

pub push_each_item-loop-value-preserved : goal.push_each_item-loop-value-preserved
unfolding json_of_others
push_each_item-loop-value-preserved t c =
    let kept = rw c.in-Some-value.ensures.steps at c.loop-value.invariant.text in
    let below = rw c.in-Some-value.ensures.steps at c.loop-value.invariant.below in
    record {
      text = two_more _ _ _ _ _ _ c.in_ok-push_bytes.ensures c.in_ok-push_dated_field-2.ensures ∙ kept;
      below = omega (arith, below);
    }

-- the parts of a struct, or the cells of a row

pub push_each_part-returns-in_default : goal.push_each_part-returns-in_default
push_each_part-returns-in_default t c =
    let k = c.loop-place.place in
    let xs = borrowed_cells c.args.values in
    let none : None ≡ slice_get xs k = sym (ap (option_map borrowed_cell) c.in_default.is) ∙ c.get.ensures in
    parts_done c.args.shape k (drop k c.args.fields.now) (drop k xs) c.loop-place.out.items _ (drop_none xs k none) c.loop-place.invariant

pub push_each_part-push_dated_field-requires : goal.push_each_part-push_dated_field-requires
push_each_part-push_dated_field-requires t c =
    let xs = borrowed_cells c.args.values in
    let x = borrowed_cell c.in-Some.value in
    let some : Some x ≡ slice_get xs c.loop-place.place = sym (ap (option_map borrowed_cell) c.in-Some.is) ∙ c.get.ensures in
    omega (arith, nodes_there xs c.loop-place.place x some)

pub push_each_part-loop-place-preserved : goal.push_each_part-loop-place-preserved
push_each_part-loop-place-preserved t c =
    let k = c.loop-place.place in
    let fields = c.args.fields.now in
    let xs = borrowed_cells c.args.values in
    let f = c.index-fields-place.result in
    let x = borrowed_cell c.in-Some.value in
    let some : Some x ≡ slice_get xs k = sym (ap (option_map borrowed_cell) c.in-Some.is) ∙ c.get.ensures in
    let whole = c.args.out.now.items ++ rest_of_shape c.args.shape 0 (map column_of fields) (dated_cells (fields_of fields) (cells_of xs)) in
    let Q : List Field → List Cell → Type 0 = λ fs ys. c.loop-place.out.items ++ rest_of_shape c.args.shape k (map column_of fs) (dated_cells (fields_of fs) (cells_of ys)) ≡ whole in
    let left : Q (drop k fields) (x ∷ drop (k + 1) xs) = subst (Q (drop k fields)) (drop_there xs k x some) c.loop-place.invariant in
    let both : Q (f ∷ drop (k + 1) fields) (x ∷ drop (k + 1) xs) = subst (λ (fs : List Field). Q fs (x ∷ drop (k + 1) xs)) (drop-item fields k f c.loop-place-test.true c.index-fields-place.is) left in
    part_next c.args.shape k f (drop (k + 1) fields) x (drop (k + 1) xs) c.loop-place.out.items c.push_lead.new.out.items c.push_dated_field.new.out.items whole c.in_ok-push_lead.ensures
    c.in_ok-push_dated_field.ensures both

pub push_each_part-returns : goal.push_each_part-returns
push_each_part-returns t c =
    let k = c.loop-place.place in
    let fields = c.args.fields.now in
    fields_done c.args.shape k (drop k fields) (drop k (borrowed_cells c.args.values)) c.loop-place.out.items _ (drop_all k fields (omega (arith, c.loop-place-test.false))) c.loop-place.invariant
