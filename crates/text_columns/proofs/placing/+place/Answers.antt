use Rattle.std.proofs.Common.{◌≡◌, ◌+◌, ◌++◌, ◌∷◌, ◌∙◌, List, [], arith, ap, sym, subst, take}
use Rattle.std.proofs.lemmas.List.{take_all, take_more}
use Rattle.text_columns.specs.declared.builder.ColumnBuilder.{ColumnBuilder}
use Rattle.text_columns.specs.inner.Placed.{ArePlacedBehind}
use Rattle.text_columns.proofs.PlacedBuffers.{fixed_list_placed, list_placed, none_behind_it, one_behind_it, struct_placed}
use Rattle.text_columns.proofs.placing.+place.Goals as goal

pub place-returns-in_ok-below-in-List : goal.place-returns-in_ok-below-in-List
place-returns-in_ok-below-in-List t c =
    rw c.in-List.is
    (list_placed c.in-List.slots c.in-List.ends _ c.in-List.items.value c.len.result c.args.bytes.now.items c.append_validity.new.bytes.items c.append.new.bytes.items c.place.new.bytes.items
    c.args.dictionaries.now.items c.place.new.dictionaries.items c.in_ok-validity-in-List.validity c.in_ok-offsets-in-List.offsets c.in_ok-below-in-List.below (omega arith)
    (rw c.deref.ensures.value at c.in_ok-validity-in-List.ensures) (rw c.deref-in-List.ensures.value at c.in_ok-offsets-in-List.ensures) (rw c.in_ok-below-in-List.ensures.ok (rw c.deref-in-List-2.ensures at c.in_ok-place-in-List.ensures)))

pub place-returns-in_ok-below-in-FixedList : goal.place-returns-in_ok-below-in-FixedList
place-returns-in_ok-below-in-FixedList t c =
    rw c.in-FixedList.is
    (fixed_list_placed c.in-FixedList.slots c.in-FixedList.field-1 _ c.in-FixedList.items.value c.len-in-FixedList.result c.args.bytes.now.items c.append_validity-in-FixedList.new.bytes.items c.place-in-FixedList.new.bytes.items
    c.args.dictionaries.now.items c.place-in-FixedList.new.dictionaries.items c.in_ok-validity-in-FixedList.validity c.in_ok-below-in-FixedList.below (omega arith)
    (rw c.deref-in-FixedList.ensures.value at c.in_ok-validity-in-FixedList.ensures) (rw c.in_ok-below-in-FixedList.ensures.ok (rw c.deref-in-FixedList-2.ensures at c.in_ok-place-in-FixedList.ensures)))

pub place-returns-in_ok-children-in-Struct : goal.place-returns-in_ok-children-in-Struct
place-returns-in_ok-children-in-Struct t c =
    rw c.in-Struct.is
    (struct_placed c.in-Struct.slots c.in-Struct.field-1 c.in-Struct.fields c.len-in-Struct.result c.args.bytes.now.items c.append_validity-in-Struct.new.bytes.items c.place_fields.new.bytes.items
    c.args.dictionaries.now.items c.place_fields.new.dictionaries.items c.in_ok-validity-in-Struct.validity c.in_ok-children-in-Struct.children (omega arith)
    (rw c.deref-in-Struct.ensures.value at c.in_ok-validity-in-Struct.ensures) (rw c.deref-in-Struct-2.ensures.value at c.in_ok-children-in-Struct.ensures))

pub place_fields-loop-field-init : goal.place_fields-loop-field-init
place_fields-loop-field-init t c = none_behind_it _ _ _ c.in_ok-arrays.ensures.items

pub place_fields-loop-field-preserved : goal.place_fields-loop-field-preserved
place_fields-loop-field-preserved t c =
    let i = c.loop-field.field-index in
    let f = c.field-item.result in
    let more : take (i + 1) c.args.fields.now ≡ take i c.args.fields.now ++ f ∷ [] =
    take_more c.args.fields.now i f c.loop-field-test.true ∙ ap (λ (x : ColumnBuilder). take i c.args.fields.now ++ x ∷ []) (sym c.field-item.is) in
    rw more
    (one_behind_it (take i c.args.fields.now) f c.args.bytes.now.items c.loop-field.bytes.items c.place.new.bytes.items c.args.dictionaries.now.items c.loop-field.dictionaries.items c.place.new.dictionaries.items
    c.loop-field.arrays.items c.push.new.self.items c.in_ok-array.array c.loop-field.invariant c.in_ok-array.ensures c.in_ok-push.ensures.items)

pub place_fields-returns : goal.place_fields-returns
place_fields-returns t c =
    let all = take_all c.loop-field.field-index c.args.fields.now c.loop-field-test.false in
    subst (λ (bs : List ColumnBuilder). ArePlacedBehind bs c.args.bytes.now.items c.loop-field.bytes.items c.args.dictionaries.now.items c.loop-field.dictionaries.items c.loop-field.arrays.items) all c.loop-field.invariant
