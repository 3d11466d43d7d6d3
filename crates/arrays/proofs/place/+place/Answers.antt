use Rattle.std.specs.Prelude.{◌&&◌}
use Rattle.std.specs.List.{list_all}
use Rattle.std.proofs.Common.{◌≡◌, Bool, map, arith, rules, ◌∙◌}
use Rattle.std.proofs.lemmas.Bool.{and_from}
use Rattle.std.proofs.lemmas.Result.{IfOk-weaker}
use Rattle.arrow_schema.specs.Column.{columns_of}
use Rattle.columns.specs.declared.array.DictionaryPart.{DictionaryPart}
use Rattle.columns.specs.declared.array.PlacedLayout.{the_lemmas}
use Rattle.columns.specs.declared.array.PlacedArray.{roll-PlacedArray}
use Rattle.columns.specs.declared.array.PlacedLayout.TheVariants.{List, FixedList, Struct, Dictionary}
use Rattle.columns.specs.declared.array.PlacedLayout.TheFolds.{fold-PlacedLayout}
use Rattle.columns.specs.Within.{layout_within, array_within, ends_within, is_within_by, is_placed_within, stands_within}
use Rattle.columns.specs.Array.{array, arrays_of, dictionary_layout}
use Rattle.columns.specs.Places.{within}
use Rattle.columns.specs.View.{array_in}
use Rattle.facts.specs.laws.Lists.{drop-item}
use Rattle.arrow_schema.specs.View.{kind_of, column_of}
use Rattle.columns.specs.FromBuffers.{node_count, buffer_count, dictionary_count}
use Rattle.arrays.specs.inner.Rest.{rest_known, rest_nodes, rest_buffers, rest_dictionaries}
use Rattle.arrays.proofs.LaidOut.{layout_of, ends_of, span_ends, null_ends, bits_end, fixed_ends, binary_ends}
use Rattle.arrays.proofs.Placed.{own_array, plain_from, coded_from, none_placed, next_placed, finished, below_placed, all_placed_below}
use Rattle.arrays.proofs.Ends.{behind_itself, behind_more, none_ends, end_more, ends_left, all_end_left, children_end}
use Rattle.arrays.proofs.place.+place.Goals as goal

pub place_all-loop-field-init : goal.place_all-loop-field-init
place_all-loop-field-init t c = record {
  done = none_placed c.args.rest c.args.fields.now _ c.in_ok-arrays.ensures.items;
  behind = behind_itself c.args.rest;
  end = none_ends c.args.rest _ c.in_ok-arrays.ensures.items;
  len = c.in_ok-arrays.ensures.len;
  room = omega (arith, c.in_ok-arrays.ensures.exact);
}

pub place_all-loop-field-preserved : goal.place_all-loop-field-preserved
place_all-loop-field-preserved t c =
    let f = c.field-item.result in
    let left = c.after-left.ensures (node_count (column_of f)) (buffer_count (column_of f)) (dictionary_count (column_of f)) c.column_counts.ensures.nodes c.column_counts.ensures.buffers c.column_counts.ensures.dictionaries in
    record {
      done = next_placed c.args.rest c.loop-field.left _ c.args.fields.now c.loop-field.field-index f c.loop-field.arrays.items _ c.in_ok-array.array
          (drop-item c.args.fields.now c.loop-field.field-index f c.loop-field-test.true c.field-item.is) c.in_ok-array.ensures.placed left c.push_reserved.ensures.items c.loop-field.invariant.done;
      behind = behind_more c.args.rest c.loop-field.left _ _ _ _ c.loop-field.invariant.behind left;
      end = end_more c.args.rest c.loop-field.left c.loop-field.arrays.items _ c.in_ok-array.array c.loop-field.invariant.behind c.push_reserved.ensures.items c.in_ok-array.ensures.ends c.loop-field.invariant.end;
      len = omega (arith, c.push_reserved.ensures.len, c.loop-field.invariant.len);
      room = omega (arith, c.push_reserved.ensures.capacity, c.loop-field.invariant.room);
    }

pub place_all-returns-clause-placed : goal.place_all-returns-clause-placed
place_all-returns-clause-placed t c = finished c.args.rest c.loop-field.left c.args.fields.now c.loop-field.field-index c.loop-field.arrays.items c.loop-field-test.false c.loop-field.invariant.done

pub place_layout-returns-in_ok-place_children-in-Struct-clause-ends : goal.place_layout-returns-in_ok-place_children-in-Struct-clause-ends
place_layout-returns-in_ok-place_children-in-Struct-clause-ends t c = λ size le known.
    let stands : DictionaryPart → Bool = stands_within size c.args.rest.dictionaries.now in
    let seen : fold-PlacedLayout Bool Bool (layout_within size stands) (array_within size) (Struct c.in_ok-place_children-in-Struct.field-0)
    ≡ list_all (λ b. b) (map (is_within_by size stands) c.in_ok-place_children-in-Struct.field-0.items) = search (rules, the_lemmas) in
    seen ∙ children_end c.args.rest c.in_ok-place_children-in-Struct.field-0.items size (c.in_ok-place_children-in-Struct.ensures.end size le known)

pub place_layout-returns-in-Null-clause-ends : goal.place_layout-returns-in-Null-clause-ends
place_layout-returns-in-Null-clause-ends t c = null_ends c.args.rest

pub place_layout-returns-in-Bool-clause-ends : goal.place_layout-returns-in-Bool-clause-ends
place_layout-returns-in-Bool-clause-ends t c = bits_end c.args.rest c.buffer.result c.buffer.ensures.ends

pub place_layout-returns-in-Int-clause-ends : goal.place_layout-returns-in-Int-clause-ends
place_layout-returns-in-Int-clause-ends t c = fixed_ends c.args.rest c.buffer-in-Int.result c.buffer-in-Int.ensures.ends

pub place_layout-returns-in-Date-clause-ends : goal.place_layout-returns-in-Date-clause-ends
place_layout-returns-in-Date-clause-ends t c = fixed_ends c.args.rest c.buffer-in-Date.result c.buffer-in-Date.ensures.ends

pub place_layout-returns-in-Timestamp-clause-ends : goal.place_layout-returns-in-Timestamp-clause-ends
place_layout-returns-in-Timestamp-clause-ends t c = fixed_ends c.args.rest c.buffer-in-Timestamp.result c.buffer-in-Timestamp.ensures.ends

pub place_layout-returns-in-Utf8-clause-ends : goal.place_layout-returns-in-Utf8-clause-ends
place_layout-returns-in-Utf8-clause-ends t c = binary_ends c.args.rest c.buffer-in-Utf8.result c.buffer-in-Utf8-2.result c.buffer-in-Utf8.ensures.ends c.buffer-in-Utf8-2.ensures.ends

pub place_layout-returns-in-LargeUtf8-clause-ends : goal.place_layout-returns-in-LargeUtf8-clause-ends
place_layout-returns-in-LargeUtf8-clause-ends t c = binary_ends c.args.rest c.buffer-in-LargeUtf8.result c.buffer-in-LargeUtf8-2.result c.buffer-in-LargeUtf8.ensures.ends c.buffer-in-LargeUtf8-2.ensures.ends

pub place_layout-returns-in-Binary-clause-ends : goal.place_layout-returns-in-Binary-clause-ends
place_layout-returns-in-Binary-clause-ends t c = binary_ends c.args.rest c.buffer-in-Binary.result c.buffer-in-Binary-2.result c.buffer-in-Binary.ensures.ends c.buffer-in-Binary-2.ensures.ends

pub place_layout-returns-in-LargeBinary-clause-ends : goal.place_layout-returns-in-LargeBinary-clause-ends
place_layout-returns-in-LargeBinary-clause-ends t c = binary_ends c.args.rest c.buffer-in-LargeBinary.result c.buffer-in-LargeBinary-2.result c.buffer-in-LargeBinary.ensures.ends c.buffer-in-LargeBinary-2.ensures.ends

pub place_layout-returns-in-FixedSizeBinary-clause-ends : goal.place_layout-returns-in-FixedSizeBinary-clause-ends
place_layout-returns-in-FixedSizeBinary-clause-ends t c = fixed_ends c.args.rest c.buffer-in-FixedSizeBinary.result c.buffer-in-FixedSizeBinary.ensures.ends

pub place_layout-returns-in_ok-place_items-in-List-clause-ends : goal.place_layout-returns-in_ok-place_items-in-List-clause-ends
place_layout-returns-in_ok-place_items-in-List-clause-ends t c = λ size le known.
    let r = c.args.rest in
    let offsets = c.buffer-in-List.result in
    let box = c.in_ok-place_items-in-List.field-0 in
    let seen : ends_of r size (List offsets box) ≡ (ends_within size offsets && is_placed_within size r.dictionaries.now box.value) = search (rules, the_lemmas) in
    seen ∙ and_from _ _ (span_ends r offsets size c.buffer-in-List.ensures.ends le) (c.in_ok-place_items-in-List.ensures.ends size le known)

pub place_layout-returns-in_ok-place_items-in-LargeList-clause-ends : goal.place_layout-returns-in_ok-place_items-in-LargeList-clause-ends
place_layout-returns-in_ok-place_items-in-LargeList-clause-ends t c = λ size le known.
    let r = c.args.rest in
    let offsets = c.buffer-in-LargeList.result in
    let box = c.in_ok-place_items-in-LargeList.field-0 in
    let seen : ends_of r size (List offsets box) ≡ (ends_within size offsets && is_placed_within size r.dictionaries.now box.value) = search (rules, the_lemmas) in
    seen ∙ and_from _ _ (span_ends r offsets size c.buffer-in-LargeList.ensures.ends le) (c.in_ok-place_items-in-LargeList.ensures.ends size le known)

pub place_layout-returns-in_ok-place_items-in-FixedSizeList-clause-ends : goal.place_layout-returns-in_ok-place_items-in-FixedSizeList-clause-ends
place_layout-returns-in_ok-place_items-in-FixedSizeList-clause-ends t c = λ size le known.
    let r = c.args.rest in
    let box = c.in_ok-place_items-in-FixedSizeList.field-0 in
    let seen : ends_of r size (FixedList box) ≡ is_placed_within size r.dictionaries.now box.value = search (rules, the_lemmas) in
    seen ∙ c.in_ok-place_items-in-FixedSizeList.ensures.ends size le known

pub place-returns-in-Some-clause-placed : goal.place-returns-in-Some-clause-placed
place-returns-in-Some-clause-placed t c =
    let r = c.args.rest in
    let seen : array_in r.bytes.now (rest_known r) (roll-PlacedArray (record { slots = c.slots.result; validity = c.buffer.result; layout = Dictionary c.buffer-in-Some.result c.part.result }))
    ≡ array c.slots.result (within r.bytes.now c.buffer.result) (dictionary_layout (within r.bytes.now c.buffer-in-Some.result) (arrays_of (rest_known r c.part.result))) = search (rules, the_lemmas) in
    seen
    ∙ (λ j. array (c.slots.ensures j) (c.buffer.ensures.bytes j) (dictionary_layout (c.buffer-in-Some.ensures.bytes j) (arrays_of (c.part.ensures.first j))))
    ∙ coded_from c.args.field.now c.in-Some.field-0 r c.in-Some.is

pub place-returns-in_ok-place_layout-in-None-clause-placed : goal.place-returns-in_ok-place_layout-in-None-clause-placed
place-returns-in_ok-place_layout-in-None-clause-placed t c =
    let r = c.args.rest in
    let layout = c.in_ok-place_layout-in-None.field-0 in
    let seen : array_in r.bytes.now (rest_known r) (roll-PlacedArray (record { slots = c.slots-in-None.result; validity = c.own_validity.result; layout = layout }))
    ≡ array c.slots-in-None.result (within r.bytes.now c.own_validity.result) (layout_of r layout) = search (rules, the_lemmas) in
    seen
    ∙ own_array (kind_of c.args.field.now.data_type) (rest_nodes r) (rest_buffers r) (rest_dictionaries r) _ _ _ c.slots-in-None.ensures c.own_validity.ensures.validity c.in_ok-place_layout-in-None.ensures.laid_out
    ∙ plain_from c.args.field.now r c.in-None.is

pub place_items-returns-clause-placed : goal.place_items-returns-clause-placed
place_items-returns-clause-placed t c =
    rw c.in_ok-new.ensures.ok (below_placed c.args.rest c.below.result (column_of c.args.item.now) c.args.buffers c.in_ok-array.array c.below.ensures c.in_ok-array.ensures.placed)

pub place_items-returns-clause-ends : goal.place_items-returns-clause-ends
place_items-returns-clause-ends t c =
    rw c.in_ok-new.ensures.ok (ends_left c.args.rest c.below.result 1 c.args.buffers 0 c.in_ok-array.array c.below.ensures c.in_ok-array.ensures.ends)

pub place_children-returns-clause-placed : goal.place_children-returns-clause-placed
place_children-returns-clause-placed t c =
    IfOk-weaker c.place_all.result _ _ (λ v h. all_placed_below c.args.rest c.below.result (columns_of (map column_of c.args.fields.now)) v.items c.below.ensures h) c.place_all.ensures.placed

pub place_children-returns-clause-end : goal.place_children-returns-clause-end
place_children-returns-clause-end t c =
    IfOk-weaker c.place_all.result _ _ (λ v h. all_end_left c.args.rest c.below.result 1 1 0 v.items c.below.ensures h) c.place_all.ensures.end

pub place_all-returns-clause-end : goal.place_all-returns-clause-end
place_all-returns-clause-end t c = c.loop-field.invariant.end
