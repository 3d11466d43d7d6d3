use Rattle.text_columns.specs.inner.Lines.{KeepsFields, KeepsItems}
use Rattle.std.proofs.lemmas.List.{take_at}
use Rattle.text_columns.specs.declared.builder.ColumnBuilder.{ColumnBuilder}
use Rattle.std.proofs.lemmas.Option.{slice_get-get_or}
use Rattle.std.specs.Prelude.{Some, slice_get, IfOk, IfSome}
use Rattle.std.proofs.Common.{◌-◌, arith, refl, sym, ap, ◌<◌, length, ◌≡◌, ◌∙◌, List, subst}
use Rattle.std.proofs.lemmas.Bool.{MatchBool-at_true, MatchBool-at_false}
use Rattle.json.specs.Reads.{token_of}
use Rattle.text_columns.specs.declared.builder.ColumnBuilder.{Flat}
use Rattle.text_columns.specs.inner.Kept.{key_list}
use Rattle.text_columns.proofs.ItemRows.{items_all, items_none, items_pushed}
use Rattle.text_columns.proofs.ListCells.{array_next_step, fixed_list_step, list_all_read, list_none, list_pushed, list_step, null_next_step, object_next_step, struct_fields_step, struct_items_step, token_next_step}
use Rattle.text_columns.proofs.LineRows.{fields_step, free_at, members_all, members_more, members_none}
use Rattle.text_columns.proofs.+next.Goals as goal

pub next::push_list_items-loop-count-init : goal.next::push_list_items-loop-count-init
next::push_list_items-loop-count-init t c = record { some = omega arith; few = omega arith; read = list_none c.args.form.dates c.args.form.depth c.args.reader.now c.args.items.now }

pub next::push_list_items-loop-count-preserved : goal.next::push_list_items-loop-count-preserved
next::push_list_items-loop-count-preserved t c =
    let stays = MatchBool-at_false _ _ c.if-take_end_array.false c.take_end_array.ensures in
    let keeps = rw (c.in-Some.is, stays) at c.in_ok-item_weight.ensures in
    record {
      some = omega (arith, c.loop-count.invariant.some);
      few = omega (arith, c.loop-count.invariant.few, c.if-item_weight-weight.false);
      read = list_pushed c.args.form.dates c.args.form.depth c.args.reader.now c.loop-count.reader c.push_next.new.reader c.loop-count.count c.loop-count.weight c.in-Some.item_weight c.args.items.now c.loop-count.items c.push_next.new.self keeps
          c.loop-count.invariant.read;
    }

pub next::push_list_items-returns-then-take_end_array : goal.next::push_list_items-returns-then-take_end_array
next::push_list_items-returns-then-take_end_array t c =
    list_all_read c.args.form.dates c.args.form.depth c.args.reader.now c.loop-count.reader c.take_end_array.new.self (record { count = c.loop-count.count; weight = c.loop-count.weight }) c.args.items.now c.loop-count.items
    (MatchBool-at_true _ _ c.if-take_end_array.true c.take_end_array.ensures) c.loop-count.invariant.read

pub builder::ColumnBuilder::push_next-returns-in-Some : goal.builder::ColumnBuilder::push_next-returns-in-Some
unfolding Rattle.text_columns.specs.declared.builder.ColumnBuilder.TheViews.out-ColumnBuilder denote.Hole.Carrier.out
builder::ColumnBuilder::push_next-returns-in-Some t c =
    rw c.in-Flat.is
    (token_next_step c.args.form.dates c.args.form.depth (token_of c.in-Some.token) c.args.reader.now c.next.new.self (Flat c.in-Flat.flat) (Flat c.push_token.new.self) c.push_token.result c.in-Some.ensures.value (rw c.in-Flat.flat-is at c.push_token.ensures))

pub builder::ColumnBuilder::push_nested-returns-in-Some-Null : goal.builder::ColumnBuilder::push_nested-returns-in-Some-Null
builder::ColumnBuilder::push_nested-returns-in-Some-Null t c =
    null_next_step c.args.form.dates c.args.form.depth c.args.reader.now c.next.new.self c.args.self.now c.push_null.new.self c.push_null.result (rw c.in-Some-Null.field-0-is at c.in-Some-Null.ensures.value) c.push_null.ensures

pub builder::ColumnBuilder::push_nested-returns-in-Some-BeginArray : goal.builder::ColumnBuilder::push_nested-returns-in-Some-BeginArray
builder::ColumnBuilder::push_nested-returns-in-Some-BeginArray t c =
    array_next_step c.args.form.dates c.args.form.depth (c.args.form.depth - 1) c.args.reader.now c.next.new.self c.push_array.new.reader c.args.self.now c.push_array.new.self c.push_array.result (omega arith) refl
    (rw c.in-Some-BeginArray.field-0-is at c.in-Some-BeginArray.ensures.value) c.push_array.ensures

pub builder::ColumnBuilder::push_array-returns-in_ok-taken-in-List : goal.builder::ColumnBuilder::push_array-returns-in_ok-taken-in-List
unfolding Rattle.text_columns.specs.declared.builder.ColumnBuilder.TheViews.out-ColumnBuilder denote.Hole.Carrier.out
builder::ColumnBuilder::push_array-returns-in_ok-taken-in-List t c =
    rw c.in-List.is
    (list_step c.args.form.dates c.args.form.depth c.args.reader.now c.push_list_items.new.reader c.in_ok-taken-in-List.taken c.in-List.slots c.end_list.new.slots c.in-List.offsets c.end_list.new.offsets _ _ c.in-List.items.value
    c.push_list_items.new.items c.end_list.result (rw (c.deref_mut.ensures.value, c.in-List.items-is) at c.in_ok-taken-in-List.ensures) (rw (c.in-List.slots-is, c.in-List.offsets-is) at c.end_list.ensures))

pub builder::ColumnBuilder::push_array-returns-in_ok-taken-in-FixedList : goal.builder::ColumnBuilder::push_array-returns-in_ok-taken-in-FixedList
unfolding Rattle.text_columns.specs.declared.builder.ColumnBuilder.TheViews.out-ColumnBuilder denote.Hole.Carrier.out
builder::ColumnBuilder::push_array-returns-in_ok-taken-in-FixedList t c =
    rw c.in-FixedList.is
    (fixed_list_step c.args.form.dates c.args.form.depth c.args.reader.now c.push_list_items-in-FixedList.new.reader c.in_ok-taken-in-FixedList.taken c.in-FixedList.slots c.end_fixed_list.new.slots c.in-FixedList.size _ _ c.in-FixedList.items.value
    c.push_list_items-in-FixedList.new.items c.end_fixed_list.result (rw (c.deref_mut-in-FixedList.ensures.value, c.in-FixedList.items-is) at c.in_ok-taken-in-FixedList.ensures) (rw (c.in-FixedList.slots-is, c.in-FixedList.size-is) at c.end_fixed_list.ensures))

pub builder::ColumnBuilder::push_nested-returns-in-Some-BeginObject : goal.builder::ColumnBuilder::push_nested-returns-in-Some-BeginObject
builder::ColumnBuilder::push_nested-returns-in-Some-BeginObject t c =
    object_next_step c.args.form.dates c.args.form.depth (c.args.form.depth - 1) c.args.reader.now c.next.new.self c.push_object.new.reader c.args.self.now c.push_object.new.self c.push_object.result (omega arith) refl
    (rw c.in-Some-BeginObject.field-0-is at c.in-Some-BeginObject.ensures.value) c.push_object.ensures

pub builder::ColumnBuilder::push_array-returns-in_ok-taken-in-Struct : goal.builder::ColumnBuilder::push_array-returns-in_ok-taken-in-Struct
unfolding Rattle.text_columns.specs.declared.builder.ColumnBuilder.TheViews.out-ColumnBuilder denote.Hole.Carrier.out
builder::ColumnBuilder::push_array-returns-in_ok-taken-in-Struct t c =
    rw c.in-Struct.is
    (struct_items_step c.args.form.dates c.args.form.depth c.args.reader.now c.push_parts.new.reader c.in_ok-taken-in-Struct.taken c.in-Struct.slots c.end_struct.new.slots c.in-Struct.field-1 c.in-Struct.field-1 c.in-Struct.fields
    c.push_parts.new.fields c.push_parts.new.fields.items c.end_struct.result refl refl (rw c.in-Struct.fields-is at c.in_ok-taken-in-Struct.ensures) (rw c.in-Struct.slots-is at c.end_struct.ensures))

pub next::push_parts-returns : goal.next::push_parts-returns
next::push_parts-returns t c =
    let size : length c.push_items.new.builders ≡ c.args.fields.now.len = omega (arith, c.push_items.auto.builders, ap length c.as_mut_slice.ensures.value, c.args.fields.now.ok.0) in
    let whole = take_at c.push_items.new.builders _ c.args.fields.now.len size in
    subst
    (λ (bs : List ColumnBuilder). IfOk c.push_items.result (λ taken. IfSome taken (λ weight. KeepsItems c.args.form.dates c.args.form.depth c.args.reader.now c.push_items.new.reader weight c.args.fields.now.items bs)))
    (sym whole) (rw c.as_mut_slice.ensures.value at c.push_items.ensures.kept)

pub next::push_named-returns-clause-kept : goal.next::push_named-returns-clause-kept
next::push_named-returns-clause-kept t c =
    let size : length c.push_fields.new.builders ≡ c.args.fields.now.len = omega (arith, c.push_fields.auto.builders, ap length c.as_mut_slice-2.ensures.value, c.args.fields.now.ok.0) in
    let whole = take_at c.push_fields.new.builders _ c.args.fields.now.len size in
    subst
    (λ (bs : List ColumnBuilder). IfOk c.push_fields.result (λ taken. IfSome taken (λ weight. KeepsFields c.args.form.dates c.args.form.depth (key_list c.args.names.now.names.keys) c.args.reader.now c.push_fields.new.reader weight c.args.fields.now.items bs)))
    (sym whole) (rw c.as_mut_slice-2.ensures.value at c.push_fields.ensures.kept)

pub builder::ColumnBuilder::push_object-returns-in_ok-taken-in-Struct : goal.builder::ColumnBuilder::push_object-returns-in_ok-taken-in-Struct
unfolding Rattle.text_columns.specs.declared.builder.ColumnBuilder.TheViews.out-ColumnBuilder denote.Hole.Carrier.out
builder::ColumnBuilder::push_object-returns-in_ok-taken-in-Struct t c =
    rw c.in-Struct.is
    (struct_fields_step c.args.form.dates c.args.form.depth c.args.reader.now c.push_named.new.reader c.in_ok-taken-in-Struct.taken c.in-Struct.slots c.end_struct.new.slots c.in-Struct.names c.push_named.new.names c.in-Struct.fields
    c.push_named.new.fields c.push_named.new.fields.items c.end_struct.result (rw c.in-Struct.names-is at c.push_named.ensures.same) refl
    (rw (c.in-Struct.fields-is, c.in-Struct.names-is) at c.in_ok-taken-in-Struct.ensures.kept) (rw c.in-Struct.slots-is at c.end_struct.ensures))

pub next::push_fields-returns-clause-kept : goal.next::push_fields-returns-clause-kept
next::push_fields-returns-clause-kept t c =
    fields_step c.args.form.dates c.args.form.depth (key_list c.args.names.now.keys) c.args.reader.now c.push_members.new.reader c.clear.new.weights c.push_members.new.weights c.args.builders.now c.push_members.new.builders
    c.complete_row.new.builders c.complete_row.result (omega (arith, c.if-weights-builders.false, c.clear.auto.weights)) c.clear.ensures (c.in_ok-push_members.ensures c.if-not-branch.false) (c.complete_row.ensures.kept c.args.form.dates)

pub next::push_member-returns : goal.next::push_member-returns
next::push_member-returns t c = λ yes. record {
  weight = c.in-Some.weight;
  before = c.index-builders-at.result;
  behind = c.push_next.new.self;
  free = free_at c.args.weights.now c.args.at _ (omega (arith, c.if-at-weights.false)) (sym c.if-is_some.ensures);
  here = slice_get-get_or c.args.builders.now c.args.at c.index-builders-at.result (omega (arith, c.if-at-builders.false)) ∙ ap Some (sym c.index-builders-at.is);
  keeps = rw (c.in-Some.is, ← c.index-builders-at.is) at c.in_ok-weight.ensures;
  kept = refl;
  pushed = refl;
}

pub next::push_members-loop-k-init : goal.next::push_members-loop-k-init
next::push_members-loop-k-init t c = record { read = members_none c.args.form.dates c.args.form.depth (key_list c.args.names.now.keys) c.args.reader.now c.args.weights.now c.args.builders.now }

pub next::push_members-loop-k-preserved : goal.next::push_members-loop-k-preserved
next::push_members-loop-k-preserved t c = record {
  read = members_more c.args.form.dates c.args.form.depth (key_list c.args.names.now.keys) c.args.reader.now c.loop-k.reader c.next_key.new.self c.push_member.new.reader c.in-Some.name.now c.in-Some-find.at c.args.weights.now c.loop-k.weights
      c.push_member.new.weights c.args.builders.now c.loop-k.builders c.push_member.new.builders (rw c.in-Some.is at c.in-Ok.ensures.value) c.in-Some-find.ensures (c.in_ok-push_member.ensures c.if-not-branch.false) c.loop-k.invariant.read;
}

pub next::push_members-returns-in_default-key : goal.next::push_members-returns-in_default-key
next::push_members-returns-in_default-key t c = λ yes.
    members_all c.args.form.dates c.args.form.depth (key_list c.args.names.now.keys) c.args.reader.now c.loop-k.reader _ c.args.weights.now c.loop-k.weights c.args.builders.now c.loop-k.builders (rw c.in_default-key.is at c.in-Ok.ensures.value)
    c.loop-k.invariant.read

pub next::push_members-returns-in-Ok-None : goal.next::push_members-returns-in-Ok-None
next::push_members-returns-in-Ok-None t c = λ yes.
    members_all c.args.form.dates c.args.form.depth (key_list c.args.names.now.keys) c.args.reader.now c.loop-k.reader _ c.args.weights.now c.loop-k.weights c.args.builders.now c.loop-k.builders (rw c.in-Ok-None.field-0-is at c.in-Ok-None.ensures.value) c.loop-k.invariant.read

pub next::push_items-loop-i-init : goal.next::push_items-loop-i-init
next::push_items-loop-i-init t c = record { some = omega arith; few = omega arith; within = omega arith; read = items_none c.args.form.dates c.args.form.depth c.args.reader.now c.args.builders.now }

pub next::push_items-loop-i-preserved : goal.next::push_items-loop-i-preserved
next::push_items-loop-i-preserved t c =
    let i = c.loop-i.i in
    let bs = c.loop-i.builders in
    let old = c.index-builders-i.result in
    let within : i < length bs = omega (arith, c.loop-i-test.true, c.loop-i.auto.builders) in
    let here : slice_get bs i ≡ Some old = slice_get-get_or bs i old within ∙ ap Some (sym c.index-builders-i.is) in
    let taken = rw (c.in-Some.is, ← c.index-builders-i.is) at c.in_ok-cell_weight.ensures in
    record {
      some = omega (arith, c.loop-i.invariant.some);
      few = omega (arith, c.loop-i.invariant.few, c.if-cell_weight-weight.false);
      within = omega (arith, within, c.loop-i.auto.builders);
      read = items_pushed c.args.form.dates c.args.form.depth c.args.reader.now c.loop-i.reader c.push_next.new.reader i c.loop-i.weight c.in-Some.cell_weight c.args.builders.now bs old c.push_next.new.self here taken c.loop-i.invariant.read;
    }

pub next::push_items-returns-clause-kept : goal.next::push_items-returns-clause-kept
next::push_items-returns-clause-kept t c =
    items_all c.args.form.dates c.args.form.depth c.args.reader.now c.loop-i.reader c.take_end_array.new.self c.loop-i.i c.loop-i.weight c.args.builders.now c.loop-i.builders (MatchBool-at_true _ _ c.if-not-take_end_array.false c.take_end_array.ensures)
    (omega (arith, c.loop-i-test.false, c.loop-i.auto.builders)) (omega (arith, c.loop-i-test.false, c.loop-i.invariant.within, c.loop-i.auto.builders)) c.loop-i.invariant.read
