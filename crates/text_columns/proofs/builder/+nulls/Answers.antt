use Rattle.text_columns.specs.inner.Kept.{AllAppendNulls}
use Rattle.std.proofs.lemmas.List.{take_at}
use Rattle.text_columns.specs.declared.builder.ColumnBuilder.{ColumnBuilder}
use Rattle.std.proofs.lemmas.Option.{slice_get-get_or}
use Rattle.std.specs.Prelude.{Some, slice_get, OnOk}
use Rattle.std.proofs.Common.{arith, refl, ◌≡◌, ◌<◌, ◌∙◌, ap, length, sym, List, subst}
use Rattle.text_columns.proofs.Nulls.{fixed_list_nulls_step, list_nulls_step, nulls_half_all, nulls_half_more, nulls_half_none, struct_nulls_step, unvisited_set}
use Rattle.text_columns.proofs.builder.+nulls.Goals as goal

pub ColumnBuilder::push_nulls-returns-in_ok-push_nulls-in-List : goal.ColumnBuilder::push_nulls-returns-in_ok-push_nulls-in-List
unfolding Rattle.text_columns.specs.declared.builder.ColumnBuilder.TheViews.out-ColumnBuilder denote.Hole.Carrier.out
ColumnBuilder::push_nulls-returns-in_ok-push_nulls-in-List t c =
    rw c.in-List.is
    (list_nulls_step c.push_empty.result c.args.count c.in-List.slots c.push_nulls-in-List.new.self c.in-List.offsets c.push_empty.new.self _ _ _ (rw c.in-List.slots-is at c.in_ok-push_nulls-in-List.ensures.nullable)
    (rw c.in-List.slots-is at c.in_ok-push_nulls-in-List.ensures.null_weight) (rw c.in-List.slots-is at c.in_ok-push_nulls-in-List.ensures.valid) (rw c.in-List.offsets-is at c.push_empty.ensures))

pub ColumnBuilder::push_nulls-returns-in_ok-below-in-FixedList : goal.ColumnBuilder::push_nulls-returns-in_ok-below-in-FixedList
unfolding Rattle.text_columns.specs.declared.builder.ColumnBuilder.TheViews.out-ColumnBuilder denote.Hole.Carrier.out
ColumnBuilder::push_nulls-returns-in_ok-below-in-FixedList t c =
    rw c.in-FixedList.is
    (fixed_list_nulls_step c.push_nulls-in-FixedList-2.result c.args.count c.in_ok-below-in-FixedList.below c.in-FixedList.slots c.push_nulls-in-FixedList.new.self c.in-FixedList.size _ _ c.in-FixedList.items.value
    c.push_nulls-in-FixedList-2.new.self
    (rw c.in-FixedList.slots-is at c.in_ok-push_nulls-in-FixedList.ensures.nullable) (rw c.in-FixedList.slots-is at c.in_ok-push_nulls-in-FixedList.ensures.null_weight) (rw c.in-FixedList.slots-is at c.in_ok-push_nulls-in-FixedList.ensures.valid) (rw c.in-FixedList.size-is at c.in_ok-below-in-FixedList.ensures)
    (rw (c.deref_mut.ensures.value, c.in-FixedList.items-is) at c.push_nulls-in-FixedList-2.ensures))

pub ColumnBuilder::push_nulls-returns-in_ok-push_nulls-in-Struct : goal.ColumnBuilder::push_nulls-returns-in_ok-push_nulls-in-Struct
unfolding Rattle.text_columns.specs.declared.builder.ColumnBuilder.TheViews.out-ColumnBuilder denote.Hole.Carrier.out
ColumnBuilder::push_nulls-returns-in_ok-push_nulls-in-Struct t c =
    rw c.in-Struct.is
    (struct_nulls_step c.push_nulls_all.result c.args.count c.in-Struct.slots c.push_nulls-in-Struct.new.self c.in-Struct.field-1 c.in-Struct.field-1 c.in-Struct.fields c.push_nulls_all.new.builders
    c.push_nulls_all.new.builders.items (rw c.in-Struct.slots-is at c.in_ok-push_nulls-in-Struct.ensures.nullable) (rw c.in-Struct.slots-is at c.in_ok-push_nulls-in-Struct.ensures.null_weight)
    (rw c.in-Struct.slots-is at c.in_ok-push_nulls-in-Struct.ensures.valid) refl refl (rw c.in-Struct.fields-is at c.push_nulls_all.ensures))

pub push_nulls_all-returns : goal.push_nulls_all-returns
push_nulls_all-returns t c =
    let size : length c.push_nulls_each.new.builders ≡ c.args.builders.now.len = omega (arith, c.push_nulls_each.auto.builders, ap length c.as_mut_slice.ensures.value, c.args.builders.now.ok.0) in
    let whole = take_at c.push_nulls_each.new.builders _ c.args.builders.now.len size in
    subst (λ (bs : List ColumnBuilder). OnOk c.push_nulls_each.result (AllAppendNulls c.args.count c.args.builders.now.items bs)) (sym whole) (rw c.as_mut_slice.ensures.value at c.push_nulls_each.ensures)

pub push_nulls_each-loop-i-init : goal.push_nulls_each-loop-i-init
push_nulls_each-loop-i-init t c = record { unvisited = (refl, λ k d le. refl); half = nulls_half_none c.args.count c.args.builders.now }

pub push_nulls_each-loop-i-preserved : goal.push_nulls_each-loop-i-preserved
push_nulls_each-loop-i-preserved t c =
    let i = c.loop-i.i in
    let bs = c.loop-i.builders in
    let old = c.index-builders-i.result in
    let within : i < length bs = omega (arith, c.loop-i-test.true, c.loop-i.auto.builders) in
    let here : slice_get bs i ≡ Some old = slice_get-get_or bs i old within ∙ ap Some (sym c.index-builders-i.is) in
    record {
      unvisited = unvisited_set c.args.builders.now bs i c.push_nulls.new.self c.loop-i.invariant.unvisited;
      half = nulls_half_more c.args.count i c.args.builders.now bs old c.push_nulls.new.self here (rw (← c.index-builders-i.is) at c.in_ok-push_nulls.ensures) c.loop-i.invariant.half;
    }

pub push_nulls_each-returns : goal.push_nulls_each-returns
push_nulls_each-returns t c = nulls_half_all c.args.count c.loop-i.i c.args.builders.now c.loop-i.builders (omega arith) c.loop-i.invariant.half
