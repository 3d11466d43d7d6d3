use Rattle.array_build.proofs.RunItems.{are_lists, span_within, items_found, items_of_none, items_of_nulls}
use Rattle.array_build.proofs.run_items.item_run.Goals as goal
use Rattle.arrow_schema.specs.View.{column_of}

pub spanned-span-requires-clause-long : goal.spanned-span-requires-clause-long
spanned-span-requires-clause-long c = (are_lists c.args.width (column_of c.args.item.now) c.in-Slots.array c.in-Slots.from c.in-Slots.len c.args.run.now c.in-Slots.is c.requires.sound c.requires.written).few

pub spanned-span-requires-clause-within : goal.spanned-span-requires-clause-within
spanned-span-requires-clause-within c = (are_lists c.args.width (column_of c.args.item.now) c.in-Slots.array c.in-Slots.from c.in-Slots.len c.args.run.now c.in-Slots.is c.requires.sound c.requires.written).within

pub returns-then-len-eq0 : goal.returns-then-len-eq0
returns-then-len-eq0 c = items_of_none c.args.width (column_of c.args.item.now) c.in-Slots.array c.in-Slots.from c.in-Slots.len c.args.run.now c.in-Slots.is c.if-len-eq0.true

pub item_slots-requires : goal.item_slots-requires
item_slots-requires c =
    let are = are_lists c.args.width (column_of c.args.item.now) c.in-Slots.array c.in-Slots.from c.in-Slots.len c.args.run.now c.in-Slots.is c.requires.sound c.requires.written in
    span_within c.args.width (column_of c.args.item.now) c.in-Slots.array c.in-Slots.from c.in-Slots.len _ _ are c.if-len-eq0.false c.spanned-span.ensures.start c.spanned-span.ensures.size

pub returns-else-len-eq0 : goal.returns-else-len-eq0
returns-else-len-eq0 c =
    let are = are_lists c.args.width (column_of c.args.item.now) c.in-Slots.array c.in-Slots.from c.in-Slots.len c.args.run.now c.in-Slots.is c.requires.sound c.requires.written in
    items_found c.args.width (column_of c.args.item.now) c.in-Slots.array c.in-Slots.from c.in-Slots.len _ _ c.args.run.now c.item_slots.result c.in-Slots.is are
    c.spanned-span.ensures.start c.spanned-span.ensures.size c.item_slots.ensures

pub returns-in-Nulls : goal.returns-in-Nulls
returns-in-Nulls c = items_of_nulls c.args.width (column_of c.args.item.now) _ c.args.run.now c.in-Nulls.is
