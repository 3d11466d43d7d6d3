use Rattle.std.proofs.Common.{arith}
use Rattle.array_build.proofs.RunFixedItems.{are_fixed, fixed_found}
use Rattle.array_build.proofs.run_fixed_items.fixed_item_run.Goals as goal
use Rattle.arrow_schema.specs.View.{column_of}

pub overflow_mul-start : goal.overflow_mul-start
overflow_mul-start c =
    let are = are_fixed c.args.size (column_of c.args.item.now) c.in-Slots.array c.in-Slots.from c.in-Slots.len c.args.run.now c.in-Slots.is c.requires in
    let end = are.end in
    omega (arith, end, c.item_slots-most.ensures)

pub overflow_mul-count : goal.overflow_mul-count
overflow_mul-count c =
    let are = are_fixed c.args.size (column_of c.args.item.now) c.in-Slots.array c.in-Slots.from c.in-Slots.len c.args.run.now c.in-Slots.is c.requires in
    let end = are.end in
    omega (arith, end, c.item_slots-most.ensures)

pub item_slots-requires : goal.item_slots-requires
item_slots-requires c = (are_fixed c.args.size (column_of c.args.item.now) c.in-Slots.array c.in-Slots.from c.in-Slots.len c.args.run.now c.in-Slots.is c.requires).end

pub returns-in-Slots : goal.returns-in-Slots
returns-in-Slots c =
    let are = are_fixed c.args.size (column_of c.args.item.now) c.in-Slots.array c.in-Slots.from c.in-Slots.len c.args.run.now c.in-Slots.is c.requires in
    fixed_found c.args.size (column_of c.args.item.now) c.in-Slots.array c.in-Slots.from c.in-Slots.len c.args.run.now c.item_slots.result c.in-Slots.is are c.item_slots.ensures
