use Rattle.std.proofs.Common.{◌*◌, ◌-◌, length, drop, arith}
use Rattle.std.proofs.lemmas.List.{length-take, length-drop}
use Rattle.query.proofs.SlotNumbers.{slot_room, slot_number}
use Rattle.query.proofs.integer_slots.unsigned_at.Goals as goal

pub overflow_mul-start : goal.overflow_mul-start
overflow_mul-start c = omega (arith, slot_room c.args.i c.bytes.result _ _ c.bytes.ensures.value c.requires)

pub slice_bounds-first_number-start : goal.slice_bounds-first_number-start
slice_bounds-first_number-start c = omega (arith, slot_room c.args.i c.bytes.result _ _ c.bytes.ensures.value c.requires)

pub first_number-requires : goal.first_number-requires
first_number-requires c =
    let values = c.args.values.now in
    let start = c.args.i * c.bytes.result in
    omega (arith, slot_room c.args.i c.bytes.result _ _ c.bytes.ensures.value c.requires, c.bytes.ensures.value, length-take (length values - start) (drop start values), length-drop start values)

pub returns : goal.returns
returns c = slot_number _ c.bytes.result c.args.i c.first_number.result c.args.values.now c.bytes.ensures.value c.first_number.ensures
