use Rattle.std.proofs.Common.{[]}
use Rattle.text_columns.proofs.PlacedBuffers.{SoFar, all_placed, none_placed, placed_pushed}
use Rattle.text_columns.proofs.placing.place_all.Goals as goal

pub loop-column-init : goal.loop-column-init
loop-column-init c =
    let none : SoFar [] c.in_ok-bytes.bytes.items c.new-dictionaries.result.items c.in_ok-arrays.arrays.items = rw c.in_ok-arrays.ensures.items (none_placed _ _) in
    record { next = tt; ends = tt; so_far = none; placed = all_placed _ _ _ _ none }

pub loop-column-preserved : goal.loop-column-preserved
loop-column-preserved c =
    let more =
    placed_pushed c.loop-column.yielded c.in-Some.column c.loop-column.bytes.items c.place.new.bytes.items c.loop-column.dictionaries.items c.place.new.dictionaries.items c.loop-column.arrays.items c.push.new.self.items c.in_ok-array.array
    c.loop-column.invariant.so_far c.in_ok-array.ensures c.in_ok-push.ensures.items in
    record { next = tt; ends = tt; so_far = more; placed = all_placed _ _ _ _ more }
