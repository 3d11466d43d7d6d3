use Rattle.std.proofs.Common.{◌∙◌, [], ◌∷◌, append_assoc, arith}
use Rattle.query.proofs.selecting.mask_of_rows.Goals as goal

pub push_reserved-requires : goal.push_reserved-requires
push_reserved-requires c =
    let room = rw c.in-Some.ensures.steps at c.loop-row.invariant.room in
    omega (arith, room)

pub loop-row-preserved : goal.loop-row-preserved
loop-row-preserved c =
    let kept = rw c.in-Some.ensures.steps at c.loop-row.invariant.flags in
    let room = rw c.in-Some.ensures.steps at c.loop-row.invariant.room in
    record {
      flags = rw (c.push_reserved.ensures.items, c.holds.ensures) (append_assoc c.loop-row.flags.items (_ ∷ []) _ ∙ kept);
      room = omega (arith, c.push_reserved.ensures.len, c.push_reserved.ensures.capacity, room);
    }
