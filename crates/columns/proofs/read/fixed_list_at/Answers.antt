use Rattle.std.proofs.Common.{◌≤◌, ◌*◌, arith}
use Rattle.std.proofs.Math.Nat.{mul-le-mul_left}
use Rattle.std.proofs.lemmas.Bool.{leb-true}
use Rattle.columns.specs.Array.{slots_in, items_in}
use Rattle.columns.specs.View.{view_array}
use Rattle.columns.proofs.read.fixed_list_at.Goals as goal

pub overflow_mul-start : goal.overflow_mul-start
overflow_mul-start c =
    let long : slots_in (view_array c.args.view) * c.args.size ≤ slots_in (items_in (view_array c.args.view)) = leb-true _ _ c.requires.long in
    let le : c.args.i ≤ slots_in (view_array c.args.view) = omega arith in
    omega (arith, long, mul-le-mul_left c.args.size le, c.item_slots-most.ensures)
