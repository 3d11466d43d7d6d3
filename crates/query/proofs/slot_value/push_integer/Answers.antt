use mir.Val.{SFits}
use Rattle.std.specs.Int.{w128}
use Rattle.std.proofs.Common.{rules}
use Rattle.std.proofs.lemmas.Int.{to_z-of_z}
use Rattle.query.specs.Line.{json_of}
use Rattle.query.proofs.slot_value.push_integer.Goals as goal

pub returns-in-Some : goal.returns-in-Some
unfolding json_of
returns-in-Some c =
    let fits : SFits w128 c.in-Some.number = search rules in
    rw c.in-Some.is (rw (to_z-of_z w128 c.in-Some.number fits) at c.push_number.ensures)

pub returns-in-None : goal.returns-in-None
unfolding json_of
returns-in-None c = rw c.in-None.is c.push_bytes.ensures
