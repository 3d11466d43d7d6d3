use mir.Val.{SFits}
use Rattle.std.specs.Int.{w64}
use Rattle.std.proofs.Common.{rules}
use Rattle.std.proofs.lemmas.Int.{to_z-of_z}
use Rattle.query.proofs.Pushed.{between}
use Rattle.query.proofs.shown.push_quoted_date.Goals as goal

pub returns : goal.returns
returns c =
    let fits : SFits w64 c.args.number = search rules in
    rw (to_z-of_z w64 c.args.number fits) at (between c.push_bytes-2.result 34 34 _ _ _ _ _ c.in_ok-push_bytes.ensures c.in_ok-push_value.ensures c.push_bytes-2.ensures)
