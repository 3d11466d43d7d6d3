use Rattle.std.proofs.Common.{◌∙◌, ◌++◌, Bool, true, List, ap, replicate}
use Rattle.query.proofs.Joining.{packed_mask}
use Rattle.query.proofs.selecting.all_rows.Goals as goal

pub returns : goal.returns
returns c =
    packed_mask _ c.push_alike.new.self _ (c.in_ok-push_alike.ensures.ok ∙ ap (λ (bits : List Bool). bits ++ replicate c.args.rows true) c.in_ok-mask.ensures)
    c.into_mask.ensures.bits c.into_mask.ensures.length
