use Rattle.store_changes.proofs.Verdicts.{done_verdict, left_verdict}
use Rattle.store_changes.proofs.laws.what_is_done_is_the_verdict.Goals as goal

pub returns : goal.returns
returns c =
    let laws = c.laws_below.ensures in
    record {
      done = done_verdict laws;
      left = λ size entries k c before t command image stands held brings is. left_verdict laws size entries k c before t command image stands held brings is.kept is.which;
    }
