use Rattle.std.specs.Prelude.{◌++◌}
use Rattle.std.proofs.Common.{ap, sym, subst, ◌∙◌}
use Rattle.sector_dev.specs.Disk.{Story, moment, LeftSince}
use Rattle.sector_dev.specs.View.{story_over}
use Rattle.file_runs.proofs.Grown.{grows_from}
use Rattle.file_runs.proofs.each_stop_of_a_file_is_allowed.Goals as goal

pub returns : goal.returns
returns g c = λ told s calls replies m old failed m' failed' run i image allows at left.
    let new = story_over c.args.ended.now in
    let later = grows_from s calls replies m old failed m' new failed' run i in
    c.each_stop_is_allowed.ensures s calls replies m old failed m' new failed' run i image allows
    (subst (λ (t : Story). LeftSince new (moment t) image) at
    (c.left_no_more_since.ensures told later.fresh (later.joined ∙ ap (λ (t : Story). later.fresh ++ t) (sym at)) image left))
