use Rattle.std.proofs.Common.{◌∙◌, sym, true≢false}
use Rattle.cli_replay.proofs.files.stream_of_file.Goals as goal

pub returns-clause-ended : goal.returns-clause-ended
returns-clause-ended g c = λ complete lacks.
    let decided = rw c.deref.ensures.value at c.lacks_end.ensures in
    true≢false (sym (decided.1 lacks) ∙ c.if-lacks_end.false)
