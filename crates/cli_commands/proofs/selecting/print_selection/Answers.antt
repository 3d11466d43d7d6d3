use Rattle.std.proofs.Common.{◌∙◌, subst}
use Rattle.std.proofs.lemmas.Result.{err_from_is_err_and}
use Rattle.query.specs.View.{query_in}
use Rattle.store.specs.Selecting.{AnswersQuery}
use Rattle.cli_reports.specs.Output.{AppendsFront}
use Rattle.cli_commands.proofs.OutputLemmas.{if_failed, not_io}
use Rattle.cli_commands.proofs.ReadingLemmas.{read_and_written}
use Rattle.cli_commands.proofs.SelectingLemmas.{query_told, only_read}
use Rattle.cli_commands.proofs.TextLemmas.{lines_written, selection_told}
use Rattle.cli_commands.proofs.selecting.print_selection.Goals as goal

pub returns-in-Ok-clause-written : goal.returns-in-Ok-clause-written
returns-in-Ok-clause-written g c =
    let found = c.in_ok-answer.ensures.answers in
    let lines = subst (AnswersQuery c.args.form found.0 (query_in c.args.query.now)) c.in-Ok.is found.2 in
    lines_written _ _ _ _ _ _ found.0 lines.0 c.deref.result.now _ _ c.write_whole.result found.1 lines.1 (c.deref.ensures.value ∙ lines.2) c.write_whole.ensures.written

pub returns-in-Ok-clause-told : goal.returns-in-Ok-clause-told
returns-in-Ok-clause-told g c =
    let found = c.in_ok-answer.ensures.answers in
    let lines = subst (AnswersQuery c.args.form found.0 (query_in c.args.query.now)) c.in-Ok.is found.2 in
    selection_told _ _ _ _ _ _ found.0 lines.0 c.write_whole.result c.write_whole.ensures.io found.1 lines.1

pub returns-in-Ok-clause-reads : goal.returns-in-Ok-clause-reads
returns-in-Ok-clause-reads g c = let D = g.D.SectorDevice in read_and_written D.story D.size D.failed D.tells _ _ c.write_whole.result c.write_whole.ensures.io c.in_ok-answer.ensures.reads

pub returns-in-Err-clause-told : goal.returns-in-Err-clause-told
returns-in-Err-clause-told g c =
    let found = c.in_ok-answer.ensures.answers in
    let why = subst (AnswersQuery c.args.form found.0 (query_in c.args.query.now)) c.in-Err.is found.2 in
    rw c.from.ensures (query_told _ _ _ _ _ _ found.0 c.in-Err.error found.1 why)

pub returns-in-Err-clause-reads : goal.returns-in-Err-clause-reads
returns-in-Err-clause-reads g c = let D = g.D.SectorDevice in rw c.from.ensures (only_read D.story D.size D.failed D.tells _ _ c.in-Err.error c.in_ok-answer.ensures.reads)

pub returns-in_err-answer-clause-told : goal.returns-in_err-answer-clause-told
returns-in_err-answer-clause-told g c =
    let p = err_from_is_err_and c.from_residual.result c.from_residual.ensures.1 in
    rw (p.1, p.2) c.in_err-answer.ensures.told

pub returns-in_err-answer-clause-reads : goal.returns-in_err-answer-clause-reads
returns-in_err-answer-clause-reads g c =
    let p = err_from_is_err_and c.from_residual.result c.from_residual.ensures.1 in
    rw (p.1, p.2) c.in_err-answer.ensures.reads

-- ---- where the output failed

pub returns-in-Ok-clause-front : goal.returns-in-Ok-clause-front
returns-in-Ok-clause-front g c =
    let W = g.W.Write in
    let found = c.in_ok-answer.ensures.answers in
    let lines = subst (AnswersQuery c.args.form found.0 (query_in c.args.query.now)) c.in-Ok.is found.2 in
    if_failed _ _ c.write_whole.result
    (λ wrote. (
      lines.0,
      record { table = found.0; reads = found.1; answers = lines.1 },
      subst (AppendsFront (W.contents c.args.output.now) (W.contents c.write_whole.new.writer)) (c.deref.ensures.value ∙ lines.2) wrote,
    ))
    c.write_whole.ensures.front

pub returns-in-Err-clause-front : goal.returns-in-Err-clause-front
returns-in-Err-clause-front g c = rw c.from.ensures (not_io _ c.in-Err.error)

pub returns-in_err-answer-clause-front : goal.returns-in_err-answer-clause-front
returns-in_err-answer-clause-front g c =
    let p = err_from_is_err_and c.from_residual.result c.from_residual.ensures.1 in
    rw (p.1, p.2) tt
