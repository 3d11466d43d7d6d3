use Rattle.std.proofs.Common.{◌∙◌, inl, inr, refl, subst}
use Rattle.std.specs.Io.KnownBytes.{Appends}
use Rattle.std.proofs.lemmas.Result.{err_from_is_err_and, on_ok_weaker}
use Rattle.cli_commands.proofs.ReadingLemmas.{read_and_written}
use Rattle.cli_reports.specs.Output.{AppendsFront}
use Rattle.cli_commands.proofs.OutputLemmas.{if_failed}
use Rattle.cli_commands.proofs.TextLemmas.{printing_failed}
use Rattle.cli_commands.proofs.summing.print_summary.Goals as goal

pub returns-in_err-summary-clause-told : goal.returns-in_err-summary-clause-told
returns-in_err-summary-clause-told g c =
    let p = err_from_is_err_and c.from_residual.result c.from_residual.ensures.1 in
    rw (p.1, p.2) (inl c.in_err-summary.ensures)

pub returns-in_err-summary-clause-silent : goal.returns-in_err-summary-clause-silent
returns-in_err-summary-clause-silent g c =
    let p = err_from_is_err_and c.from_residual.result c.from_residual.ensures.1 in
    rw p.1 (λ _. refl)

pub returns-in_err-agree-clause-told : goal.returns-in_err-agree-clause-told
returns-in_err-agree-clause-told g c =
    let p = err_from_is_err_and c.from_residual-in_err-agree.result c.from_residual-in_err-agree.ensures.1 in
    rw (p.1, p.2) (inr c.in_err-agree.ensures.told)

pub returns-in_err-agree-clause-reads : goal.returns-in_err-agree-clause-reads
returns-in_err-agree-clause-reads g c =
    let p = err_from_is_err_and c.from_residual-in_err-agree.result c.from_residual-in_err-agree.ensures.1 in
    rw (p.1, p.2) c.in_err-agree.ensures.reads

pub returns-in_err-agree-clause-silent : goal.returns-in_err-agree-clause-silent
returns-in_err-agree-clause-silent g c =
    let p = err_from_is_err_and c.from_residual-in_err-agree.result c.from_residual-in_err-agree.ensures.1 in
    rw p.1 (λ _. refl)

pub returns-in_err-text-clause-silent : goal.returns-in_err-text-clause-silent
returns-in_err-text-clause-silent g c =
    let p = err_from_is_err_and c.from_residual-in_err-text.result c.from_residual-in_err-text.ensures.1 in
    rw p.1 (λ _. refl)

pub returns-in_err-text-clause-told : goal.returns-in_err-text-clause-told
returns-in_err-text-clause-told g c =
    let p = err_from_is_err_and c.from_residual-in_err-text.result c.from_residual-in_err-text.ensures.1 in
    rw (p.1, p.2) c.in_ok-summary.ensures.0

pub returns-in_err-text-clause-reads : goal.returns-in_err-text-clause-reads
returns-in_err-text-clause-reads g c =
    let p = err_from_is_err_and c.from_residual-in_err-text.result c.from_residual-in_err-text.ensures.1 in
    rw (p.1, p.2) c.in_ok-agree.ensures.reads

pub returns-clause-written : goal.returns-clause-written
returns-clause-written g c =
    let W = g.W.Write in
    on_ok_weaker c.write_whole.result
    (λ wrote. (
      c.in_ok-summary.summary,
      c.in_ok-agree.agree,
      c.in_ok-summary.ensures.1,
      c.in_ok-agree.ensures.found,
      subst (Appends (W.contents c.args.output.now) (W.contents c.write_whole.new.writer)) (c.as_bytes.ensures.value ∙ c.in_ok-text.ensures) wrote,
    ))
    c.write_whole.ensures.written

pub returns-clause-told : goal.returns-clause-told
returns-clause-told g c = printing_failed _ _ c.write_whole.result c.write_whole.ensures.io c.in_ok-summary.ensures.0

pub returns-clause-reads : goal.returns-clause-reads
returns-clause-reads g c = let D = g.D.SectorDevice in read_and_written D.story D.size D.failed D.tells _ _ c.write_whole.result c.write_whole.ensures.io c.in_ok-agree.ensures.reads

-- ---- where the output failed

pub returns-in_err-summary-clause-front : goal.returns-in_err-summary-clause-front
returns-in_err-summary-clause-front g c =
    let p = err_from_is_err_and c.from_residual.result c.from_residual.ensures.1 in
    rw (p.1, p.2) tt

pub returns-in_err-agree-clause-front : goal.returns-in_err-agree-clause-front
returns-in_err-agree-clause-front g c =
    let p = err_from_is_err_and c.from_residual-in_err-agree.result c.from_residual-in_err-agree.ensures.1 in
    rw (p.1, p.2) tt

pub returns-in_err-text-clause-front : goal.returns-in_err-text-clause-front
returns-in_err-text-clause-front g c =
    let p = err_from_is_err_and c.from_residual-in_err-text.result c.from_residual-in_err-text.ensures.1 in
    rw (p.1, p.2) tt

pub returns-clause-front : goal.returns-clause-front
returns-clause-front g c =
    let W = g.W.Write in
    if_failed _ _ c.write_whole.result
    (λ wrote. (
      c.in_ok-summary.summary,
      c.in_ok-agree.agree,
      c.in_ok-summary.ensures.1,
      c.in_ok-agree.ensures.found,
      subst (AppendsFront (W.contents c.args.output.now) (W.contents c.write_whole.new.writer)) (c.as_bytes.ensures.value ∙ c.in_ok-text.ensures) wrote,
    ))
    c.write_whole.ensures.front
