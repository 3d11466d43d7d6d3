use Rattle.std.proofs.Common.{◌∙◌, ap, map, subst}
use Rattle.std.specs.Prelude.{string_bytes}
use Rattle.std.proofs.lemmas.Result.{err_from_is_err_and}
use Rattle.cli_reports.specs.Output.{AppendsFront}
use Rattle.cli_commands.specs.Printed.{tables_text}
use Rattle.cli_commands.proofs.OutputLemmas.{if_failed}
use Rattle.cli_commands.proofs.printing.print_tables.Goals as goal

-- ---- where the output failed

pub returns-in_err-tables-clause-front : goal.returns-in_err-tables-clause-front
returns-in_err-tables-clause-front g c =
    let p = err_from_is_err_and c.from_residual.result c.from_residual.ensures.1 in
    rw (p.1, p.2) tt

pub returns-in_err-text-clause-front : goal.returns-in_err-text-clause-front
returns-in_err-text-clause-front g c =
    let p = err_from_is_err_and c.from_residual-in_err-text.result c.from_residual-in_err-text.ensures.1 in
    rw (p.1, p.2) tt

pub returns-clause-front : goal.returns-clause-front
returns-clause-front g c =
    let W = g.W.Write in
    if_failed _ _ c.write_whole.result
    (subst (AppendsFront (W.contents c.args.output.now) (W.contents c.write_whole.new.writer))
    (c.as_bytes.ensures.value ∙ c.in_ok-text.ensures ∙ ap (λ ts. tables_text (map (λ t. (string_bytes t.0, t.1)) ts)) c.deref.ensures.value
    ∙ ap tables_text c.in_ok-tables.ensures.listed.1))
    c.write_whole.ensures.front
