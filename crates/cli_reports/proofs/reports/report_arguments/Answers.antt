use Rattle.std.proofs.Common.{inr, refl}
use Rattle.cli_reports.proofs.TextLemmas.{wrong_reported, wrong_undone, help_reported, help_given}
use Rattle.cli_reports.proofs.reports.report_arguments.Goals as goal

pub returns-in_default-clause-request : goal.returns-in_default-clause-request
returns-in_default-clause-request g c = inr (c.report_wrong_arguments.ensures.wrong, refl)

pub returns-in_default-clause-helps : goal.returns-in_default-clause-helps
returns-in_default-clause-helps g c = wrong_undone _ c.report_wrong_arguments.ensures.wrong

pub returns-in_default-clause-memory : goal.returns-in_default-clause-memory
returns-in_default-clause-memory g c = λ memory. (c.report_wrong_arguments.ensures.memory memory, refl)

pub returns-in_default-clause-reports : goal.returns-in_default-clause-reports
returns-in_default-clause-reports g c =
    wrong_reported g.E.Write.contents _ c.args.output.now _ _ c.report_wrong_arguments.result c.report_wrong_arguments.ensures.wrong c.report_wrong_arguments.ensures.line

pub returns-in-DisplayHelp-clause-helps : goal.returns-in-DisplayHelp-clause-helps
returns-in-DisplayHelp-clause-helps g c = help_given c.write_help-written.result c.end_text.result.status _ c.write_help-written.ensures.written c.end_text.ensures.refused

pub returns-in-DisplayHelp-clause-reports : goal.returns-in-DisplayHelp-clause-reports
returns-in-DisplayHelp-clause-reports g c =
    let line = c.end_text.ensures.line in
    help_reported g.E.Write.contents _ line.0 _ _ _ _ c.write_help-written.result c.end_text.result c.end_text.ensures.done c.end_text.ensures.refused c.write_help-written.ensures.silent
    line.1 line.2
