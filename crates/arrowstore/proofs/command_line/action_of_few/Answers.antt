use Rattle.std.proofs.Common.{◌∙◌, subst, sym, true≢false}
use Rattle.std.proofs.lemmas.Result.{err_from_is_err_and}
use Rattle.arrowstore.proofs.CommandLemmas.{memory_alone, recode_named, no_fault_right, fault_asks}
use Rattle.arrowstore.proofs.WordLemmas.{help_of_command_asks, recode_is_not_help}
use Rattle.cli_reports.specs.Reported.{IsRequest}
use Rattle.arrowstore.proofs.command_line.action_of_few.Goals as goal

-- one that asks for the help of a command of a store asks for no stream
pub returns-in_err-help_of_command-clause-understood : goal.returns-in_err-help_of_command-clause-understood
returns-in_err-help_of_command-clause-understood g c = λ are.
    let asks = sym c.ask_help_of_command.ensures ∙ c.if-ask_help_of_command.true in
    absurd (true≢false (sym asks ∙ recode_is_not_help _ are))

pub returns-in_err-help_of_command-clause-request : goal.returns-in_err-help_of_command-clause-request
returns-in_err-help_of_command-clause-request g c =
    let asks = sym c.ask_help_of_command.ensures ∙ c.if-ask_help_of_command.true in
    let p = err_from_is_err_and c.from_residual.result c.from_residual.ensures.1 in
    rw (p.1, p.2) (λ _. help_of_command_asks _ asks c.requires)

pub returns-clause-understood : goal.returns-clause-understood
returns-clause-understood g c = λ are. c.with_all_commands.ensures ∙ memory_alone _ _ _ c.in_ok-program.ensures are c.in-Err.ensures.passes

pub returns-clause-request : goal.returns-clause-request
returns-clause-request g c = λ asks. fault_asks _ _ _ c.in_ok-program.ensures c.requires c.in-Err.ensures.kinds (subst IsRequest c.with_all_commands.ensures asks)

pub named-requires : goal.named-requires
named-requires g c = recode_named _ _ _ c.in_ok-program.ensures (no_fault_right _ _ c.in_ok-program.ensures c.in-Ok.ensures.kinds) c.in-Ok.ensures.matches

pub returns-in-Ok-clause-asked : goal.returns-in-Ok-clause-asked
returns-in-Ok-clause-asked g c = no_fault_right _ _ c.in_ok-program.ensures c.in-Ok.ensures.kinds
