use Rattle.std.proofs.Common.{inl, inr, arith}
use Rattle.std.proofs.lemmas.List.{length-map}
use Rattle.std.proofs.lemmas.Result.{err_from_is_err_and}
use Rattle.cli_requests.proofs.AppLemmas.{named_result}
use Rattle.cli_requests.proofs.RightLemmas.{read_result, right_by_memory, right_is_takable, taken_by_memory, taken_is_takable}
use Rattle.cli_requests.proofs.store_command_line.request_of.Goals as goal

pub returns-clause-named : goal.returns-clause-named
returns-clause-named g c = λ of_store. named_result _ _ _ _ _ c.asked.result of_store c.first_word-word.ensures c.words_from_command.ensures c.in_ok-command.ensures
    c.in_ok-matches.ensures.kinds c.in_ok-matches.ensures.matches c.asked.ensures.word c.asked.ensures.named

pub returns-clause-read : goal.returns-clause-read
returns-clause-read g c = read_result _ _ _ _ c.first_word-word.ensures c.words_from_command.ensures c.in_ok-command.ensures _ c.asked.result
    c.in_ok-matches.ensures.kinds c.in_ok-matches.ensures.matches c.asked.ensures.named

pub returns-clause-taken : goal.returns-clause-taken
returns-clause-taken g c = λ right. c.asked.ensures.taken (elim right [
  | inl operands ↦ right_is_takable _ _ _ _ _ operands c.first_word-word.ensures c.words_from_command.ensures c.in_ok-command.ensures
      c.in_ok-matches.ensures.kinds c.in_ok-matches.ensures.matches
  | inr taken ↦ taken_is_takable _ _ _ _ c.first_word-word.ensures c.words_from_command.ensures c.in_ok-command.ensures _ taken c.in_ok-matches.ensures.matches
])

pub returns-in_err-matches-clause-taken : goal.returns-in_err-matches-clause-taken
returns-in_err-matches-clause-taken g c =
    let p = err_from_is_err_and c.from_residual-in_err-matches.result c.from_residual-in_err-matches.ensures.1 in
    rw (p.1, p.2) (λ right. elim right [
      | inl operands ↦ right_by_memory _ _ _ _ _ operands c.first_word-word.ensures c.words_from_command.ensures c.in_ok-command.ensures (omega (arith, length-map c.args.arguments.now g.S.AsStr.text))
          c.in_err-matches.ensures.kinds
      | inr taken ↦ taken_by_memory _ _ _ _ c.first_word-word.ensures c.words_from_command.ensures c.in_ok-command.ensures _ taken c.in_err-matches.ensures.kinds
    ])
