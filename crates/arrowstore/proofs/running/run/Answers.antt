use Rattle.std.proofs.Common.{◌∙◌, inl, inr, sym, true≢false}
use Rattle.arrowstore.proofs.CommandLemmas.{not_done}
use Rattle.arrowstore.proofs.EndLemmas.{own_given, own_reported, text_given, text_hints, text_may_hint, memory_recodes}
use Rattle.arrowstore.proofs.WordLemmas.{help_of_topic_asks, recode_asks_no_topic, recode_is_not_own}
use Rattle.arrowstore.proofs.running.run.Goals as goal

pub returns-in-Err-clause-done : goal.returns-in-Err-clause-done
returns-in-Err-clause-done g c = λ done.
    elim c.report_arguments.ensures.request [ inl asked ↦ inr (inl (c.in-Err.ensures.request asked)) | inr other ↦ absurd (not_done _ other.0 done) ]

pub returns-in-Err-clause-wrong_arguments : goal.returns-in-Err-clause-wrong_arguments
returns-in-Err-clause-wrong_arguments g c = elim c.report_arguments.ensures.request [
  | inl asked ↦ inl (inr (inl (c.in-Err.ensures.request asked)))
  | inr other ↦ inr other
]

pub returns-then-is_own-clause-done : goal.returns-then-is_own-clause-done
returns-then-is_own-clause-done g c = λ _. inr (inr (sym c.is_own.ensures ∙ c.if-is_own.true))

pub returns-then-is_own-clause-recodes : goal.returns-then-is_own-clause-recodes
returns-then-is_own-clause-recodes g c = λ are. absurd (true≢false (sym (sym c.is_own.ensures ∙ c.if-is_own.true) ∙ recode_is_not_own _ are))

pub returns-then-is_own-clause-own : goal.returns-then-is_own-clause-own
returns-then-is_own-clause-own g c = λ _.
    own_given c.write_own_text-written.result c.end_text.result.status _ _ _ c.end_text.ensures.done c.end_text.ensures.refused c.write_own_text-written.ensures.written c.write_own_text-written.ensures.refused

pub returns-then-is_own-clause-reports : goal.returns-then-is_own-clause-reports
returns-then-is_own-clause-reports g c =
    let line = c.end_text.ensures.line in
    own_reported _ g.E.Write.contents _ line.0 _ _ _ _ c.write_own_text-written.result c.end_text.result c.end_text.ensures.done c.end_text.ensures.refused c.write_own_text-written.ensures.silent
    (text_hints _ line.0 c.write_own_text-written.result line.1) line.2

pub returns-in-Err-clause-reports : goal.returns-in-Err-clause-reports
returns-in-Err-clause-reports g c = text_may_hint _ g.E.Write.contents _ _ _ _ _ _ c.report_arguments.ensures.reports

pub returns-in-Err-clause-recodes : goal.returns-in-Err-clause-recodes
returns-in-Err-clause-recodes g c = λ are.
    let memory = c.report_arguments.ensures.memory (c.in-Err.ensures.understood are) in
    memory_recodes g.W.Write.contents (g.R.Read.remaining c.args.input.now) _ _ _ memory.0 memory.1

pub returns-in-Err-clause-own : goal.returns-in-Err-clause-own
returns-in-Err-clause-own g c = λ own. absurd (true≢false (sym own ∙ (sym c.is_own.ensures ∙ c.if-is_own.false)))

pub returns-in-Err-clause-helps : goal.returns-in-Err-clause-helps
returns-in-Err-clause-helps g c = λ done. inr (inr (c.report_arguments.ensures.helps done))

pub returns-then-is_own-clause-helps : goal.returns-then-is_own-clause-helps
returns-then-is_own-clause-helps g c = λ _. inr (inl (sym c.is_own.ensures ∙ c.if-is_own.true))

pub returns-then-asks_code-clause-done : goal.returns-then-asks_code-clause-done
returns-then-asks_code-clause-done g c = λ _. inr (inl (help_of_topic_asks _ (c.asks_code.ensures c.if-asks_code.true)))

pub returns-then-asks_code-clause-recodes : goal.returns-then-asks_code-clause-recodes
returns-then-asks_code-clause-recodes g c = λ are. absurd (true≢false (sym (c.asks_code.ensures c.if-asks_code.true) ∙ recode_asks_no_topic _ are))

pub returns-then-asks_code-clause-own : goal.returns-then-asks_code-clause-own
returns-then-asks_code-clause-own g c = λ own. absurd (true≢false (sym own ∙ (sym c.is_own.ensures ∙ c.if-is_own.false)))

pub returns-then-asks_code-clause-wrong_arguments : goal.returns-then-asks_code-clause-wrong_arguments
returns-then-asks_code-clause-wrong_arguments g c = inl (inr (inl (help_of_topic_asks _ (c.asks_code.ensures c.if-asks_code.true))))

pub returns-then-asks_code-clause-helps : goal.returns-then-asks_code-clause-helps
returns-then-asks_code-clause-helps g c = λ done.
    inr (inr (text_given c.write_entry_asked-written.result c.end_text-then-asks_code.result.status _ c.write_entry_asked-written.ensures.written c.end_text-then-asks_code.ensures.refused done))

pub returns-then-asks_code-clause-reports : goal.returns-then-asks_code-clause-reports
returns-then-asks_code-clause-reports g c =
    let line = c.end_text-then-asks_code.ensures.line in
    own_reported _ g.E.Write.contents _ line.0 _ _ _ _ c.write_entry_asked-written.result c.end_text-then-asks_code.result c.end_text-then-asks_code.ensures.done c.end_text-then-asks_code.ensures.refused
    c.write_entry_asked-written.ensures.silent (text_hints _ line.0 c.write_entry_asked-written.result line.1) line.2
