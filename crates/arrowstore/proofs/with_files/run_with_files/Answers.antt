use Rattle.std.proofs.Common.{◌∙◌, [], inl, inr, refl, sym, true≢false}
use Rattle.cli_reports.specs.Known.{unchanging}
use Rattle.cli_reports.specs.Warnings.{both_notes, no_notes}
use Rattle.arrowstore.proofs.EndLemmas.{reported_of_word, told_of_word}
use Rattle.arrowstore.proofs.WordLemmas.{recode_of_no_store, own_of_no_store}
use Rattle.arrowstore.proofs.with_files.run_with_files.Goals as goal

pub run_on_store-requires : goal.run_on_store-requires
run_on_store-requires g c = sym c.is_of_store.ensures ∙ c.if-is_of_store.true

pub returns-then-is_of_store-clause-done : goal.returns-then-is_of_store-clause-done
returns-then-is_of_store-clause-done g c = λ _. inr (sym c.is_of_store.ensures ∙ c.if-is_of_store.true)

pub returns-then-is_of_store-clause-recodes : goal.returns-then-is_of_store-clause-recodes
returns-then-is_of_store-clause-recodes g c = λ are. absurd (true≢false (sym (sym c.is_of_store.ensures ∙ c.if-is_of_store.true) ∙ recode_of_no_store _ are))

pub returns-then-is_of_store-clause-own : goal.returns-then-is_of_store-clause-own
returns-then-is_of_store-clause-own g c = λ own. absurd (true≢false (sym (sym c.is_of_store.ensures ∙ c.if-is_of_store.true) ∙ own_of_no_store _ own))

pub returns-then-is_of_store-clause-wrong_arguments : goal.returns-then-is_of_store-clause-wrong_arguments
returns-then-is_of_store-clause-wrong_arguments g c = inr (inl (sym c.is_of_store.ensures ∙ c.if-is_of_store.true))

pub returns-then-is_of_store-clause-others_leave_input : goal.returns-then-is_of_store-clause-others_leave_input
returns-then-is_of_store-clause-others_leave_input g c = inr c.run_on_store.ensures.input

pub returns-then-is_of_store-clause-serves : goal.returns-then-is_of_store-clause-serves
returns-then-is_of_store-clause-serves g c = λ _. c.run_on_store.ensures.serves

pub returns-then-is_of_store-clause-reports : goal.returns-then-is_of_store-clause-reports
returns-then-is_of_store-clause-reports g c =
    let is = sym c.is_of_store.ensures ∙ c.if-is_of_store.true in
    elim c.run_on_store.ensures.serves [
      | inl none ↦ (unchanging none.2.0, [], no_notes, inl is, reported_of_word _ _ (unchanging none.2.0) [] no_notes _ _ _ _ _ _ none.2.2)
      | inr asked ↦ (asked.served.known, asked.served.left, both_notes asked.served.remarks.note asked.served.warning, inl is, told_of_word _ _ _ _ _ _ _ _ _ _ _ _ asked.asks.0 asked.served.told)
    ]

pub returns-clause-done : goal.returns-clause-done
returns-clause-done g c = λ done. inl (c.run.ensures.done done)

pub returns-clause-recodes : goal.returns-clause-recodes
returns-clause-recodes g c = c.run.ensures.recodes

pub returns-clause-own : goal.returns-clause-own
returns-clause-own g c = c.run.ensures.own

pub returns-clause-wrong_arguments : goal.returns-clause-wrong_arguments
returns-clause-wrong_arguments g c = elim c.run.ensures.wrong_arguments [ inl right ↦ inl right | inr wrong ↦ inr (inr wrong) ]

pub returns-clause-others_leave_input : goal.returns-clause-others_leave_input
returns-clause-others_leave_input g c = elim c.run.ensures.only_recode_reads [ inl recode ↦ inl recode | inr same ↦ inr (inr same) ]

pub returns-clause-serves : goal.returns-clause-serves
returns-clause-serves g c = λ is. absurd (true≢false (sym is ∙ (sym c.is_of_store.ensures ∙ c.if-is_of_store.false)))

pub returns-clause-reports : goal.returns-clause-reports
returns-clause-reports g c = let has = c.run.ensures.reports in (unchanging has.0, [], no_notes, inr (refl, refl, refl, has.1), reported_of_word _ _ (unchanging has.0) [] no_notes _ _ _ _ _ _ has.2)

pub returns-then-is_of_store-clause-helps : goal.returns-then-is_of_store-clause-helps
returns-then-is_of_store-clause-helps g c = λ _. inr (inr (inl (sym c.is_of_store.ensures ∙ c.if-is_of_store.true)))

pub returns-clause-helps : goal.returns-clause-helps
returns-clause-helps g c = λ done. elim (c.run.ensures.helps done) [
  | inl recode ↦ inl recode
  | inr other ↦ elim other [ inl own ↦ inr (inl own) | inr given ↦ inr (inr (inr given)) ]
]
