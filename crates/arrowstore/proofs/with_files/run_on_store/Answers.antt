use Rattle.std.proofs.Common.{inl, inr, refl}
use Rattle.arrowstore.proofs.EndLemmas.{wrong_told}
use Rattle.arrowstore.proofs.FileLemmas.{refused_memory, sign_takes_none, takes_input_by}
use Rattle.arrowstore.proofs.with_files.run_on_store.Goals as goal

pub returns-in-Ok-clause-serves : goal.returns-in-Ok-clause-serves
returns-in-Ok-clause-serves g c = inr (record {
  request = c.in-Ok.request;
  asks = c.in-Ok.ensures.asks;
  served = c.serve_and_report.ensures.serves;
})

pub returns-in-Ok-clause-input : goal.returns-in-Ok-clause-input
returns-in-Ok-clause-input g c = elim c.serve_and_report.ensures.unread [
  | inl takes ↦ inl (takes_input_by _ _ c.in-Ok.ensures.asks.0 takes)
  | inr kept ↦ inr kept
]

pub returns-in-Err-Words-clause-serves : goal.returns-in-Err-Words-clause-serves
returns-in-Err-Words-clause-serves g c =
    let e = c.in-Err-Words in
    inl (
      (
        rw (← c.ask_for_help.ensures) c.report_mistake.ensures.none,
        λ right. elim (e.ensures.taken right) [
          | inl memory ↦ inl (c.report_mistake.ensures.memory (refused_memory e.field-0 e.error e.field-0-is memory))
          | inr device ↦ inr device
        ],
      ),
      refl,
      c.report_mistake.ensures.reports,
    )

pub returns-in-Err-SignedNumber-clause-serves : goal.returns-in-Err-SignedNumber-clause-serves
returns-in-Err-SignedNumber-clause-serves g c =
    let e = c.in-Err-SignedNumber in
    inl (
      (
        inr (inl c.report_signed_number.ensures.wrong, refl),
        λ right. elim (e.ensures.taken right) [
          | inl memory ↦ absurd (sign_takes_none e.field-0 e.field-0-is memory)
          | inr device ↦ inr device
        ],
      ),
      refl,
      wrong_told _ _ _ _ _ _ c.report_signed_number.ensures.wrong,
    )
