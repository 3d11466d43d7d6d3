use Rattle.std.specs.Prelude.{◌⊎◌, IfOk, IfErr}
use Rattle.std.proofs.Common.{◌≡◌, Result, Err, inl, inr, sym, ap, ◌∙◌, subst}
use Rattle.catalogue.specs.Entries.{PlainEntry, plain_entry}
use Rattle.tables.specs.declared.refusal.Refusal.{Refusal}
use Rattle.tables.specs.declared.refusal.Refusal.TheVariants.{OutOfMemory}
use Rattle.store_runs.specs.Deciding.{Addition}
use Rattle.store_changes.specs.declared.new_rows.NewRows.{NewRows}
use Rattle.store_changes.specs.Appending.{added_to, ArePassed}
use Rattle.store_changes.proofs.new_rows.pass_new.Goals as goal

pub returns-in-Ok-clause-passed : goal.returns-in-Ok-clause-passed
returns-in-Ok-clause-passed c =
    let e : PlainEntry = plain_entry c.args.entry.now in
    (ap (λ (new : NewRows). added_to new e) c.in-Stream.is ∙ c.in-Ok.ensures.tested, c.in-Ok.ensures.weight, c.in-Ok.ensures.table)

pub returns-in-Err-clause-refused : goal.returns-in-Err-clause-refused
returns-in-Err-clause-refused c =
    let e : PlainEntry = plain_entry c.args.entry.now in
    elim c.in-Err.ensures.refused [ inl memory ↦ inl memory | inr is ↦ inr (ap (λ (new : NewRows). added_to new e) c.in-Stream.is ∙ is) ]

pub returns-in-Given-clause-passed : goal.returns-in-Given-clause-passed
returns-in-Given-clause-passed c =
    let e : PlainEntry = plain_entry c.args.entry.now in
    subst (λ (tested : Result Addition Refusal). IfOk c.pass_rows.result (ArePassed e tested)) (sym (ap (λ (new : NewRows). added_to new e) c.in-Given.is)) c.pass_rows.ensures.passed

pub returns-in-Given-clause-refused : goal.returns-in-Given-clause-refused
returns-in-Given-clause-refused c =
    let e : PlainEntry = plain_entry c.args.entry.now in
    subst (λ (tested : Result Addition Refusal). IfErr c.pass_rows.result (λ r. (r ≡ OutOfMemory) ⊎ (tested ≡ Err r))) (sym (ap (λ (new : NewRows). added_to new e) c.in-Given.is)) c.pass_rows.ensures.refused

pub returns-in-OfTable-clause-passed : goal.returns-in-OfTable-clause-passed
returns-in-OfTable-clause-passed c =
    let e : PlainEntry = plain_entry c.args.entry.now in
    subst (λ (tested : Result Addition Refusal). IfOk c.pass_table.result (ArePassed e tested)) (sym (ap (λ (new : NewRows). added_to new e) c.in-OfTable.is)) c.pass_table.ensures.passed

pub returns-in-OfTable-clause-refused : goal.returns-in-OfTable-clause-refused
returns-in-OfTable-clause-refused c =
    let e : PlainEntry = plain_entry c.args.entry.now in
    subst (λ (tested : Result Addition Refusal). IfErr c.pass_table.result (λ r. (r ≡ OutOfMemory) ⊎ (tested ≡ Err r))) (sym (ap (λ (new : NewRows). added_to new e) c.in-OfTable.is)) c.pass_table.ensures.refused
