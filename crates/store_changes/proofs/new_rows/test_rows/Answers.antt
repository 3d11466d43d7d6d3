use Rattle.std.proofs.Common.{◌≡◌, ℕ, Option, Some, None, inr, refl, subst}
use Rattle.tables.specs.declared.refusal.Refusal.TheVariants.{RowUnfit}
use Rattle.store_changes.proofs.new_rows.test_rows.Goals as goal

pub first_unfit_row-requires : goal.first_unfit_row-requires
first_unfit_row-requires c = c.requires

pub returns-in-Ok-None-clause-ok : goal.returns-in-Ok-None-clause-ok
returns-in-Ok-None-clause-ok c =
    let is = rw c.in-Ok-None.field-0-is at c.in-Ok-None.ensures.first in
    subst (λ (o : Option ℕ). elim o [ None ↦ None | Some i ↦ Some (RowUnfit i) ] ≡ None) is refl

pub returns-in-Ok-Some-clause-err : goal.returns-in-Ok-Some-clause-err
returns-in-Ok-Some-clause-err c =
    let is = rw c.in-Ok-Some.field-0-is at c.in-Ok-Some.ensures.first in
    inr (subst (λ (o : Option ℕ). elim o [ None ↦ None | Some i ↦ Some (RowUnfit i) ] ≡ Some (RowUnfit c.in-Ok-Some.row)) is refl)
