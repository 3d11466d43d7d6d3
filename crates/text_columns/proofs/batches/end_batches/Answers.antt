use Rattle.std.proofs.Common.{List, subst, sym}
use Rattle.values.specs.declared.table_part.TablePart.{TablePart}
use Rattle.text_columns.specs.inner.Batches.{ArePartsOf}
use Rattle.text_columns.proofs.Held.{parts_more}
use Rattle.text_columns.proofs.batches.end_batches.Goals as goal

pub returns : goal.returns
returns c = λ s rows holds.
    subst (λ (parts : List TablePart). ArePartsOf s rows parts) (sym c.in_ok-push.ensures.items)
    (parts_more s rows c.args.batches c.in_ok-part.part holds c.in_ok-part.ensures)
