use Rattle.std.proofs.Common.{ap, ◌∙◌}
use Rattle.selection.specs.SelectionBuilder.{PlainBuilder, builder_in, builder_after}
use Rattle.selection.specs.laws.Parts.{built_both}
use Rattle.values.specs.TableView.{table_of}
use Rattle.store.proofs.saving.SelectionBuilderTakesRows.take.Goals as goal

pub returns-clause-taken : goal.returns-clause-taken
returns-clause-taken c = λ start rows has.
    let own = (table_of c.args.next.now).rows in
    c.in_ok-append.ensures.ok ∙ ap (λ (b : PlainBuilder). builder_after b own) has ∙ built_both (builder_in start) rows own
