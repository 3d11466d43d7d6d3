use Rattle.std.proofs.Common.{sym, subst, ap, ◌∙◌}
use Rattle.std.proofs.lemmas.Result.{IfOk-weaker}
use Rattle.catalogue.specs.Entries.{PlainCatalogue, IsCatalogue}
use Rattle.catalogue.specs.declared.catalogue.Catalogue.{Catalogue}
use Rattle.store_changes.specs.Change.{edit_of}
use Rattle.store_runs.specs.Changes.{edited, IsEdit}
use Rattle.store_changes.proofs.editing.edited.Goals as goal

pub edited_in_place-requires-clause-edit : goal.edited_in_place-requires-clause-edit
edited_in_place-requires-clause-edit c =
    let edit = c.requires.edit in
    (edit.0, subst (λ (d : PlainCatalogue). IsEdit d (edit_of c.args.edit.now) edit.0) (sym c.in_ok-changed.ensures) edit.1)

pub edited_in_place-requires-clause-stands : goal.edited_in_place-requires-clause-stands
edited_in_place-requires-clause-stands c =
    subst (λ (d : PlainCatalogue). IsCatalogue (edited d (edit_of c.args.edit.now) c.args.segments.now)) (sym c.in_ok-changed.ensures) c.requires.stands

pub returns : goal.returns
returns c =
    let after : PlainCatalogue → PlainCatalogue = λ d. edited d (edit_of c.args.edit.now) c.args.segments.now in
    IfOk-weaker c.edited_in_place.result _ _ (λ (made : Catalogue) is. is ∙ ap after c.in_ok-changed.ensures) c.edited_in_place.ensures
