use Rattle.std.proofs.Common.{◌≡◌, ◌++◌, ◌∙◌, true, List, ◌∷◌, [], ap, sym, subst}
use Rattle.std.specs.List.{list_all}
use Rattle.catalogue.specs.declared.entry.Segment.{Segment}
use Rattle.catalogue.specs.Entries.{PlainCatalogue, is_segment, IsCatalogue}
use Rattle.catalogue.specs.View.{catalogue_of}
use Rattle.pages.specs.Paging.{kind_of, ArePageRuns, settled, page_texts, settled_text}
use Rattle.store_changes.specs.Change.{edit_of}
use Rattle.store_runs.specs.Changes.{edited}
use Rattle.store_changes.proofs.preparing.next_catalogue.Goals as goal

pub edited-requires-clause-sound : goal.edited-requires-clause-sound
edited-requires-clause-sound c = subst (λ (gs : List Segment). list_all is_segment gs ≡ true) (sym (c.deref.ensures.value ∙ c.in_ok-placed.ensures)) c.requires.sound

pub edited-requires-clause-stands : goal.edited-requires-clause-stands
edited-requires-clause-stands c =
    subst (λ (gs : List Segment). IsCatalogue (edited (catalogue_of c.args.stored.now.list) (edit_of c.args.edit.now) gs)) (sym (c.deref.ensures.value ∙ c.in_ok-placed.ensures)) c.requires.stands

-- the list that is settled is the edited one
pub settle-requires-clause-kind : goal.settle-requires-clause-kind
settle-requires-clause-kind c = c.requires.kind ∙ ap kind_of (sym (c.in_ok-list.ensures ∙ ap (edited (catalogue_of c.args.stored.now.list) (edit_of c.args.edit.now)) (c.deref.ensures.value ∙ c.in_ok-placed.ensures)))

pub settle-requires-clause-runs : goal.settle-requires-clause-runs
settle-requires-clause-runs c =
    subst (λ (d : PlainCatalogue). ArePageRuns d c.args.pages.now) (sym (c.in_ok-list.ensures ∙ ap (edited (catalogue_of c.args.stored.now.list) (edit_of c.args.edit.now)) (c.deref.ensures.value ∙ c.in_ok-placed.ensures))) c.requires.pages

pub returns-clause-catalogue : goal.returns-clause-catalogue
returns-clause-catalogue c =
    c.in_ok-list-2.ensures.catalogue
    ∙ ap (λ (d : PlainCatalogue). settled d c.args.pages.now) (c.in_ok-list.ensures ∙ ap (edited (catalogue_of c.args.stored.now.list) (edit_of c.args.edit.now)) (c.deref.ensures.value ∙ c.in_ok-placed.ensures))

pub returns-clause-texts : goal.returns-clause-texts
returns-clause-texts c =
    c.in_ok-list-2.ensures.texts
    ∙ ap (λ (d : PlainCatalogue). page_texts d ++ settled_text d c.args.pages.now ∷ []) (c.in_ok-list.ensures ∙ ap (edited (catalogue_of c.args.stored.now.list) (edit_of c.args.edit.now)) (c.deref.ensures.value ∙ c.in_ok-placed.ensures))
