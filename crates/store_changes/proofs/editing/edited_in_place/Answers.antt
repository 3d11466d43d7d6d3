use Rattle.std.proofs.Common.{◌≡◌, ◌∙◌, ℕ, true, List, Some, length, string_bytes, sym, ap, subst}
use Rattle.std.specs.List.{list_all}
use Rattle.catalogue.specs.Edits.{with_exchanged}
use Rattle.catalogue.specs.View.{catalogue_of}
use Rattle.catalogue.specs.Entries.{IsCatalogue, is_digest, is_entry}
use Rattle.store_changes.specs.declared.change.Edit.{Edit}
use Rattle.arrow_schema.specs.View.{schema_of}
use Rattle.catalogue.specs.Edits.{entry_of}
use Rattle.catalogue.specs.laws.Kept.{catalogue_is}
use Rattle.store_changes.specs.Change.{edit_of}
use Rattle.store_runs.specs.Changes.{new_entry, page_instead, edited}
use Rattle.store_changes.proofs.EditedCounts.{CanEdit, put_is_entry, extend_is_few}
use Rattle.store_changes.proofs.editing.edited_in_place.Goals as goal

pub put-requires-clause-entry : goal.put-requires-clause-entry
put-requires-clause-entry c =
    let listed = catalogue_of c.args.catalogue in
    ap is_entry (c.in_ok-new_entry-in-Put.ensures ∙ ap (new_entry (string_bytes c.in-Put.name) (schema_of c.in-Put.schema) c.args.segments.now) (c.in_ok-page-in-Put.ensures ∙ ap (λ (n : List ℕ). page_instead (entry_of listed n) (schema_of c.in-Put.schema) c.args.segments.now) c.deref.ensures))
    ∙ put_is_entry listed c.args.edit.now c.in-Put.name c.in-Put.schema c.args.segments.now c.in-Put.is c.requires.edit (catalogue_is listed c.args.catalogue.kept) c.requires.sound

pub append_segments-requires-clause-most : goal.append_segments-requires-clause-most
append_segments-requires-clause-most c =
    extend_is_few (catalogue_of c.args.catalogue) c.args.edit.now c.in-Extend.name c.args.segments.now c.in-Extend.is c.requires.edit c.requires.stands

pub exchange_segments-requires : goal.exchange_segments-requires
exchange_segments-requires c =
    let listed = catalogue_of c.args.catalogue in
    let name = c.in-Exchange.name in
    let place = c.in-Exchange.place in
    let count = c.in-Exchange.count in
    let stands = subst (λ (x : Edit). IsCatalogue (edited listed (edit_of x) c.args.segments.now)) c.in-Exchange.is c.requires.stands in
    subst (λ (n : List ℕ). IsCatalogue (with_exchanged listed n place count c.args.segments.now)) (sym c.deref-in-Exchange.ensures) stands

pub set_digests-requires-clause-count : goal.set_digests-requires-clause-count
set_digests-requires-clause-count c =
    let listed = catalogue_of c.args.catalogue in
    let can = subst (λ (x : Edit). CanEdit listed x) c.in-Digest.is c.requires.edit in
    sym can.1.0 ∙ ap (λ (ds : List (List ℕ)). length ds) (sym c.deref-in-Digest.ensures.value)

pub set_digests-requires-clause-digests : goal.set_digests-requires-clause-digests
set_digests-requires-clause-digests c =
    let listed = catalogue_of c.args.catalogue in
    let can = subst (λ (x : Edit). CanEdit listed x) c.in-Digest.is c.requires.edit in
    subst (λ (ds : List (List ℕ)). list_all (λ (d : List ℕ). is_digest (Some d)) ds ≡ true) (sym c.deref-in-Digest.ensures.value) can.1.1
