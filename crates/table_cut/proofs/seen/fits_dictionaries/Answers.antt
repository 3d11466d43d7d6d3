use Rattle.std.proofs.Common.{◌≡◌, ◌∷◌, [], List, map, length, sym, ap, ◌∙◌}
use Rattle.std.proofs.lemmas.List.{length-map}
use Rattle.arrow_schema.specs.Column.{columns_of, PlainSchema}
use Rattle.arrow_schema.specs.View.{schema_of, column_of}
use Rattle.cells.specs.Cell.{Cell}
use Rattle.cells.specs.Dictionary.{holdings_from, holdings_of, entries_of}
use Rattle.table_cut.specs.inner.Seen.{LimitedCells, held_in, held_of, entries_in, entries_held, are_within}
use Rattle.table_cut.proofs.SeenLemmas.{held_entries, row_fits}
use Rattle.columns.specs.Borrowed.{borrowed_cells}
use Rattle.table_cut.proofs.seen.fits_dictionaries.Goals as goal

pub are_within-requires : goal.are_within-requires
are_within-requires c =
    sym (length-map c.deref-3.result.now entries_in) ∙ ap (λ sets. length (map entries_in sets)) c.deref-3.ensures.value ∙ ap length c.in_ok-sets.ensures
    ∙ length-map (map held_in c.deref-2.result.now) entries_held ∙ length-map c.deref-2.result.now held_in ∙ ap length (c.deref-2.ensures.value ∙ sym c.deref-4.ensures.value)

pub returns : goal.returns
returns c =
    let s : PlainSchema = schema_of c.args.schema.now in
    let row : List Cell = borrowed_cells c.args.row in
    let own : map held_in c.in_ok-held.held.items ≡ map held_of (holdings_of s (row ∷ [])) =
    c.in_ok-held.ensures ∙ ap (λ fs. map held_of (holdings_from 0 (columns_of (map column_of fs)) (row ∷ []))) c.deref.ensures.value in
    let sets : map entries_in c.deref-3.result.now ≡ map (λ h. entries_of h.cells) (holdings_of s (row ∷ [])) =
    ap (map entries_in) c.deref-3.ensures.value ∙ c.in_ok-sets.ensures ∙ ap (λ (hs : List LimitedCells). map entries_held hs) (ap (map held_in) c.deref-2.ensures.value ∙ own) ∙ held_entries (holdings_of s (row ∷ [])) in
    c.are_within.ensures ∙ (λ i. are_within ((ap (map held_in) c.deref-4.ensures.value ∙ own) i) (sets i)) ∙ row_fits s [] row
