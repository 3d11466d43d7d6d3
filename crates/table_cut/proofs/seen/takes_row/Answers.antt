use Rattle.std.proofs.Common.{◌≡◌, ◌++◌, ◌∷◌, [], List, map, length, sym, ap, ◌∙◌}
use Rattle.std.proofs.lemmas.List.{length-map}
use Rattle.arrow_schema.specs.Column.{columns_of, PlainSchema}
use Rattle.arrow_schema.specs.View.{schema_of, column_of}
use Rattle.cells.specs.Cell.{Cell}
use Rattle.cells.specs.Dictionary.{holdings_from, holdings_of}
use Rattle.table_cut.specs.inner.Seen.{LimitedCells, held_of, held_in, entries_in, with_all, are_within}
use Rattle.table_cut.proofs.SeenLemmas.{row_more, row_fits, same_count, length_with_all}
use Rattle.cells.specs.laws.Unlimited.{unlimited_fit}
use Rattle.columns.specs.Borrowed.{borrowed_cells}
use Rattle.table_cut.proofs.seen.takes_row.Goals as goal

pub returns-then-not-limited-clause-fits : goal.returns-then-not-limited-clause-fits
returns-then-not-limited-clause-fits c = λ rows seen.
    sym (unlimited_fit (schema_of c.args.schema.now) (rows ++ borrowed_cells c.args.row ∷ []) (sym c.requires.limited ∙ c.if-not-limited.true))

pub note_each-requires : goal.note_each-requires
note_each-requires c =
    let s : PlainSchema = schema_of c.args.schema.now in
    let row : List Cell = borrowed_cells c.args.row in
    let rows : List (List Cell) = c.requires.seen.0 in
    let seen = c.requires.seen.1 (sym c.requires.limited ∙ c.if-not-limited.false) in
    let held : map held_in c.deref-2.result.now ≡ map held_of (holdings_of s (row ∷ [])) =
    ap (map held_in) c.deref-2.ensures.value ∙ c.in_ok-held.ensures ∙ ap (λ fs. map held_of (holdings_from 0 (columns_of (map column_of fs)) (row ∷ []))) c.deref.ensures.value in
    sym (length-map c.args.sets.now entries_in) ∙ same_count s rows row (map entries_in c.args.sets.now) (map held_in c.deref-2.result.now) seen held
    ∙ length-map c.deref-2.result.now held_in

pub are_within-requires : goal.are_within-requires
are_within-requires c =
    let s : PlainSchema = schema_of c.args.schema.now in
    let row : List Cell = borrowed_cells c.args.row in
    let rows : List (List Cell) = c.requires.seen.0 in
    let old : List (List Cell) = map entries_in c.args.sets.now in
    let seen = c.requires.seen.1 (sym c.requires.limited ∙ c.if-not-limited.false) in
    let held : map held_in c.deref-3.result.now ≡ map held_of (holdings_of s (row ∷ [])) =
    ap (map held_in) c.deref-3.ensures.value ∙ c.in_ok-held.ensures ∙ ap (λ fs. map held_of (holdings_from 0 (columns_of (map column_of fs)) (row ∷ []))) c.deref.ensures.value in
    sym (length-map c.note_each.new.sets entries_in) ∙ ap length c.in_ok-note_each.ensures ∙ length_with_all old (map held_in c.deref-2.result.now)
    ∙ same_count s rows row old (map held_in c.deref-3.result.now) seen held ∙ length-map c.deref-3.result.now held_in

pub returns-clause-seen : goal.returns-clause-seen
returns-clause-seen c = λ rows seen limited.
    let s : PlainSchema = schema_of c.args.schema.now in
    let row : List Cell = borrowed_cells c.args.row in
    let held : map held_in c.deref-2.result.now ≡ map held_of (holdings_of s (row ∷ [])) =
    ap (map held_in) c.deref-2.ensures.value ∙ c.in_ok-held.ensures ∙ ap (λ fs. map held_of (holdings_from 0 (columns_of (map column_of fs)) (row ∷ []))) c.deref.ensures.value in
    c.in_ok-note_each.ensures ∙ ap (λ (x : List LimitedCells). with_all (map entries_in c.args.sets.now) x) held
    ∙ ap (λ (x : List (List Cell)). with_all x (map held_of (holdings_of s (row ∷ [])))) (seen limited) ∙ row_more s rows row

pub returns-clause-fits : goal.returns-clause-fits
returns-clause-fits c = λ rows seen.
    let s : PlainSchema = schema_of c.args.schema.now in
    let row : List Cell = borrowed_cells c.args.row in
    let limited = sym c.requires.limited ∙ c.if-not-limited.false in
    let held : map held_in c.deref-3.result.now ≡ map held_of (holdings_of s (row ∷ [])) =
    ap (map held_in) c.deref-3.ensures.value ∙ c.in_ok-held.ensures ∙ ap (λ fs. map held_of (holdings_from 0 (columns_of (map column_of fs)) (row ∷ []))) c.deref.ensures.value in
    let noted = returns-clause-seen c rows seen limited in
    c.are_within.ensures ∙ ap (λ (x : List LimitedCells). are_within x (map entries_in c.note_each.new.sets)) held
    ∙ ap (λ (x : List (List Cell)). are_within (map held_of (holdings_of s (row ∷ []))) x) noted ∙ row_fits s rows row
