use Rattle.std.proofs.Common.{◌≡◌, ◌∷◌, [], List, map, ap, ◌∙◌}
use Rattle.std.proofs.lemmas.Result.{IfOk-weaker}
use Rattle.arrow_schema.specs.Column.{columns_of, PlainSchema}
use Rattle.arrow_schema.specs.View.{schema_of, column_of}
use Rattle.cells.specs.Cell.{Cell}
use Rattle.cells.specs.Dictionary.{holdings_from, holdings_of}
use Rattle.table_cut.specs.inner.Seen.{held_in, held_of, entries_held}
use Rattle.table_cut.proofs.SeenLemmas.{held_entries}
use Rattle.columns.specs.Borrowed.{borrowed_cells}
use Rattle.table_cut.proofs.seen.first_entries.Goals as goal

pub returns : goal.returns
returns c =
    let s : PlainSchema = schema_of c.args.schema.now in
    let row : List Cell = borrowed_cells c.args.row in
    let held : map held_in c.deref-2.result.now ≡ map held_of (holdings_of s (row ∷ [])) =
    ap (map held_in) c.deref-2.ensures.value ∙ c.in_ok-held.ensures ∙ ap (λ fs. map held_of (holdings_from 0 (columns_of (map column_of fs)) (row ∷ []))) c.deref.ensures.value in
    IfOk-weaker c.begin.result _ _ (λ sets made limited. made ∙ ap (map entries_held) held ∙ held_entries (holdings_of s (row ∷ []))) c.begin.ensures
