use Rattle.std.proofs.Common.{◌∙◌, ap, map}
use Rattle.cells.specs.Entry.{entry_cell}
use Rattle.columns.specs.Built.{place_or_zero}
use Rattle.columns.specs.Borrowed.{borrowed_cell}
use Rattle.batch_build.proofs.Entries.{place_is, place_among, index_is}
use Rattle.batch_build.proofs.dictionary_cells.entry_index.Goals as goal

pub returns-in-None : goal.returns-in-None
returns-in-None c =
    let entries = map entry_cell c.args.entries.now.keys in
    ap (place_among entries) c.in-None.ensures ∙ index_is entries (borrowed_cell c.args.cell)

pub returns-in-None-get_index_of : goal.returns-in-None-get_index_of
returns-in-None-get_index_of c =
    let entries = map entry_cell c.args.entries.now.keys in
    ap place_or_zero (c.in-None-get_index_of.ensures.index ∙ place_is c.in-Some.entry c.args.entries.now.keys)
    ∙ ap (place_among entries) c.in-Some.ensures ∙ index_is entries (borrowed_cell c.args.cell)

pub returns-in-Some-get_index_of : goal.returns-in-Some-get_index_of
returns-in-Some-get_index_of c =
    let entries = map entry_cell c.args.entries.now.keys in
    ap place_or_zero (c.in-Some-get_index_of.ensures.index ∙ place_is c.in-Some.entry c.args.entries.now.keys)
    ∙ ap (place_among entries) c.in-Some.ensures ∙ index_is entries (borrowed_cell c.args.cell)
