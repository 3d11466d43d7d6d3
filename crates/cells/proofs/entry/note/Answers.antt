use Rattle.std.proofs.Common.{◌∙◌, ap, sym, List, map}
use Rattle.std.specs.Prelude.{Option}
use Rattle.cells.specs.declared.entry.Entry.{Entry}
use Rattle.cells.specs.Dictionary.{with_option}
use Rattle.cells.specs.Entry.{entry_cell, entry_cell_of}
use Rattle.cells.specs.laws.EntryEquality.{put_is}
use Rattle.cells.proofs.entry.note.Goals as goal

pub returns-in_ok-insert-clause-noted : goal.returns-in_ok-insert-clause-noted
returns-in_ok-insert-clause-noted c =
    ap (λ (ks : List Entry). map entry_cell ks) c.in_ok-insert.ensures.keys
    ∙ put_is c.in-Some.entry c.args.entries.now.keys
    ∙ ap (λ (o : Option Entry). with_option (map entry_cell c.args.entries.now.keys) (entry_cell_of o)) (sym c.in-Some.is)
