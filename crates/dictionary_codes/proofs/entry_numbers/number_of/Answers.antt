use Rattle.std.specs.Prelude.{Option}
use Rattle.std.proofs.Common.{◌≡◌, ◌∙◌, List, ap, map, sym}
use Rattle.dictionary_codes.proofs.Codes.{entry_is}
use Rattle.dictionary_codes.proofs.Known.{key_cell}
use Rattle.dictionary_codes.proofs.entry_numbers.number_of.Goals as goal
use Rattle.cells.specs.Cell.{Cell}
use Rattle.cells.specs.Dictionary.{is_entry, with_option}
use Rattle.cells.specs.Entry.{entry_cell}
use Rattle.cells.specs.declared.entry.Entry.{Entry}
use Rattle.cells.specs.laws.EntryEquality.{entry_eq_is, put_is}
use Rattle.columns.specs.Borrowed.{borrowed_cell}

pub returns-in_ok-number-in-Some-clause-seen : goal.returns-in_ok-number-in-Some-clause-seen
returns-in_ok-number-in-Some-clause-seen c =
    ap (λ (ks : List Entry). map entry_cell ks) c.in_ok-number-in-Some.ensures.keys
    ∙ put_is c.in-Some.entry c.args.seen.now.keys
    ∙ ap (λ (o : Option Cell). with_option (map entry_cell c.args.seen.now.keys) o) c.in-Some.ensures

pub returns-in_ok-number-in-Some-clause-number : goal.returns-in_ok-number-in-Some-clause-number
returns-in_ok-number-in-Some-clause-number c =
    let e : Entry = c.in-Some.entry in
    let stored = c.in_ok-number-in-Some.ensures.stored in
    let cell : entry_cell e ≡ borrowed_cell c.args.cell = entry_is (borrowed_cell c.args.cell) (entry_cell e) c.in-Some.ensures in
    ap (is_entry (borrowed_cell c.args.cell)) (key_cell c.insert_full.new.self.keys _ stored.0 stored.1)
    ∙ ap (λ (x : Cell). is_entry x (entry_cell stored.0)) (sym cell)
    ∙ sym (entry_eq_is e stored.0) ∙ stored.2
