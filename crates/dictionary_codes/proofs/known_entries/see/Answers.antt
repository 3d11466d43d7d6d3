use Rattle.std.specs.Prelude.{get_or}
use Rattle.std.proofs.Common.{◌≡◌, ◌∙◌, List, ap, arith, length, map}
use Rattle.std.proofs.lemmas.List.{length-map}
use Rattle.dictionary_codes.proofs.Codes.{numbers_stay, seen_grows}
use Rattle.dictionary_codes.proofs.Known.{keys_distinct}
use Rattle.dictionary_codes.proofs.known_entries.see.Goals as goal
use Rattle.cells.specs.Cell.{Cell, null}
use Rattle.cells.specs.Entry.{entry_cell}
use Rattle.columns.specs.Borrowed.{borrowed_cell}

pub returns-then-len-clause-distinct : goal.returns-then-len-clause-distinct
returns-then-len-clause-distinct c = λ distinct. keys_distinct c.number_of.new.seen.keys c.len-2.ensures.unique

pub returns-else-len-clause-distinct : goal.returns-else-len-clause-distinct
returns-else-len-clause-distinct c = λ distinct. keys_distinct c.number_of.new.seen.keys c.len-2.ensures.unique

pub returns-then-len-clause-stay : goal.returns-then-len-clause-stay
returns-then-len-clause-stay c = λ n within.
    ap (λ (xs : List Cell). get_or xs n null) c.in_ok-number.ensures.seen ∙ numbers_stay (map entry_cell c.args.seen.now.keys) (borrowed_cell c.args.cell) n within

pub returns-else-len-clause-stay : goal.returns-else-len-clause-stay
returns-else-len-clause-stay c = λ n within.
    ap (λ (xs : List Cell). get_or xs n null) c.in_ok-number.ensures.seen ∙ numbers_stay (map entry_cell c.args.seen.now.keys) (borrowed_cell c.args.cell) n within

pub returns-else-len-clause-count : goal.returns-else-len-clause-count
returns-else-len-clause-count c =
    let before : List Cell = map entry_cell c.args.seen.now.keys in
    let after : length (map entry_cell c.number_of.new.seen.keys) ≡ length _ = ap length c.in_ok-number.ensures.seen in
    omega (
      arith,
      after,
      c.reserve.ensures.count,
      seen_grows before (borrowed_cell c.args.cell),
      length-map c.args.seen.now.keys entry_cell,
      length-map c.number_of.new.seen.keys entry_cell,
      c.if-len.false,
      c.len.ensures,
      c.len-2.ensures.len,
      c.requires,
      c.reserve.new.self.written.ok.0,
    )
