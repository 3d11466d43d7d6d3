use Rattle.std.proofs.Common.{List, length, map, drop, ◌+◌, sym, ap, ◌∙◌, arith}
use Rattle.std.proofs.lemmas.Bool.{lt-leb}
use Rattle.std.proofs.lemmas.List.{length-map}
use Rattle.cells.specs.Cell.{Cell}
use Rattle.cells.specs.View.{cell, cell_behind}
use Rattle.cells.specs.Entry.{entry_cell}
use Rattle.cells.specs.Dictionary.{with_option, with_entry}
use Rattle.cells.specs.laws.Entries.{entries_grow}
use Rattle.cells.proofs.HoldingLemmas.{next_value}
use Rattle.cells.proofs.holding.stay_few.Goals as goal

pub returns-then-len-most : goal.returns-then-len-most
returns-then-len-most c =
    let e = next_value (map entry_cell c.loop-value.entries.keys) c.args.cells.now c.loop-value.value-index c.value-item.result c.loop-value-test.true c.value-item.is in
    let all = ap (λ (cs : List Cell). length cs) (sym e ∙ c.loop-value.invariant.0) in
    let grown = entries_grow (with_entry (map entry_cell c.loop-value.entries.keys) (cell c.value-item.result.now)) (map cell_behind (drop (c.loop-value.value-index + 1) c.args.cells.now)) in
    let noted = ap (λ (cs : List Cell). length cs) (c.in_ok-note.ensures.noted ∙ ap (with_option (map entry_cell c.loop-value.entries.keys)) c.entry_of.ensures) in
    let same = length-map c.note.new.entries.keys entry_cell in
    sym (lt-leb _ _ (omega (arith, all, grown, noted, same)))
