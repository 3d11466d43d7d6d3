use Rattle.std.proofs.Common.{◌≡◌, List, [], ◌∷◌, Bool, true, false, ◌&&◌, ◌+◌, map, drop, ap, sym, ◌∙◌}
use Rattle.std.specs.List.{list_all}
use Rattle.arrow_schema.specs.Column.{columns_of}
use Rattle.arrow_schema.specs.View.{column_of}
use Rattle.cells.specs.Cell.{Cell}
use Rattle.cells.specs.View.{cell}
use Rattle.cells.specs.Dictionary.{has_few_entries, holdings, holdings_from, cells_at}
use Rattle.cells.proofs.HoldingLemmas.{next_column}
use Rattle.cells.proofs.holding.row_entries_fit.Goals as goal

pub loop-i-preserved : goal.loop-i-preserved
loop-i-preserved c =
    let i = c.loop-i.i in
    let rows : List (List Cell) = map cell c.args.row.now ∷ [] in
    let rest : Bool = list_all has_few_entries (holdings_from (i + 1) (columns_of (map column_of (drop (i + 1) c.args.fields.now))) rows) in
    let fit : list_all has_few_entries (holdings (column_of c.index-fields-i.result) (cells_at i rows)) ≡ true = sym c.in_ok-part_entries_fit.ensures ∙ c.if-not-branch.false in
    sym (next_column c.args.fields.now i c.index-fields-i.result rows c.loop-i-test.true c.index-fields-i.is ∙ ap (λ (b : Bool). b && rest) fit) ∙ c.loop-i.invariant

pub returns-then-not-branch : goal.returns-then-not-branch
returns-then-not-branch c =
    let i = c.loop-i.i in
    let rows : List (List Cell) = map cell c.args.row.now ∷ [] in
    let rest : Bool = list_all has_few_entries (holdings_from (i + 1) (columns_of (map column_of (drop (i + 1) c.args.fields.now))) rows) in
    let unfit : list_all has_few_entries (holdings (column_of c.index-fields-i.result) (cells_at i rows)) ≡ false = sym c.in_ok-part_entries_fit.ensures ∙ c.if-not-branch.true in
    sym (next_column c.args.fields.now i c.index-fields-i.result rows c.loop-i-test.true c.index-fields-i.is ∙ ap (λ (b : Bool). b && rest) unfit) ∙ c.loop-i.invariant
