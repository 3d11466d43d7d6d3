use Rattle.std.proofs.Common.{◌≡◌, ◌∙◌, ◌+◌, ◌++◌, ℕ, List, map, drop, rules, subst, sym, ap}
use Rattle.std.proofs.lemmas.Result.{on_ok_weaker}
use Rattle.std.specs.Prelude.{OnOk, option_map}
use Rattle.facts.specs.laws.Lists.{drop-item}
use Rattle.arrow_schema.specs.declared.types.Field.{Field, the_lemmas as field_lemmas}
use Rattle.arrow_schema.specs.Column.{columns_of}
use Rattle.arrow_schema.specs.View.{kind_of, column_of, index_of}
use Rattle.cells.specs.Cell.{Cell}
use Rattle.cells.specs.Dictionary.{Holding, own_holding, holdings, holdings_below, holdings_from, part_list, cells_at}
use Rattle.table_cut.specs.inner.Seen.{LimitedCells, held_of, held_in}
use Rattle.table_cut.proofs.SeenLemmas.{held_more}
use Rattle.columns.specs.Borrowed.{borrowed_cell}
use Rattle.table_cut.proofs.holding.+holdings.Goals as goal

pub hold_field-returns : goal.hold_field-returns
unfolding holdings
hold_field-returns t c =
    let field : Field = c.args.field.now in
    let cells : List Cell = map borrowed_cell c.args.cells.now in
    let old : List LimitedCells = map held_in c.args.held.now.items in
    let own : List Holding = own_holding (option_map index_of field.dictionary) cells in
    let below : List Holding = holdings_below (kind_of field.data_type) cells in
    let all : holdings (column_of field) cells ≡ own ++ below = search (rules, field_lemmas) in
    on_ok_weaker c.hold_below.result
    (λ (more : map held_in c.hold_below.new.held.items ≡ map held_in c.hold_own.new.held.items ++ map held_of below). more ∙ held_more old (map held_in c.hold_own.new.held.items) own below c.in_ok-hold_own.ensures ∙ ap (λ (hs : List Holding). old ++ map held_of hs) (sym all)) c.hold_below.ensures

pub hold_items-returns : goal.hold_items-returns
hold_items-returns t c =
    subst (λ (cells : List Cell). OnOk c.hold_field.result (map held_in c.hold_field.new.held.items ≡ map held_in c.args.held.now.items ++ map held_of (holdings (column_of c.args.item.now) cells)))
    (ap (map borrowed_cell) c.deref.ensures.value ∙ c.in_ok-items.ensures) c.hold_field.ensures

pub hold_parts-loop-i-preserved : goal.hold_parts-loop-i-preserved
unfolding holdings_from
hold_parts-loop-i-preserved t c =
    let i : ℕ = c.loop-i.i in
    let fields : List Field = c.args.fields.now in
    let field : Field = c.index-fields-i.result in
    let rows : List (List Cell) = map part_list (map borrowed_cell c.args.cells.now) in
    let old : List LimitedCells = map held_in c.loop-i.held.items in
    let own : List Holding = holdings (column_of field) (cells_at i rows) in
    let rest : List Holding = holdings_from (i + 1) (columns_of (map column_of (drop (i + 1) fields))) rows in
    let parts : map borrowed_cell c.deref.result.now ≡ cells_at i rows = ap (map borrowed_cell) c.deref.ensures.value ∙ c.in_ok-parts.ensures in
    let more : map held_in c.hold_field.new.held.items ≡ old ++ map held_of own =
    c.in_ok-hold_field.ensures ∙ ap (λ (cells : List Cell). old ++ map held_of (holdings (column_of field) cells)) parts in
    let before = rw (drop-item fields i field c.loop-i-test.true c.index-fields-i.is) at c.loop-i.invariant in
    held_more old (map held_in c.hold_field.new.held.items) own rest more ∙ before
