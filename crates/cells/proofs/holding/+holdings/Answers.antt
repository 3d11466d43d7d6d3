use Rattle.std.specs.Prelude.{IfOk}
use Rattle.std.specs.List.{list_all}
use Rattle.std.proofs.Common.{◌≡◌, ◌+◌, ◌&&◌, Bool, true, false, List, map, drop, ap, sym, subst, rules, ◌∙◌}
use Rattle.std.proofs.lemmas.Bool.{eqb-true}
use Rattle.std.proofs.lemmas.List.{nil_from_length}
use Rattle.arrow_schema.specs.declared.types.Field.{the_lemmas as field_lemmas}
use Rattle.arrow_schema.specs.Column.{Kind, columns_of, lists, large_lists, fixed_lists, structs}
use Rattle.arrow_schema.specs.View.{kind_of, column_of}
use Rattle.cells.specs.Cell.{Cell}
use Rattle.cells.specs.View.{cell_behind, row_behind}
use Rattle.cells.specs.Dictionary.{has_few_entries, holdings, holdings_below, holdings_from, cells_at}
use Rattle.cells.proofs.HoldingLemmas.{holdings_of_none, next_column}
use Rattle.cells.proofs.holding.+holdings.Goals as goal

pub field_entries_fit-returns-then-is_empty : goal.field_entries_fit-returns-then-is_empty
field_entries_fit-returns-then-is_empty t c =
    let none = nil_from_length c.args.cells.now (eqb-true _ _ (sym c.is_empty.ensures ∙ c.if-is_empty.true)) in
    rw none (sym (holdings_of_none (column_of c.args.field.now)))

pub entries_below_fit-returns-in-List : goal.entries_below_fit-returns-in-List
unfolding holdings_below
entries_below_fit-returns-in-List t c =
    let kind : kind_of c.args.data_type.now ≡ lists (column_of c.in-List.item.value) = rw c.in-List.is (search (rules, field_lemmas)) in
    let own : IfOk c.item_entries_fit.result (λ (b : Bool). b ≡ list_all has_few_entries (holdings_below (lists (column_of c.in-List.item.value)) (map cell_behind c.args.cells.now))) = rw c.deref.ensures at c.item_entries_fit.ensures in
    subst (λ (k : Kind). IfOk c.item_entries_fit.result (λ (b : Bool). b ≡ list_all has_few_entries (holdings_below k (map cell_behind c.args.cells.now)))) (sym kind) own

pub entries_below_fit-returns-in-LargeList : goal.entries_below_fit-returns-in-LargeList
unfolding holdings_below
entries_below_fit-returns-in-LargeList t c =
    let kind : kind_of c.args.data_type.now ≡ large_lists (column_of c.in-LargeList.item.value) = rw c.in-LargeList.is (search (rules, field_lemmas)) in
    let own : IfOk c.item_entries_fit-in-LargeList.result (λ (b : Bool). b ≡ list_all has_few_entries (holdings_below (large_lists (column_of c.in-LargeList.item.value)) (map cell_behind c.args.cells.now))) = rw c.deref-in-LargeList.ensures at c.item_entries_fit-in-LargeList.ensures in
    subst (λ (k : Kind). IfOk c.item_entries_fit-in-LargeList.result (λ (b : Bool). b ≡ list_all has_few_entries (holdings_below k (map cell_behind c.args.cells.now)))) (sym kind) own

pub entries_below_fit-returns-in-FixedSizeList : goal.entries_below_fit-returns-in-FixedSizeList
unfolding holdings_below
entries_below_fit-returns-in-FixedSizeList t c =
    let kind : kind_of c.args.data_type.now ≡ fixed_lists c.in-FixedSizeList.field-0 (column_of c.in-FixedSizeList.item.value) = rw c.in-FixedSizeList.is (search (rules, field_lemmas)) in
    let own : IfOk c.item_entries_fit-in-FixedSizeList.result (λ (b : Bool). b ≡ list_all has_few_entries (holdings_below (fixed_lists c.in-FixedSizeList.field-0 (column_of c.in-FixedSizeList.item.value)) (map cell_behind c.args.cells.now))) = rw c.deref-in-FixedSizeList.ensures at c.item_entries_fit-in-FixedSizeList.ensures in
    subst (λ (k : Kind). IfOk c.item_entries_fit-in-FixedSizeList.result (λ (b : Bool). b ≡ list_all has_few_entries (holdings_below k (map cell_behind c.args.cells.now)))) (sym kind) own

pub entries_below_fit-returns-in_ok-rows-in-Struct : goal.entries_below_fit-returns-in_ok-rows-in-Struct
unfolding holdings_below
entries_below_fit-returns-in_ok-rows-in-Struct t c =
    let kind : kind_of c.args.data_type.now ≡ structs (columns_of (map column_of c.in-Struct.fields.items)) = rw c.in-Struct.is (search (rules, field_lemmas)) in
    let own : IfOk c.column_entries_fit.result (λ (b : Bool). b ≡ list_all has_few_entries (holdings_below (structs (columns_of (map column_of c.in-Struct.fields.items))) (map cell_behind c.args.cells.now))) = rw (c.deref-in-Struct.ensures.value, c.deref-in-Struct-2.ensures.value, c.in_ok-rows-in-Struct.ensures) at c.column_entries_fit.ensures in
    subst (λ (k : Kind). IfOk c.column_entries_fit.result (λ (b : Bool). b ≡ list_all has_few_entries (holdings_below k (map cell_behind c.args.cells.now)))) (sym kind) own

pub column_entries_fit-loop-i-preserved : goal.column_entries_fit-loop-i-preserved
column_entries_fit-loop-i-preserved t c =
    let i = c.loop-i.i in
    let rows : List (List Cell) = map row_behind c.args.rows.now in
    let rest : Bool = list_all has_few_entries (holdings_from (i + 1) (columns_of (map column_of (drop (i + 1) c.args.fields.now))) rows) in
    let fit : list_all has_few_entries (holdings (column_of c.index-fields-i.result) (cells_at i rows)) ≡ true = sym c.in_ok-place_entries_fit.ensures ∙ c.if-not-branch.false in
    sym (next_column c.args.fields.now i c.index-fields-i.result rows c.loop-i-test.true c.index-fields-i.is ∙ ap (λ (b : Bool). b && rest) fit) ∙ c.loop-i.invariant

pub column_entries_fit-returns-then-not-branch : goal.column_entries_fit-returns-then-not-branch
column_entries_fit-returns-then-not-branch t c =
    let i = c.loop-i.i in
    let rows : List (List Cell) = map row_behind c.args.rows.now in
    let rest : Bool = list_all has_few_entries (holdings_from (i + 1) (columns_of (map column_of (drop (i + 1) c.args.fields.now))) rows) in
    let unfit : list_all has_few_entries (holdings (column_of c.index-fields-i.result) (cells_at i rows)) ≡ false = sym c.in_ok-place_entries_fit.ensures ∙ c.if-not-branch.true in
    sym (next_column c.args.fields.now i c.index-fields-i.result rows c.loop-i-test.true c.index-fields-i.is ∙ ap (λ (b : Bool). b && rest) unfit) ∙ c.loop-i.invariant
